-- Nodes of a level by their place in it: where each begins, which positions it covers, and what of a level depends on its values alone.
use Rattle.std.proofs.Common.{◌≡◌, ◌≢◌, Bool, true, false, cond, List, Option, Some, None, [], ◌∷◌, ◌++◌, refl, sym, ap, ◌∙◌, subst, append_assoc}
use Rattle.std.specs.Prelude.{All, IsSome, is_some, unwrap_or}
use Rattle.std.specs.BTreeMap.{is_at}
use Rattle.std.specs.List.{filter}
use Rattle.std.specs.List.Sorted.{IsStrictlySortedBy}
use Rattle.std.specs.Map.{keys_of}
use Rattle.std.specs.Ordering.{is_eq, is_le, is_lt, ordering_reverse}
use Rattle.std.specs.declared.cmp.Ordering.{Ordering}
use Rattle.std.specs.declared.cmp.Ordering.TheVariants.{Less, Equal, Greater}
use Rattle.std.proofs.lemmas.Bool.{true≢false}
use Rattle.std.proofs.lemmas.Cmp.{tied_itself}
use Rattle.std.proofs.lemmas.List.Kept.{IsStrictlySortedBy-filter}
use Rattle.std.proofs.lemmas.List.Elements.{All-head, All-tail}
use Rattle.std.proofs.lemmas.Map.Entries.{lookup_head, lookup_tail, lookup-filter-keys}
use Rattle.std.proofs.lemmas.Option.{same_Some}
use Rattle.tree_nodes.specs.CoverLaws.{before-node, covered-once, last-step, least-le, node_at-covers, node_at-some}
use Rattle.tree_nodes.specs.Levels.{Covers, EndsAt, IsRow, Level, follower_of, last_of, least_of, node_at}
use Rattle.tree_nodes.specs.RowLaws.{at_end, same_at}
use Rattle.vol_types.specs.KeyMaps.{Entries}
use Rattle.vol_types.specs.MapLaws.{IsMap-parts, same_maps}
use Rattle.vol_types.specs.Maps.{IsMap, value_at}
use Rattle.vol_types.specs.PositionLaws.{pos_exact, pos_total}
use Rattle.vol_types.specs.Positions.{IsBefore, IsWithin, greatest_pos, pos_cmp}
use Rattle.vol_types.specs.Widths.{PosFits}
use Rattle.vol_types.specs.declared.pointers.NodePtr.{NodePtr}
use Rattle.vol_types.specs.declared.positions.Pos.{Pos}
use Rattle.vol_types.specs.declared.values.Value.{Value}

-- the position behind some nodes
abbrev pub behind : Level → Pos
behind front = follower_of (last_of front)

-- The last node is the one that was put behind the others.
pub last_pushed : (front : Level) (e : Pos × NodePtr) → last_of (front ++ e ∷ []) ≡ Some e
last_pushed [] e = refl
last_pushed (d ∷ front) e = last-step d (front ++ e ∷ []) ∙ ap (λ o. Some (unwrap_or o d)) (last_pushed front e)

-- A node begins behind those in front of it.
pub least_there : (whole front : Level) (e : Pos × NodePtr) (back : Level) → IsMap pos_cmp whole → front ++ e ∷ back ≡ whole → least_of e.0 whole ≡ behind front
least_there whole front e back rises is = ap (least_of e.0) (sym is) ∙ ap (λ xs. follower_of (last_of xs)) (before-node front e back (subst (IsMap pos_cmp) (sym is) rises))

-- Its position leads to it.
pub value_there : (front : Level) (e : Pos × NodePtr) (back : Level) → IsMap pos_cmp (front ++ e ∷ back) → value_at pos_cmp e.0 (front ++ e ∷ back) ≡ Some e.1
value_there [] e back rises = lookup_head (is_at (pos_cmp e.0)) e back (ap is_eq (tied_itself pos_total e.0))
value_there (d ∷ front) e back rises =
    let parts = IsMap-parts pos_cmp (d ∷ front) (e ∷ back) rises in
    let later = IsMap-parts pos_cmp (d ∷ []) (front ++ e ∷ back) rises in
    lookup_tail (is_at (pos_cmp e.0)) d (front ++ e ∷ back) (ap is_eq (pos_total.antisymm e.0 d.0 ∙ ap ordering_reverse parts.2.0.0)) ∙ value_there front e back later.1

-- So it is in the whole level.
pub stands_there : (whole front : Level) (e : Pos × NodePtr) (back : Level) → IsMap pos_cmp whole → front ++ e ∷ back ≡ whole → value_at pos_cmp e.0 whole ≡ Some e.1
stands_there whole front e back rises is = subst (λ xs. value_at pos_cmp e.0 xs ≡ Some e.1) is (value_there front e back (subst (IsMap pos_cmp) (sym is) rises))

-- What comes next stands behind one more.
pub step_on : (whole front : Level) (e : Pos × NodePtr) (back : Level) → front ++ e ∷ back ≡ whole → (front ++ e ∷ []) ++ back ≡ whole
step_on whole front e back is = append_assoc front (e ∷ []) back ∙ is

-- A position is one or another.
pub at_or_not : (p q : Pos) (P : Type 0) → (p ≡ q → P) → (is_at (pos_cmp p) q ≡ false → P) → P
at_or_not p q P same apart = by (is_at (pos_cmp p) q) refl
  where
    by : (b : Bool) → is_at (pos_cmp p) q ≡ b → P
    by true is = same (same_at p q is)
    by false is = apart is

-- Positions that differ aren't found at each other.
pub not_at : (p q : Pos) → p ≢ q → is_at (pos_cmp p) q ≡ false
not_at p q apart = at_or_not p q (is_at (pos_cmp p) q ≡ false) (λ same. absurd (apart same)) (λ is. is)

-- A position before another isn't at it.
pub before_apart : (p q : Pos) → IsBefore p q → p ≢ q
before_apart p q before same = true≢false (ap is_lt (sym before ∙ ap (λ x. pos_cmp x q) same ∙ tied_itself pos_total q))

-- A position is before another, or it isn't.
pub before_or_not : (p q : Pos) (P : Type 0) → (IsBefore p q → P) → (pos_cmp q p ≢ Greater → P) → P
before_or_not p q P before after = by (pos_cmp p q) refl
  where
    by : (r : Ordering) → pos_cmp p q ≡ r → P
    by Less is = before is
    by Equal is = after (λ up. true≢false (ap is_eq (ap ordering_reverse (sym is) ∙ sym (pos_total.antisymm q p) ∙ up)))
    by Greater is = after (λ up. true≢false (ap is_lt (ap ordering_reverse (sym is) ∙ sym (pos_total.antisymm q p) ∙ up)))

-- One before another isn't at or after it.
pub not_both : (p q : Pos) → IsBefore p q → pos_cmp q p ≢ Greater → ⊥
not_both p q before after = after (pos_total.antisymm q p ∙ ap ordering_reverse before)

-- Whether a position is in a range is decided.
pub within_or_not : (first last p : Pos) (P : Type 0) → (IsWithin first last p → P) → (¬ IsWithin first last p → P) → P
within_or_not first last p P inside outside =
    before_or_not p first P
    (λ low. outside (λ within. not_both p first low within.0))
    (λ from. before_or_not last p P (λ high. outside (λ within. not_both last p high within.1)) (λ to. inside (from, to)))

-- What isn't in a range is before or after it.
pub outside_is : (first last p : Pos) (P : Type 0) → ¬ IsWithin first last p → (IsBefore p first → P) → (IsBefore last p → P) → P
outside_is first last p P outside low high =
    before_or_not p first P low (λ from. before_or_not last p P high (λ to. absurd (outside (from, to))))

-- ---- parts of a level, or of entries

-- The keys of a part are a part of the keys.
keys_kept : {V : Type 0} (p : Pos → Bool) (nodes : List (Pos × V)) → keys_of (filter (λ e. p e.0) nodes) ≡ filter p (keys_of nodes)
keys_kept p [] = refl
keys_kept p (e ∷ es) = by (p e.0) (keys_kept p es)
  where
    by : (b : Bool) → keys_of (filter (λ x. p x.0) es) ≡ filter p (keys_of es) → keys_of (cond b (e ∷ filter (λ x. p x.0) es) (filter (λ x. p x.0) es)) ≡ cond b (e.0 ∷ filter p (keys_of es)) (filter p (keys_of es))
    by true later = ap (λ ks. e.0 ∷ ks) later
    by false later = later

-- A part of a map is a map.
pub part_rises : {V : Type 0} (p : Pos → Bool) (nodes : List (Pos × V)) → IsMap pos_cmp nodes → IsMap pos_cmp (filter (λ e. p e.0) nodes)
part_rises p nodes rises = subst (IsStrictlySortedBy pos_cmp) (sym (keys_kept p nodes)) (IsStrictlySortedBy-filter pos_cmp p (keys_of nodes) rises)

-- A part has the values at the positions that pass.
pub part_value : {V : Type 0} (p : Pos → Bool) (q : Pos) (nodes : List (Pos × V)) → value_at pos_cmp q (filter (λ e. p e.0) nodes) ≡ cond (p q) (value_at pos_cmp q nodes) None
part_value p q nodes = lookup-filter-keys (is_at (pos_cmp q)) p (p q) (λ k is. ap p (sym (same_at q k is))) nodes

-- Where two levels have the same nodes at positions that have their widths, they have them at all.
pub fitting_values : (one other : Level) (q : Pos) → All PosFits (keys_of one) → All PosFits (keys_of other) → (PosFits q → value_at pos_cmp q one ≡ value_at pos_cmp q other) → value_at pos_cmp q one ≡ value_at pos_cmp q other
fitting_values one other q fits others same = by (value_at pos_cmp q one) refl (value_at pos_cmp q other) refl
  where
    by : (o : Option NodePtr) → value_at pos_cmp q one ≡ o → (p : Option NodePtr) → value_at pos_cmp q other ≡ p → value_at pos_cmp q one ≡ value_at pos_cmp q other
    by None is None are = is ∙ sym are
    by (Some node) is p are = same (at_end PosFits one q fits (ap is_some is))
    by None is (Some node) are = same (at_end PosFits other q others (ap is_some are))

pub key_end : (P : Pos → Type 0) (entries : Entries) (at : Pos) → All P (keys_of entries) → IsSome (value_at pos_cmp at entries) → P at
key_end P [] at all some = absurd (true≢false (sym some))
key_end P (e ∷ es) at all some = by (is_at (pos_cmp at) e.0) refl some (key_end P es at (All-tail P e.0 (keys_of es) all))
  where
    by : (b : Bool) → is_at (pos_cmp at) e.0 ≡ b → IsSome (cond b (Some e.1) (value_at pos_cmp at es)) → (IsSome (value_at pos_cmp at es) → P at) → P at
    by true is found later = subst P (sym (same_at at e.0 is)) (All-head P e.0 (keys_of es) all)
    by false is found later = later found

-- So it is of entries.
pub fitting_entries : (one other : Entries) (q : Pos) → All PosFits (keys_of one) → All PosFits (keys_of other) → (PosFits q → value_at pos_cmp q one ≡ value_at pos_cmp q other) → value_at pos_cmp q one ≡ value_at pos_cmp q other
fitting_entries one other q fits others same = by (value_at pos_cmp q one) refl (value_at pos_cmp q other) refl
  where
    by : (o : Option Value) → value_at pos_cmp q one ≡ o → (p : Option Value) → value_at pos_cmp q other ≡ p → value_at pos_cmp q one ≡ value_at pos_cmp q other
    by None is None are = is ∙ sym are
    by (Some value) is p are = same (key_end PosFits one q fits (ap is_some is))
    by None is (Some value) are = same (key_end PosFits other q others (ap is_some are))

-- The parts of two levels that have the same nodes at the positions that pass are the same.
pub same_parts : (p : Pos → Bool) (one other : Level) → IsMap pos_cmp one → IsMap pos_cmp other → ((q : Pos) → p q ≡ true → value_at pos_cmp q one ≡ value_at pos_cmp q other) → filter (λ e. p e.0) one ≡ filter (λ e. p e.0) other
same_parts p one other rises others same =
    same_maps pos_total pos_exact (filter (λ e. p e.0) one) (filter (λ e. p e.0) other) (part_rises p one rises) (part_rises p other others)
    (λ q. part_value p q one ∙ by q (p q) refl ∙ sym (part_value p q other))
  where
    by : (q : Pos) (b : Bool) → p q ≡ b → cond (p q) (value_at pos_cmp q one) None ≡ cond (p q) (value_at pos_cmp q other) None
    by q true is = ap (λ o. cond (p q) o None) (same q is)
    by q false is = ap (λ b. cond b (value_at pos_cmp q one) None) is ∙ sym (ap (λ b. cond b (value_at pos_cmp q other) None) is)

-- ---- the node that covers a position

-- The node that covers a position, which has its widths.
pub record IsCovering (nodes : Level) (pos : Pos) : Type 0 where
  pub at : Pos
  pub node : NodePtr
  pub found : node_at pos nodes ≡ Some (at, node)
  pub there : value_at pos_cmp at nodes ≡ Some node
  pub covers : Covers nodes at pos

-- What ends at a position is a node.
pub ending : (nodes : Level) (at : Pos) → EndsAt nodes at → (node : NodePtr) × (value_at pos_cmp at nodes ≡ Some node)
ending nodes at ends = by (value_at pos_cmp at nodes) refl ends
  where
    by : (o : Option NodePtr) → value_at pos_cmp at nodes ≡ o → IsSome o → (node : NodePtr) × (value_at pos_cmp at nodes ≡ Some node)
    by None is some = absurd (true≢false (sym some))
    by (Some node) is some = (node, is)

-- Where a node covers a position it is the one that is found for it.
pub covering : (nodes : Level) (at pos : Pos) → IsRow nodes → PosFits pos → Covers nodes at pos → IsCovering nodes pos
covering nodes at pos row fits covers =
    let node = ending nodes at covers.there in
    record { at = at; node = node.0; found = covered-once pos at node.0 nodes row fits node.1 covers.within; there = node.1; covers = covers }

-- The found one covers the position.
pub found_covers : (nodes : Level) (pos : Pos) (node : Pos × NodePtr) → IsRow nodes → PosFits pos → node_at pos nodes ≡ Some node → (value_at pos_cmp node.0 nodes ≡ Some node.1) × Covers nodes node.0 pos
found_covers nodes pos node row fits is =
    let covers = node_at-covers pos nodes node row fits is in
    let own = covering nodes node.0 pos row fits covers in
    let same : (own.at, own.node) ≡ node = same_Some (own.at, own.node) node (sym own.found ∙ is) in
    (subst (λ (n : Pos × NodePtr). value_at pos_cmp n.0 nodes ≡ Some n.1) same own.there, covers)

-- Each position that has its widths is covered.
pub some_covers : (nodes : Level) (pos : Pos) → IsRow nodes → EndsAt nodes greatest_pos → PosFits pos → IsCovering nodes pos
some_covers nodes pos row ends fits = by (node_at pos nodes) refl (node_at-some pos nodes ends fits)
  where
    by : (o : Option (Pos × NodePtr)) → node_at pos nodes ≡ o → IsSome o → IsCovering nodes pos
    by None is some = absurd (true≢false (sym some))
    by (Some node) is some = covering nodes node.0 pos row fits (node_at-covers pos nodes node row fits is)

-- Nodes that cover one position end at the same.
pub covers_once : (nodes : Level) (one other pos : Pos) → IsRow nodes → PosFits pos → Covers nodes one pos → Covers nodes other pos → one ≡ other
covers_once nodes one other pos row fits first second =
    let a = ending nodes one first.there in
    let b = ending nodes other second.there in
    ap (λ (n : Pos × NodePtr). n.0)
    (same_Some (one, a.0) (other, b.0) (sym (covered-once pos one a.0 nodes row fits a.1 first.within) ∙ covered-once pos other b.0 nodes row fits b.1 second.within))

-- A node covers its end.
pub covers_end : (nodes : Level) (at : Pos) → IsRow nodes → EndsAt nodes at → Covers nodes at at
covers_end nodes at row ends = record {
  there = ends;
  within = (not_greater (pos_cmp (least_of at nodes) at) (least-le at nodes row.fits (at_end PosFits nodes at row.fits ends)), λ is. true≢false (ap is_eq (sym (tied_itself pos_total at) ∙ is)));
}
  where
    not_greater : (r : Ordering) → is_le r ≡ true → r ≢ Greater
    not_greater r le is = true≢false (sym le ∙ ap is_le is)
