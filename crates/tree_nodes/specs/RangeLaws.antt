-- The ranges of the nodes of a level after one was put or divided.
use Rattle.std.proofs.Common.{◌≡◌, ◌≢◌, Bool, true, false, cond, Option, Some, None, List, [], ◌∷◌, refl, sym, ap, ◌∙◌, subst}
use Rattle.std.specs.Prelude.{IsSome, is_some, option_map, unwrap_or}
use Rattle.std.specs.BTreeMap.{is_at}
use Rattle.std.specs.List.{AllByRecursion, filter}
use Rattle.std.specs.Map.{keys_of}
use Rattle.std.specs.Ordering.{is_eq, is_lt, match_ordering, ordering_reverse}
use Rattle.std.specs.declared.cmp.Ordering.{Ordering}
use Rattle.std.specs.declared.cmp.Ordering.TheVariants.{Less, Equal, Greater}
use Rattle.std.proofs.lemmas.Bool.{true≢false}
use Rattle.std.proofs.lemmas.Cmp.{tied_itself}
use Rattle.std.proofs.lemmas.List.Elements.{All-from_recursion}
use Rattle.std.proofs.lemmas.Map.Keys.{sorted_head, sorted_tail}
use Rattle.std.proofs.lemmas.Option.{same_Some}
use Rattle.vol_types.specs.MapLaws.{IsMap-parts, IsMap-with_value}
use Rattle.vol_types.specs.Maps.{IsMap, value_at, with_value}
use Rattle.vol_types.specs.PositionLaws.{pos_total, pos_exact}
use Rattle.vol_types.specs.Positions.{pos_cmp, IsBefore, greatest_pos, next_pos}
use Rattle.vol_types.specs.Widths.{PosFits}
use Rattle.vol_types.specs.declared.pointers.NodePtr.{NodePtr}
use Rattle.vol_types.specs.declared.positions.Pos.{Pos}
use Rattle.tree_nodes.specs.CoverLaws.{before-covered, covered-once, last-step, least-same, parted}
use Rattle.vol_types.specs.FollowerLaws.{has_follower, not_greatest}
use Rattle.tree_nodes.specs.Levels.{Level, Covers, EndsAt, IsRow, follower_of, halved, last_of, least_of, nodes_before, nodes_from}
use Rattle.tree_nodes.specs.RowLaws.{at_end, ends-stay, kept-ends, same_at}

-- what holds of all positions holds of those that a test leaves
all_kept : (P : Pos → Type 0) (t : Pos × NodePtr → Bool) (nodes : Level) → AllByRecursion P (keys_of nodes) → AllByRecursion P (keys_of (filter t nodes))
all_kept P t [] all = tt
all_kept P t (e ∷ es) all = by (t e) (all_kept P t es all.1)
  where
    by : (b : Bool) → AllByRecursion P (keys_of (filter t es)) → AllByRecursion P (keys_of (cond b (e ∷ filter t es) (filter t es)))
    by true later = (all.0, later)
    by false later = later

-- what all are above is put in front of them
put_first : (at : Pos) (node : NodePtr) (nodes : Level) → AllByRecursion (λ q. pos_cmp at q ≡ Less) (keys_of nodes) → with_value pos_cmp at node nodes ≡ (at, node) ∷ nodes
put_first at node [] above = refl
put_first at node (e ∷ es) above = ap (λ r. match_ordering r ((at, node) ∷ e ∷ es) ((e.0, node) ∷ es) (e ∷ with_value pos_cmp at node es)) above.0

-- what is below a lower one is below all that it is below
below_all : (low high : Pos) (keys : List Pos) → pos_cmp low high ≡ Less → AllByRecursion (λ q. pos_cmp high q ≡ Less) keys → AllByRecursion (λ q. pos_cmp low q ≡ Less) keys
below_all low high [] less all = tt
below_all low high (k ∷ ks) less all = (pos_total.trans low high k less all.0, below_all low high ks less all.1)

module _ (p : Pos → Bool) (at : Pos) (node : NodePtr) where
  -- The nodes that pass a test, after one was put: it is among them where it passes.
  pub kept-put : (nodes : Level) → IsMap pos_cmp nodes → filter (λ e. p e.0) (with_value pos_cmp at node nodes) ≡ cond (p at) (with_value pos_cmp at node (filter (λ e. p e.0) nodes)) (filter (λ e. p e.0) nodes)
  kept-put [] rises = refl
  kept-put (e ∷ es) rises = by (pos_cmp at e.0) refl (kept-put es (sorted_tail pos_cmp e.0 (keys_of es) rises))
    where
      replaced : (b : Bool) (kept : Level) → pos_cmp at e.0 ≡ Equal → cond b ((e.0, node) ∷ kept) kept ≡ cond b (with_value pos_cmp at node (cond b (e ∷ kept) kept)) (cond b (e ∷ kept) kept)
      replaced true kept is = ap (λ r. match_ordering r ((at, node) ∷ e ∷ kept) ((e.0, node) ∷ kept) (e ∷ with_value pos_cmp at node kept)) (sym is)
      replaced false kept is = refl

      later_put : (b c : Bool) (kept : Level) → pos_cmp at e.0 ≡ Greater → cond b (e ∷ cond c (with_value pos_cmp at node kept) kept) (cond c (with_value pos_cmp at node kept) kept) ≡ cond c (with_value pos_cmp at node (cond b (e ∷ kept) kept)) (cond b (e ∷ kept) kept)
      later_put true true kept is = ap (λ r. match_ordering r ((at, node) ∷ e ∷ kept) ((e.0, node) ∷ kept) (e ∷ with_value pos_cmp at node kept)) (sym is)
      later_put true false kept is = refl
      later_put false c kept is = refl

      by : (r : Ordering) → pos_cmp at e.0 ≡ r → filter (λ e. p e.0) (with_value pos_cmp at node es) ≡ cond (p at) (with_value pos_cmp at node (filter (λ e. p e.0) es)) (filter (λ e. p e.0) es)
          → filter (λ e. p e.0) (match_ordering r ((at, node) ∷ e ∷ es) ((e.0, node) ∷ es) (e ∷ with_value pos_cmp at node es)) ≡ cond (p at) (with_value pos_cmp at node (filter (λ e. p e.0) (e ∷ es))) (filter (λ e. p e.0) (e ∷ es))
      by Less is later =
          let kept = filter (λ e. p e.0) (e ∷ es) in
          let above = all_kept (λ q. pos_cmp at q ≡ Less) (λ e. p e.0) (e ∷ es) (is, below_all at e.0 (keys_of es) is (sorted_head pos_cmp e.0 (keys_of es) rises)) in
          ap (λ xs. cond (p at) xs (filter (λ e. p e.0) (e ∷ es))) (sym (put_first at node (filter (λ e. p e.0) (e ∷ es)) above))
      by Equal is later =
          replaced (p e.0) (filter (λ e. p e.0) es) is
          ∙ ap (λ q. cond (p q) (with_value pos_cmp at node (filter (λ e. p e.0) (e ∷ es))) (filter (λ e. p e.0) (e ∷ es))) (sym (pos_exact at e.0 is))
      by Greater is later =
          ap (λ xs. cond (p e.0) (e ∷ xs) xs) later ∙ later_put (p e.0) (p at) (filter (λ e. p e.0) es) is

-- the position at which a node ends
abbrev end_of : Pos × NodePtr → Pos
end_of node = node.0

-- what follows depends on the position alone
same_follower : (o other : Option (Pos × NodePtr)) → option_map end_of o ≡ option_map end_of other → follower_of o ≡ follower_of other
same_follower None None is = refl
same_follower None (Some d) is = absurd (true≢false (sym (ap is_some is)))
same_follower (Some e) None is = absurd (true≢false (ap is_some is))
same_follower (Some e) (Some d) is = ap (λ q. unwrap_or (next_pos q) greatest_pos) (same_Some e.0 d.0 is)

-- and so does the last one after another node
after : (e d : Pos × NodePtr) (o other : Option (Pos × NodePtr)) → e.0 ≡ d.0 → option_map end_of o ≡ option_map end_of other → option_map end_of (Some (unwrap_or o e)) ≡ option_map end_of (Some (unwrap_or other d))
after e d None None same is = ap Some same
after e d None (Some b) same is = absurd (true≢false (sym (ap is_some is)))
after e d (Some a) None same is = absurd (true≢false (ap is_some is))
after e d (Some a) (Some b) same is = is

-- the last position after a node
last_after : (e d : Pos × NodePtr) (es ds : Level) → e.0 ≡ d.0 → option_map end_of (last_of es) ≡ option_map end_of (last_of ds) → option_map end_of (last_of (e ∷ es)) ≡ option_map end_of (last_of (d ∷ ds))
last_after e d es ds same is = ap (option_map end_of) (last-step e es) ∙ after e d (last_of es) (last_of ds) same is ∙ ap (option_map end_of) (sym (last-step d ds))

-- what is put before a node isn't the last one
last-put : (at : Pos) (node : NodePtr) (greatest : Pos) (nodes : Level) → pos_cmp at greatest ≢ Greater → IsMap pos_cmp nodes → EndsAt nodes greatest → option_map end_of (last_of (with_value pos_cmp at node nodes)) ≡ option_map end_of (last_of nodes)
last-put at node greatest [] before rises ends = absurd (true≢false (sym ends))
last-put at node greatest (e ∷ es) before rises ends = by (pos_cmp at e.0) refl (last-put at node greatest es before (sorted_tail pos_cmp e.0 (keys_of es) rises))
  where
    past : pos_cmp at e.0 ≡ Greater → (b : Bool) → is_at (pos_cmp greatest) e.0 ≡ b → IsSome (cond b (Some e.1) (value_at pos_cmp greatest es)) → EndsAt es greatest
    past after true is some = absurd (before (ap (pos_cmp at) (same_at greatest e.0 is) ∙ after))
    past after false is some = some

    by : (r : Ordering) → pos_cmp at e.0 ≡ r → (EndsAt es greatest → option_map end_of (last_of (with_value pos_cmp at node es)) ≡ option_map end_of (last_of es))
        → option_map end_of (last_of (match_ordering r ((at, node) ∷ e ∷ es) ((e.0, node) ∷ es) (e ∷ with_value pos_cmp at node es))) ≡ option_map end_of (last_of (e ∷ es))
    by Less is later = ap (option_map end_of) (last-step (at, node) (e ∷ es) ∙ ap (λ o. Some (unwrap_or o (at, node))) (last-step e es) ∙ sym (last-step e es))
    by Equal is later = last_after (e.0, node) e es es refl refl
    by Greater is later = last_after e e (with_value pos_cmp at node es) es refl (later (past is (is_at (pos_cmp greatest) e.0) refl ends))

-- what is put after all is the last one
last-after : (at : Pos) (node : NodePtr) (nodes : Level) → AllByRecursion (λ q. IsBefore q at) (keys_of nodes) → last_of (with_value pos_cmp at node nodes) ≡ Some (at, node)
last-after at node [] before = refl
last-after at node (e ∷ es) before =
    ap (λ r. last_of (match_ordering r ((at, node) ∷ e ∷ es) ((e.0, node) ∷ es) (e ∷ with_value pos_cmp at node es))) (pos_total.antisymm at e.0 ∙ ap ordering_reverse before.0)
    ∙ last-step e (with_value pos_cmp at node es) ∙ ap (λ o. Some (unwrap_or o e)) (last-after at node es before.1)

-- the nodes before a position, after one was put
before-put : (q at : Pos) (node : NodePtr) (nodes : Level) → IsMap pos_cmp nodes → nodes_before q (with_value pos_cmp at node nodes) ≡ cond (is_lt (pos_cmp at q)) (with_value pos_cmp at node (nodes_before q nodes)) (nodes_before q nodes)
before-put q at node nodes rises = kept-put (λ x. is_lt (pos_cmp x q)) at node nodes rises

front-rises : (q : Pos) (nodes : Level) → IsMap pos_cmp nodes → IsMap pos_cmp (nodes_before q nodes)
front-rises q nodes rises = (IsMap-parts pos_cmp (nodes_before q nodes) (nodes_from q nodes) (subst (IsMap pos_cmp) (parted q nodes rises) rises)).0

not_greater : (p q : Pos) → IsBefore p q → pos_cmp p q ≢ Greater
not_greater p q before is = true≢false (ap is_lt (sym before ∙ is))

itself : (p : Pos) → pos_cmp p p ≢ Greater
itself p is = true≢false (ap is_eq (sym (tied_itself pos_total p) ∙ is))

-- Another pointer in the place of one leaves the range of each node.
pub least-replaced : (q at : Pos) (node : NodePtr) (nodes : Level) → IsMap pos_cmp nodes → EndsAt nodes at → least_of q (with_value pos_cmp at node nodes) ≡ least_of q nodes
least-replaced q at node nodes rises ends = ap (λ xs. follower_of (last_of xs)) (before-put q at node nodes rises) ∙ by (is_lt (pos_cmp at q)) refl
  where
    by : (b : Bool) → is_lt (pos_cmp at q) ≡ b → follower_of (last_of (cond b (with_value pos_cmp at node (nodes_before q nodes)) (nodes_before q nodes))) ≡ least_of q nodes
    by true is =
        same_follower (last_of (with_value pos_cmp at node (nodes_before q nodes))) (last_of (nodes_before q nodes))
        (last-put at node at (nodes_before q nodes) (itself at) (front-rises q nodes rises) (kept-ends (λ x. is_lt (pos_cmp x q)) at nodes is ends))
    by false is = refl

module _ (greatest at : Pos) (first second : NodePtr) (nodes : Level) (row : IsRow nodes) (fits : PosFits at) (covers : Covers nodes greatest at) (before : IsBefore at greatest) where
  ends_fit : PosFits greatest
  ends_fit = at_end PosFits nodes greatest row.fits covers.there

  -- the nodes before a position after the division
  before-halved : (q : Pos) → nodes_before q (halved greatest at first second nodes) ≡ cond (is_lt (pos_cmp greatest q)) (with_value pos_cmp greatest second (cond (is_lt (pos_cmp at q)) (with_value pos_cmp at first (nodes_before q nodes)) (nodes_before q nodes))) (cond (is_lt (pos_cmp at q)) (with_value pos_cmp at first (nodes_before q nodes)) (nodes_before q nodes))
  before-halved q =
      before-put q greatest second (with_value pos_cmp at first nodes) (IsMap-with_value pos_total at first nodes row.rises)
      ∙ ap (λ xs. cond (is_lt (pos_cmp greatest q)) (with_value pos_cmp greatest second xs) xs) (before-put q at first nodes row.rises)

  not_before : is_lt (pos_cmp greatest at) ≡ false
  not_before = ap is_lt (pos_total.antisymm greatest at ∙ ap ordering_reverse before)

  same_least : (o : Option NodePtr) → value_at pos_cmp greatest nodes ≡ o → IsSome o → least_of at nodes ≡ least_of greatest nodes
  same_least None is some = absurd (true≢false (sym some))
  same_least (Some node) is some = sym (least-same at nodes (greatest, node) row.rises (covered-once at greatest node nodes row fits is covers.within))

  -- The first half begins where the node began.
  pub least-first_half : least_of at (halved greatest at first second nodes) ≡ least_of greatest nodes
  least-first_half =
      ap (λ xs. follower_of (last_of xs)) (before-halved at
      ∙ ap (λ b. cond b (with_value pos_cmp greatest second (cond (is_lt (pos_cmp at at)) (with_value pos_cmp at first (nodes_before at nodes)) (nodes_before at nodes))) (cond (is_lt (pos_cmp at at)) (with_value pos_cmp at first (nodes_before at nodes)) (nodes_before at nodes))) not_before
      ∙ ap (λ r. cond (is_lt r) (with_value pos_cmp at first (nodes_before at nodes)) (nodes_before at nodes)) (tied_itself pos_total at))
      ∙ same_least (value_at pos_cmp greatest nodes) refl covers.there

  all_lower : AllByRecursion (λ q. IsBefore q at) (keys_of (nodes_before greatest nodes))
  all_lower = before-covered at greatest nodes row fits ends_fit covers.within.0

  -- The second half begins after the first one.
  pub least-second_half : next_pos at ≡ Some (least_of greatest (halved greatest at first second nodes))
  least-second_half =
      some (next_pos at) (has_follower at fits (not_greatest at greatest fits ends_fit before))
      ∙ ap Some (sym (ap (λ xs. follower_of (last_of xs)) (before-halved greatest
      ∙ ap (λ r. cond (is_lt r) (with_value pos_cmp greatest second (cond (is_lt (pos_cmp at greatest)) (with_value pos_cmp at first (nodes_before greatest nodes)) (nodes_before greatest nodes))) (cond (is_lt (pos_cmp at greatest)) (with_value pos_cmp at first (nodes_before greatest nodes)) (nodes_before greatest nodes))) (tied_itself pos_total greatest)
      ∙ ap (λ r. cond (is_lt r) (with_value pos_cmp at first (nodes_before greatest nodes)) (nodes_before greatest nodes)) before)
      ∙ ap follower_of (last-after at first (nodes_before greatest nodes) all_lower)))
    where
      some : (o : Option Pos) → o ≢ None → o ≡ Some (unwrap_or o greatest_pos)
      some None none = absurd (none refl)
      some (Some q) none = refl

  -- Each other node keeps its range.
  pub least-other : (q : Pos) → EndsAt nodes q → q ≢ greatest → least_of q (halved greatest at first second nodes) ≡ least_of q nodes
  least-other q ends other = ap (λ xs. follower_of (last_of xs)) (before-halved q) ∙ by (pos_cmp greatest q) refl
    where
      by : (r : Ordering) → pos_cmp greatest q ≡ r
          → follower_of (last_of (cond (is_lt r) (with_value pos_cmp greatest second (cond (is_lt (pos_cmp at q)) (with_value pos_cmp at first (nodes_before q nodes)) (nodes_before q nodes))) (cond (is_lt (pos_cmp at q)) (with_value pos_cmp at first (nodes_before q nodes)) (nodes_before q nodes)))) ≡ least_of q nodes
      by Less is =
          let low : IsBefore at q = pos_total.trans at greatest q before is in
          let front = front-rises q nodes row.rises in
          let there : EndsAt (nodes_before q nodes) greatest = kept-ends (λ x. is_lt (pos_cmp x q)) greatest nodes (ap is_lt is) covers.there in
          ap (λ r. follower_of (last_of (with_value pos_cmp greatest second (cond (is_lt r) (with_value pos_cmp at first (nodes_before q nodes)) (nodes_before q nodes))))) low
          ∙ same_follower (last_of (with_value pos_cmp greatest second (with_value pos_cmp at first (nodes_before q nodes)))) (last_of (nodes_before q nodes))
          (last-put greatest second greatest (with_value pos_cmp at first (nodes_before q nodes)) (itself greatest) (IsMap-with_value pos_total at first (nodes_before q nodes) front) (ends-stay at greatest first (nodes_before q nodes) there)
          ∙ last-put at first greatest (nodes_before q nodes) (not_greater at greatest before) front there)
      by Equal is = absurd (other (sym (pos_exact greatest q is)))
      by Greater is =
          let low : IsBefore q greatest = pos_total.antisymm q greatest ∙ ap ordering_reverse is in
          let among : EndsAt (nodes_before greatest nodes) q = kept-ends (λ x. is_lt (pos_cmp x greatest)) q nodes (ap is_lt low) ends in
          let lower : IsBefore q at = at_end (λ x. IsBefore x at) (nodes_before greatest nodes) q (All-from_recursion (λ x. IsBefore x at) (keys_of (nodes_before greatest nodes)) all_lower) among in
          ap (λ r. follower_of (last_of (cond (is_lt r) (with_value pos_cmp at first (nodes_before q nodes)) (nodes_before q nodes)))) (pos_total.antisymm at q ∙ ap ordering_reverse lower)
