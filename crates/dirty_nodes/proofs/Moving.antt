-- The marked nodes stay those that are dirty or have a dirty node under them, once a root without nodes under it has another birth.
use Rattle.std.proofs.Common.{◌≡◌, ℕ, zero, suc, ◌<◌, ◌⊎◌, inl, inr, ⊎_elim, Bool, true, false, cond, Option, Some, None, List, [], ◌∷◌, length, get_or-set_other, get_or-set_same, refl, sym, ap, ◌∙◌, subst, arith}
use Rattle.std.specs.Prelude.{◌≢◌, ◌↔◌, ◌==◌, ◌&&◌, ◌||◌, All, IsSome, is_some, option_map, slice_set}
use Rattle.std.specs.List.{list_any}
use Rattle.std.specs.Option.{option_to_list}
use Rattle.std.specs.Ordering.{is_eq, is_le, nat_cmp}
use Rattle.std.proofs.lemmas.Bool.{and_parts, cases_eq, cases_lt, eq-eqb, eqb-true, true≢false}
use Rattle.std.proofs.lemmas.Cmp.{tied_itself}
use Rattle.std.proofs.lemmas.List.{get_or_past}
use Rattle.std.proofs.lemmas.List.Elements.{All-head, All-tail}
use Rattle.std.proofs.lemmas.List.Folds.{list_any-append}
use Rattle.std.proofs.lemmas.Option.{same_Some, none-some as none_some}
use Rattle.birth_index.specs.Births.{BirthsDiffer, IsFree, birth_of, levels_of}
use Rattle.birth_index.specs.NameLaws.{one_btree}
use Rattle.birth_index.specs.declared.name.NodeName.{NodeName}
use Rattle.dirty_nodes.specs.Dirty.{AreMarked, IsOverDirty, birth_at, birth_in, changed_node, changed_nodes, leaf_root, moved_pin, root_alone, with_pins}
use Rattle.dirty_nodes.specs.PinLaws.{look-pins, moved-fresh, moved-old, moved-other}
use Rattle.pin_list.specs.Pins.{smaller}
use Rattle.tree_keys.specs.OrderLaws.{greatest-fits}
use Rattle.tree_nodes.specs.Levels.{IsTree, Levels, first_of, level_of}
use Rattle.vol_types.specs.Btrees.{btree_code}
use Rattle.vol_types.specs.FollowerLaws.{greatest-last}
use Rattle.vol_types.specs.KeyMaps.{is_update_of}
use Rattle.vol_types.specs.Maps.{IsMap, value_at}
use Rattle.vol_types.specs.PositionLaws.{pos_total}
use Rattle.vol_types.specs.Positions.{greatest_pos, pos_cmp}
use Rattle.vol_types.specs.Widths.{PosFits}
use Rattle.vol_types.specs.declared.keys.Update.{Update}
use Rattle.vol_types.specs.declared.pointers.NodePtr.{NodePtr}
use Rattle.vol_types.specs.declared.positions.Btree.{Btree}
use Rattle.vol_types.specs.declared.positions.Pos.{Pos}
use Rattle.dirty_nodes.proofs.Marking.{IsFound, found, name_is, still_over}

-- a root without nodes under it covers a position, if it is of the btree's range, and no other node does
born_alone : (root : NodePtr) (level : ℕ) (pos : Pos) (birth : ℕ) → birth_in pos (level_of (root_alone root) level) ≡ Some birth → birth ≡ root.birth
born_alone root zero pos birth is = by (is_le (pos_cmp pos greatest_pos)) is
  where
    by : (b : Bool) → option_map (λ (node : Pos × NodePtr). node.1.birth) (first_of (cond b ((greatest_pos, root) ∷ []) [])) ≡ Some birth → birth ≡ root.birth
    by true is = sym (same_Some root.birth birth is)
    by false is = absurd (none_some birth is)
born_alone root (suc level) pos birth is = absurd (none_some birth is)

at_alone : (root : NodePtr) → birth_in greatest_pos (level_of (root_alone root) 0) ≡ Some root.birth
at_alone root =
    ap (λ (b : Bool). option_map (λ (node : Pos × NodePtr). node.1.birth) (first_of (cond b ((greatest_pos, root) ∷ []) []))) (greatest-last greatest_pos greatest-fits)

named_alone : (root : NodePtr) → value_at pos_cmp greatest_pos ((greatest_pos, root) ∷ []) ≡ Some root
named_alone root = ap (λ (b : Bool). cond b (Some root) None) (ap is_eq (tied_itself pos_total greatest_pos))

one_or_other : (btree other : Btree) → (other ≡ btree) ⊎ (other ≢ btree)
one_or_other btree other =
    ⊎_elim (λ (same : btree_code other ≡ btree_code btree). inl (one_btree other btree same)) (λ apart. inr (λ (same : other ≡ btree). apart (ap btree_code same))) (cases_eq (btree_code other) (btree_code btree))

-- a btree whose root stands alone, and a root that takes its place
module _ (nodes : List Levels) (btree : Btree) (root : NodePtr) (trees : (b : Btree) → IsTree (levels_of nodes b)) (differ : BirthsDiffer nodes) (alone : levels_of nodes btree ≡ root_alone root) where
  root_at : birth_at nodes btree 0 greatest_pos ≡ Some root.birth
  root_at = ap (λ (levels : Levels). birth_in greatest_pos (level_of levels 0)) alone ∙ at_alone root

  root_named : birth_of nodes (leaf_root btree) ≡ Some root.birth
  root_named = ap (option_map (λ (node : NodePtr). node.birth)) (ap (λ (levels : Levels). value_at pos_cmp greatest_pos (level_of levels 0)) alone ∙ named_alone root)

  born_root : (level : ℕ) (pos : Pos) (birth : ℕ) → birth_at nodes btree level pos ≡ Some birth → birth ≡ root.birth
  born_root level pos birth is = born_alone root level pos birth (sym (ap (λ (levels : Levels). birth_in pos (level_of levels level)) alone) ∙ is)

  -- a node of another btree doesn't have its birth
  not_root : (other : Btree) (level : ℕ) (pos : Pos) (birth : ℕ) → other ≢ btree → birth_at nodes other level pos ≡ Some birth → birth ≢ root.birth
  not_root other level pos birth apart is same =
      let f : IsFound nodes other level pos birth = found nodes trees other level pos birth is in
      let name : NodeName = record { btree = other; level = level; greatest = f.node.0 } in
      apart (ap (λ (n : NodeName). n.btree) (differ name (leaf_root btree) birth (name_is nodes other level pos birth f) (root_named ∙ ap Some (sym same))))

  -- The root is marked exactly where it is dirty.
  pub marked-alone : (pins marks : List (ℕ × ℕ)) → AreMarked nodes pins marks → IsSome (value_at nat_cmp root.birth marks) ↔ IsSome (value_at nat_cmp root.birth pins)
  marked-alone pins marks marked = (
    λ some. dirty ((marked root.birth).0 some),
    λ some. (marked root.birth).1
        (record { btree = btree; pos = greatest_pos; upper = 0; lower = 0; dirty = root.birth; fits = greatest-fits; order = omega arith; over = root_at; under = root_at; pinned = some }),
  )
    where
      dirty : IsOverDirty nodes pins root.birth → IsSome (value_at nat_cmp root.birth pins)
      dirty o = ⊎_elim
          (λ (same : o.btree ≡ btree).
          subst (λ (b : ℕ). IsSome (value_at nat_cmp b pins)) (born_root o.lower o.pos o.dirty (subst (λ (b : Btree). birth_at nodes b o.lower o.pos ≡ Some o.dirty) same o.under)) o.pinned)
          (λ (apart : o.btree ≢ btree). absurd (not_root o.btree o.upper o.pos root.birth apart o.over refl)) (one_or_other btree o.btree)

  -- where it covers a position that has its width
  root_covers : (pos : Pos) → PosFits pos → birth_at nodes btree 0 pos ≡ Some root.birth
  root_covers pos fits =
      ap (λ (levels : Levels). birth_in pos (level_of levels 0)) alone
      ∙ ap (λ (b : Bool). option_map (λ (node : Pos × NodePtr). node.1.birth) (first_of (cond b ((greatest_pos, root) ∷ []) []))) (greatest-last pos fits)

  leaf_only : (level : ℕ) (pos : Pos) (birth : ℕ) → birth_at nodes btree level pos ≡ Some birth → level ≡ 0
  leaf_only level pos birth is = by level (sym (ap (λ (levels : Levels). birth_in pos (level_of levels level)) alone) ∙ is)
    where
      by : (l : ℕ) → birth_in pos (level_of (root_alone root) l) ≡ Some birth → l ≡ 0
      by zero at = refl
      by (suc l) at = absurd (none_some birth at)

  -- An update changes the root exactly if it is one of the keys of its btree.
  changes_root : (update : Update) → PosFits update.pos → list_any (λ (b : ℕ). b == root.birth) (changed_node nodes update) ≡ is_update_of btree update
  changes_root update fits = by (is_update_of btree update) refl
    where
      hit : (o : Option ℕ) → o ≡ Some root.birth → list_any (λ (b : ℕ). b == root.birth) (option_to_list o) ≡ true
      hit o is = ap (λ (p : Option ℕ). list_any (λ (b : ℕ). b == root.birth) (option_to_list p)) is ∙ ap (λ (t : Bool). t || false) (eq-eqb root.birth root.birth refl)

      missed : (o : Option ℕ) → ((b : ℕ) → o ≡ Some b → b ≢ root.birth) → list_any (λ (b : ℕ). b == root.birth) (option_to_list o) ≡ false
      missed None others = refl
      missed (Some b) others = at (b == root.birth) refl
        where
          at : (t : Bool) → (b == root.birth) ≡ t → (t || false) ≡ false
          at true is = absurd (others b refl (eqb-true b root.birth is))
          at false is = refl

      by : (t : Bool) → is_update_of btree update ≡ t → list_any (λ (b : ℕ). b == root.birth) (changed_node nodes update) ≡ t
      by true is =
          let parts = and_parts (update.level == 0) (btree_code update.btree == btree_code btree) is in
          let level : update.level ≡ 0 = eqb-true update.level 0 parts.0 in
          let same : update.btree ≡ btree = one_btree update.btree btree (eqb-true (btree_code update.btree) (btree_code btree) parts.1) in
          hit (birth_at nodes update.btree update.level update.pos)
          (ap (λ (b : Btree). birth_at nodes b update.level update.pos) same ∙ ap (λ (l : ℕ). birth_at nodes btree l update.pos) level ∙ root_covers update.pos fits)
      by false is = missed (birth_at nodes update.btree update.level update.pos)
          (λ b at. ⊎_elim
          (λ (same : update.btree ≡ btree).
          let level : update.level ≡ 0 = leaf_only update.level update.pos b (subst (λ (t : Btree). birth_at nodes t update.level update.pos ≡ Some b) same at) in
          absurd (true≢false
          (sym (ap (λ (t : Bool). t && (btree_code update.btree == btree_code btree)) (eq-eqb update.level 0 level) ∙ eq-eqb (btree_code update.btree) (btree_code btree) (ap btree_code same)) ∙ is)))
          (λ (apart : update.btree ≢ btree). not_root update.btree update.level update.pos b apart at) (one_or_other btree update.btree))

  change_root : (updates : List Update) → All (λ (update : Update). PosFits update.pos) updates
      → list_any (λ (b : ℕ). b == root.birth) (changed_nodes nodes updates) ≡ list_any (is_update_of btree) updates
  change_root [] fits = refl
  change_root (update ∷ updates) fits =
      list_any-append (λ (b : ℕ). b == root.birth) (changed_node nodes update) (changed_nodes nodes updates)
      ∙ ap (λ (t : Bool). t || list_any (λ (b : ℕ). b == root.birth) (changed_nodes nodes updates)) (changes_root update (All-head (λ (u : Update). PosFits u.pos) update updates fits))
      ∙ ap (λ (t : Bool). is_update_of btree update || t) (change_root updates (All-tail (λ (u : Update). PosFits u.pos) update updates fits))

  -- Once an entry makes updates, the root pins it, or what it did where that is older, if one of them is of the keys of its btree.
  pub pinned-root : (updates : List Update) (seq : ℕ) (numbers : List (ℕ × ℕ)) → All (λ (update : Update). PosFits update.pos) updates
      → value_at nat_cmp root.birth (with_pins seq (changed_nodes nodes updates) numbers)
      ≡ cond (list_any (is_update_of btree) updates) (Some (smaller seq (value_at nat_cmp root.birth numbers))) (value_at nat_cmp root.birth numbers)
  pinned-root updates seq numbers fits =
      look-pins seq root.birth (changed_nodes nodes updates) numbers
      ∙ ap (λ (t : Bool). cond t (Some (smaller seq (value_at nat_cmp root.birth numbers))) (value_at nat_cmp root.birth numbers)) (change_root updates fits)

  module _ (pointer : NodePtr) (free : IsFree nodes (leaf_root btree) pointer.birth) where
    abbrev moved : List Levels
    moved = slice_set nodes (btree_code btree) (root_alone pointer)

    there : btree_code btree < length nodes
    there = ⊎_elim (λ lt. lt) (λ ge. let none : 1 ≡ 0 = ap length (sym alone ∙ get_or_past nodes (btree_code btree) [] ge) in absurd (omega (arith, none))) (cases_lt (btree_code btree) (length nodes))

    moved_here : levels_of moved btree ≡ root_alone pointer
    moved_here = get_or-set_same nodes (btree_code btree) (root_alone pointer) [] there

    moved_other : (other : Btree) → other ≢ btree → levels_of moved other ≡ levels_of nodes other
    moved_other other apart = get_or-set_other nodes (btree_code btree) (btree_code other) (root_alone pointer) [] (λ same. apart (one_btree other btree same))

    birth_other : (other : Btree) (level : ℕ) (pos : Pos) → other ≢ btree → birth_at moved other level pos ≡ birth_at nodes other level pos
    birth_other other level pos apart = ap (λ (levels : Levels). birth_in pos (level_of levels level)) (moved_other other apart)

    fresh_at : birth_at moved btree 0 greatest_pos ≡ Some pointer.birth
    fresh_at = ap (λ (levels : Levels). birth_in greatest_pos (level_of levels 0)) moved_here ∙ at_alone pointer

    born_fresh : (level : ℕ) (pos : Pos) (birth : ℕ) → birth_at moved btree level pos ≡ Some birth → birth ≡ pointer.birth
    born_fresh level pos birth is = born_alone pointer level pos birth (sym (ap (λ (levels : Levels). birth_in pos (level_of levels level)) moved_here) ∙ is)

    not_fresh : (other : Btree) (level : ℕ) (pos : Pos) (birth : ℕ) → other ≢ btree → birth_at nodes other level pos ≡ Some birth → birth ≢ pointer.birth
    not_fresh other level pos birth apart is same =
        let f : IsFound nodes other level pos birth = found nodes trees other level pos birth is in
        let name : NodeName = record { btree = other; level = level; greatest = f.node.0 } in
        apart (ap (λ (n : NodeName). n.btree) (free name (name_is nodes other level pos birth f ∙ ap Some same)))

    module _ (later : Option ℕ) (pins marks : List (ℕ × ℕ)) (pins_rise : IsMap nat_cmp pins) (marks_rise : IsMap nat_cmp marks) where
      -- a node of another btree pins what it did
      stays : (numbers : List (ℕ × ℕ)) → IsMap nat_cmp numbers → (other : Btree) (level : ℕ) (pos : Pos) (birth : ℕ) → other ≢ btree → birth_at nodes other level pos ≡ Some birth
          → value_at nat_cmp birth (moved_pin root.birth pointer.birth later numbers) ≡ value_at nat_cmp birth numbers
      stays numbers rises other level pos birth apart is =
          moved-other root.birth pointer.birth later birth numbers rises (not_root other level pos birth apart is) (not_fresh other level pos birth apart is)

      -- the root under its new birth is over itself
      fresh_over : IsSome later → IsOverDirty moved (moved_pin root.birth pointer.birth later pins) pointer.birth
      fresh_over some = record {
        btree = btree;
        pos = greatest_pos;
        upper = 0;
        lower = 0;
        dirty = pointer.birth;
        fits = greatest-fits;
        order = omega arith;
        over = fresh_at;
        under = fresh_at;
        pinned = ap is_some (moved-fresh root.birth pointer.birth later pins pins_rise) ∙ some;
      }

      other_over : (birth : ℕ) → birth ≢ root.birth → IsOverDirty nodes pins birth → IsOverDirty moved (moved_pin root.birth pointer.birth later pins) birth
      other_over birth not o = ⊎_elim
          (λ (same : o.btree ≡ btree). absurd (not (born_root o.upper o.pos birth (subst (λ (b : Btree). birth_at nodes b o.upper o.pos ≡ Some birth) same o.over))))
          (λ (apart : o.btree ≢ btree).
          still_over nodes moved pins (moved_pin root.birth pointer.birth later pins) birth o (birth_other o.btree o.upper o.pos apart ∙ o.over) (birth_other o.btree o.lower o.pos apart ∙ o.under)
          (ap is_some (stays pins pins_rise o.btree o.lower o.pos o.dirty apart o.under) ∙ o.pinned))
          (one_or_other btree o.btree)

      into : AreMarked nodes pins marks → (birth : ℕ) → IsSome (value_at nat_cmp birth (moved_pin root.birth pointer.birth later marks)) → IsOverDirty moved (moved_pin root.birth pointer.birth later pins) birth
      into marked birth some = ⊎_elim
          (λ (same : birth ≡ pointer.birth).
          subst (λ (b : ℕ). IsOverDirty moved (moved_pin root.birth pointer.birth later pins) b) (sym same)
          (fresh_over (sym (ap is_some (ap (λ (b : ℕ). value_at nat_cmp b (moved_pin root.birth pointer.birth later marks)) same ∙ moved-fresh root.birth pointer.birth later marks marks_rise)) ∙ some)))
          (λ (fresh : birth ≢ pointer.birth). ⊎_elim
          (λ (gone : birth ≡ root.birth).
          let apart : root.birth ≢ pointer.birth = λ same. fresh (gone ∙ same) in
          absurd (true≢false (sym some ∙ ap is_some (ap (λ (b : ℕ). value_at nat_cmp b (moved_pin root.birth pointer.birth later marks)) gone ∙ moved-old root.birth pointer.birth later marks marks_rise apart))))
          (λ (not : birth ≢ root.birth).
          other_over birth not ((marked birth).0 (sym (ap is_some (moved-other root.birth pointer.birth later birth marks marks_rise not fresh)) ∙ some)))
          (cases_eq birth root.birth))
          (cases_eq birth pointer.birth)

      back : AreMarked nodes pins marks → (birth : ℕ) → IsOverDirty moved (moved_pin root.birth pointer.birth later pins) birth → IsSome (value_at nat_cmp birth (moved_pin root.birth pointer.birth later marks))
      back marked birth o = ⊎_elim
          (λ (same : o.btree ≡ btree).
          let over : birth ≡ pointer.birth = born_fresh o.upper o.pos birth (subst (λ (b : Btree). birth_at moved b o.upper o.pos ≡ Some birth) same o.over) in
          let under : o.dirty ≡ pointer.birth = born_fresh o.lower o.pos o.dirty (subst (λ (b : Btree). birth_at moved b o.lower o.pos ≡ Some o.dirty) same o.under) in
          let some : IsSome later =
          sym (ap is_some (ap (λ (b : ℕ). value_at nat_cmp b (moved_pin root.birth pointer.birth later pins)) under ∙ moved-fresh root.birth pointer.birth later pins pins_rise)) ∙ o.pinned in
          ap is_some (ap (λ (b : ℕ). value_at nat_cmp b (moved_pin root.birth pointer.birth later marks)) over ∙ moved-fresh root.birth pointer.birth later marks marks_rise) ∙ some)
          (λ (apart : o.btree ≢ btree).
          let over : birth_at nodes o.btree o.upper o.pos ≡ Some birth = sym (birth_other o.btree o.upper o.pos apart) ∙ o.over in
          let under : birth_at nodes o.btree o.lower o.pos ≡ Some o.dirty = sym (birth_other o.btree o.lower o.pos apart) ∙ o.under in
          let pinned : IsSome (value_at nat_cmp o.dirty pins) = sym (ap is_some (stays pins pins_rise o.btree o.lower o.pos o.dirty apart under)) ∙ o.pinned in
          ap is_some (stays marks marks_rise o.btree o.upper o.pos birth apart over)
          ∙ (marked birth).1 (still_over moved nodes (moved_pin root.birth pointer.birth later pins) pins birth o over under pinned))
          (one_or_other btree o.btree)

      -- Once the root has another birth, the marked nodes are those over dirty ones, as before.
      pub marked-moved : AreMarked nodes pins marks → AreMarked moved (moved_pin root.birth pointer.birth later pins) (moved_pin root.birth pointer.birth later marks)
      marked-moved marked birth = (into marked birth, back marked birth)
