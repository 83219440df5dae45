-- Exchanges in ranges: a node that ends outside of them is kept, and positions outside have the keys that they had.
use Rattle.std.proofs.Common.{◌≡◌, ◌≢◌, ℕ, suc, ◌<◌, ◌≤◌, Bool, true, false, length, Some, inl, inr, refl, sym, ap, subst, ◌∙◌, arith}
use Rattle.std.specs.Prelude.{◌⊎◌, is_some, nat_lt}
use Rattle.std.specs.Map.{keys_of}
use Rattle.std.specs.declared.cmp.Ordering.TheVariants.{Greater}
use Rattle.std.proofs.lemmas.Bool.{ltb-false, ltb-true}
use Rattle.std.proofs.lemmas.List.Elements.{All-from_recursion}
use Rattle.image_view.specs.Trees.{SetsOf}
use Rattle.tree_nodes.specs.CoverLaws.{before-covered, before_le, covered-once}
use Rattle.tree_nodes.specs.Levels.{EndsAt, IsRow, IsTree, Levels, least_of, level_of, node_at, nodes_before}
use Rattle.tree_nodes.specs.RowLaws.{at_end}
use Rattle.tree_nodes.specs.TreeLaws.{level-there}
use Rattle.vol_types.specs.MapLaws.{same_maps}
use Rattle.vol_types.specs.Maps.{value_at}
use Rattle.vol_types.specs.PositionLaws.{pos_exact, pos_total}
use Rattle.vol_types.specs.Positions.{IsBefore, IsWithin, pos_cmp}
use Rattle.vol_types.specs.Widths.{PosFits}
use Rattle.vol_types.specs.declared.pointers.NodePtr.{NodePtr}
use Rattle.vol_types.specs.declared.positions.Btree.{Btree}
use Rattle.vol_types.specs.declared.positions.Pos.{Pos}
use Rattle.btree_laws.specs.Exchanges.{AreExchanged, IsExchange, IsKept, Stays}
use Rattle.btree_laws.specs.Standing.{Contents, IsNodeIn, IsUnderRoot, StandsAsBtree, StandsAsNode, leaf_entries}
use Rattle.btree_laws.proofs.Kept.{changed}
use Rattle.btree_laws.proofs.Levels.{IsCovering, fitting_entries, not_both, outside_is, some_covers, within_or_not}
use Rattle.btree_laws.proofs.NineBtrees.{leaf_row, own_fit, own_rise, own_value, some_levels}
use Rattle.btree_laws.proofs.Ranges.{among, ends_outside, stood_outside}

-- ---- nodes outside of the ranges

module _ (first last : ℕ → Pos) (old new : Levels) (tree : IsTree old) (other_tree : IsTree new) (exchanged : AreExchanged first last old new) where
  row_in : (level : ℕ) → level < length old → IsRow (level_of old level)
  row_in level less = (tree.each level less).row

  -- In the range of a node that ends outside of the range of its level nothing below is exchanged.
  none_below : (lower : ℕ) (at pos : Pos) → suc lower < length old → suc lower < length new → EndsAt (level_of old (suc lower)) at → ¬ IsWithin (first (suc lower)) (last (suc lower)) at → PosFits pos → IsWithin (least_of at (level_of old (suc lower))) at pos
      → ¬ IsWithin (first lower) (last lower) pos
  none_below lower at pos less more ends outside fits under within = outside_is (first (suc lower)) (last (suc lower)) at ⊥ outside low high
    where
      wide : IsWithin (first (suc lower)) (last (suc lower)) pos
      wide = exchanged.contains lower pos within

      low : IsBefore at (first (suc lower)) → ⊥
      low before = before_le_not at (first (suc lower)) pos before wide.0 under.1
        where
          before_le_not : (p q r : Pos) → IsBefore p q → pos_cmp q r ≢ Greater → pos_cmp r p ≢ Greater → ⊥
          before_le_not p q r less_q le_r le_p = not_both p r (before_le p q r less_q le_r) le_p

      high : IsBefore (last (suc lower)) at → ⊥
      high after =
          let row = row_in (suc lower) less in
          let at_fits : PosFits at = at_end PosFits (level_of old (suc lower)) at row.fits ends in
          let ended = (exchanged.each (suc lower) less more).ended in
          let all = All-from_recursion (λ q. IsBefore q pos) (keys_of (nodes_before at (level_of old (suc lower)))) (before-covered pos at (level_of old (suc lower)) row fits at_fits under.0) in
          not_both (last (suc lower)) pos (at_end (λ q. IsBefore q pos) (nodes_before at (level_of old (suc lower))) (last (suc lower)) all (among (level_of old (suc lower)) at (last (suc lower)) ended after)) wide.1

  -- So a node that ends outside of the range is kept.
  pub outside_kept : (level : ℕ) (at : Pos) (node : NodePtr) → IsNodeIn new level at node → level < length old → ¬ IsWithin (first level) (last level) at → IsKept old new level at node
  outside_kept level at node is less outside =
      let more = level-there new level at (ap is_some is) in
      let exchange = exchanged.each level less more in
      let stood = stood_outside (first level) (last level) (level_of old level) (level_of new level) (row_in level less) (other_tree.each level more).row exchange at node is outside in
      record {
        stood = stood.0;
        least = stood.1;
        below = λ lower one pos fits within. by lower one pos fits within stood.0;
      }
    where
      by : (lower : ℕ) → level ≡ suc lower → (pos : Pos) → PosFits pos → IsWithin (least_of at (level_of old level)) at pos → IsNodeIn old level at node → value_at pos_cmp pos (level_of new lower) ≡ value_at pos_cmp pos (level_of old lower)
      by lower one pos fits within stood =
          let more = level-there new level at (ap is_some is) in
          let here : suc lower < length old = omega (arith, one, less) in
          let there : suc lower < length new = omega (arith, one, more) in
          (exchanged.each lower (omega (arith, here)) (omega (arith, there))).elsewhere pos
          (none_below lower at pos here there (subst (λ n. EndsAt (level_of old n) at) one (ap is_some stood)) (subst (λ n. ¬ IsWithin (first n) (last n) at) one outside) fits (subst (λ n. IsWithin (least_of at (level_of old n)) at pos) one within))

-- After an exchange in ranges a btree stands.
pub exchanged_stands : (one other : SetsOf) (btree : Btree) (root fresh : NodePtr) (old new : Levels) (before after : Contents) (first last : ℕ → Pos) → StandsAsBtree one btree root old before → AreExchanged first last old new → IsTree new → IsUnderRoot fresh new
    → ((level : ℕ) (at : Pos) (node : NodePtr) → IsNodeIn old level at node → ¬ IsWithin (first level) (last level) at → Stays one other before after node)
    → ((level : ℕ) (at : Pos) (node : NodePtr) → IsNodeIn new level at node → IsWithin (first level) (last level) at ⊎ (length old ≤ level) → StandsAsNode other btree new after level at node)
    → StandsAsBtree other btree fresh new after
exchanged_stands one other btree root fresh old new before after first last stands exchanged tree top stay news = changed one other btree root old new before after stands tree fresh top each
  where
    each : (level : ℕ) (at : Pos) (node : NodePtr) → IsNodeIn new level at node → StandsAsNode other btree new after level at node ⊎ (IsKept old new level at node × Stays one other before after node)
    each level at node is =
        within_or_not (first level) (last level) at (StandsAsNode other btree new after level at node ⊎ (IsKept old new level at node × Stays one other before after node))
        (λ within. inl (news level at node is (inl within)))
        (λ outside. by (nat_lt level (length old)) refl outside)
      where
        by : (b : Bool) → nat_lt level (length old) ≡ b → ¬ IsWithin (first level) (last level) at → StandsAsNode other btree new after level at node ⊎ (IsKept old new level at node × Stays one other before after node)
        by true is_less outside =
            let kept = outside_kept first last old new stands.tree tree exchanged level at node is (ltb-true level (length old) is_less) outside in
            inr (kept, stay level at node kept.stood outside)
        by false past outside = inl (news level at node is (inr (ltb-false level (length old) past)))

-- ---- keys

module _ (one other : SetsOf) (btree : Btree) (root fresh : NodePtr) (old new : Levels) (before after : Contents) (stands : StandsAsBtree one btree root old before) (again : StandsAsBtree other btree fresh new after) where
  old_row : IsRow (level_of old 0)
  old_row = leaf_row one btree root old before stands

  new_row : IsRow (level_of new 0)
  new_row = leaf_row other btree fresh new after again

  old_covers : (pos : Pos) → PosFits pos → IsCovering (level_of old 0) pos
  old_covers pos fits = some_covers (level_of old 0) pos old_row (stands.tree.each 0 (some_levels one btree root old before stands)).ends fits

  new_covers : (pos : Pos) → PosFits pos → IsCovering (level_of new 0) pos
  new_covers pos fits = some_covers (level_of new 0) pos new_row (again.tree.each 0 (some_levels other btree fresh new after again)).ends fits

  -- A position outside of the range of the leaves has what it had.
  pub others_stay : (first last : Pos) → IsExchange first last (level_of old 0) (level_of new 0) → ((at : Pos) (node : NodePtr) → IsNodeIn old 0 at node → ¬ IsWithin first last at → after node ≡ before node)
      → (pos : Pos) → PosFits pos → ¬ IsWithin first last pos → value_at pos_cmp pos (leaf_entries after new) ≡ value_at pos_cmp pos (leaf_entries before old)
  others_stay first last exchange stay pos fits outside =
      let leaf = new_covers pos fits in
      let away = ends_outside first last (level_of old 0) (level_of new 0) old_row new_row exchange leaf.at pos fits leaf.covers outside in
      let stood = stood_outside first last (level_of old 0) (level_of new 0) old_row new_row exchange leaf.at leaf.node leaf.there away in
      let covers : IsWithin (least_of leaf.at (level_of old 0)) leaf.at pos = subst (λ least. IsWithin least leaf.at pos) stood.1 leaf.covers.within in
      let found = covered-once pos leaf.at leaf.node (level_of old 0) old_row fits stood.0 covers in
      own_value other btree fresh new after again pos (leaf.at, leaf.node) leaf.found
      ∙ ap (λ content. value_at pos_cmp pos content.entries) (stay leaf.at leaf.node stood.0 away)
      ∙ sym (own_value one btree root old before stands pos (leaf.at, leaf.node) found)

  -- Where each position has the same in its leaf, the keys are the same.
  pub same_keys : ((pos : Pos) (leaf node : Pos × NodePtr) → PosFits pos → node_at pos (level_of old 0) ≡ Some leaf → node_at pos (level_of new 0) ≡ Some node → value_at pos_cmp pos (after node.1).entries ≡ value_at pos_cmp pos (before leaf.1).entries)
      → leaf_entries after new ≡ leaf_entries before old
  same_keys same =
      same_maps pos_total pos_exact (leaf_entries after new) (leaf_entries before old) (own_rise other btree fresh new after again) (own_rise one btree root old before stands)
      (λ pos. fitting_entries (leaf_entries after new) (leaf_entries before old) pos (own_fit other btree fresh new after again) (own_fit one btree root old before stands) (λ fits.
      let now = new_covers pos fits in
      let was = old_covers pos fits in
      own_value other btree fresh new after again pos (now.at, now.node) now.found
      ∙ same pos (was.at, was.node) (now.at, now.node) fits was.found now.found
      ∙ sym (own_value one btree root old before stands pos (was.at, was.node) was.found)))
