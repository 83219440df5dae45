-- A btree stands where each of its nodes is a new one that stands, or one that is kept and stays.
use Rattle.std.proofs.Common.{◌≡◌, ℕ, zero, suc, ◌-◌, Bool, true, false, cond, List, [], ◌∷◌, ◌++◌, map, Some, Ok, refl, sym, ap, subst, ◌∙◌, arith}
use Rattle.std.specs.Prelude.{◌⊎◌, is_some, slice_index_or}
use Rattle.std.specs.List.{AllByRecursion, filter, flat_map}
use Rattle.std.specs.Map.{values_of}
use Rattle.std.specs.BTreeMap.{is_at}
use Rattle.std.proofs.Common.{⊎_elim}
use Rattle.std.proofs.lemmas.Bool.{true≢false}
use Rattle.std.proofs.lemmas.Option.{same_Some}
use Rattle.image_view.specs.TreeLaws.{HasSameSets}
use Rattle.image_view.specs.Trees.{SetsOf, nodes_of}
use Rattle.interior.specs.Contents.{content_of, entry_of}
use Rattle.tree_nodes.specs.Levels.{IsRow, IsTree, Level, Levels, children_of, least_of, level_of}
use Rattle.tree_nodes.specs.TreeLaws.{level-there}
use Rattle.vol_types.specs.Maps.{value_at}
use Rattle.vol_types.specs.PositionLaws.{is_within-iff}
use Rattle.vol_types.specs.Positions.{is_within, pos_cmp}
use Rattle.vol_types.specs.declared.pointers.NodePtr.{NodePtr}
use Rattle.vol_types.specs.declared.positions.Btree.{Btree}
use Rattle.vol_types.specs.declared.positions.Pos.{Pos}
use Rattle.btree_laws.specs.Exchanges.{IsKept, Stays}
use Rattle.btree_laws.specs.Standing.{AreLeafKeys, AreOwnEntries, Contents, IsNodeIn, IsUnderRoot, StandsAsBtree, StandsAsNode}
use Rattle.btree_laws.proofs.Levels.{fitting_values, same_parts}

-- A node of a tree is of a level that is there, whose nodes are in order.
pub row_there : (levels : Levels) (level : ℕ) (at : Pos) (node : NodePtr) → IsTree levels → IsNodeIn levels level at node → IsRow (level_of levels level)
row_there levels level at node tree is = (tree.each level (level-there levels level at (ap is_some is))).row

module _ (one other : SetsOf) (btree : Btree) (root : NodePtr) (old new : Levels) (before after : Contents) (stands : StandsAsBtree one btree root old before) (tree : IsTree new) where
  -- Where a level and the one below it have the same nodes in a range, the node that ends there has the same children.
  same_children : (lower : ℕ) (at : Pos) (node : NodePtr) → IsNodeIn new (suc lower) at node → IsKept old new (suc lower) at node → content_of old (suc lower) at ≡ content_of new (suc lower) at
  same_children lower at node is kept =
      let down : suc lower - 1 ≡ lower = omega arith in
      let new_there = level-there new (suc lower) at (ap is_some is) in
      let old_there = level-there old (suc lower) at (ap is_some kept.stood) in
      let new_row : IsRow (level_of new lower) = (tree.each lower (omega (arith, new_there))).row in
      let old_row : IsRow (level_of old lower) = (stands.tree.each lower (omega (arith, old_there))).row in
      let least = least_of at (level_of old (suc lower)) in
      let parts : filter (λ c. is_within (least_of at (level_of old (suc lower))) at c.0) (level_of old lower) ≡ filter (λ c. is_within (least_of at (level_of old (suc lower))) at c.0) (level_of new lower) =
      same_parts (is_within (least_of at (level_of old (suc lower))) at) (level_of old lower) (level_of new lower) old_row.rises new_row.rises
      (λ q passes. fitting_values (level_of old lower) (level_of new lower) q old_row.fits new_row.fits
      (λ fits. sym (kept.below lower refl q fits ((is_within-iff (least_of at (level_of old (suc lower))) at q).0 passes)))) in
      ap (λ n. map entry_of (children_of at (level_of old (suc lower)) (level_of old n))) down
      ∙ ap (map entry_of) parts
      ∙ ap (λ p. map entry_of (filter (λ c. is_within p at c.0) (level_of new lower))) (sym kept.least)
      ∙ ap (λ n. map entry_of (children_of at (level_of new (suc lower)) (level_of new n))) (sym down)

  -- A node that is kept has the entries of its place still.
  kept_entries : (level : ℕ) (at : Pos) (node : NodePtr) → IsNodeIn new level at node → IsKept old new level at node → AreOwnEntries new level at (before node).entries
  kept_entries zero at node is kept = subst (λ least. AreLeafKeys least at (before node).entries) (sym kept.least) (stands.each zero at node kept.stood).entries
  kept_entries (suc lower) at node is kept = (stands.each (suc lower) at node kept.stood).entries ∙ same_children lower at node is kept

  -- So it stands again, where its sets and its content stay.
  kept_stands : (level : ℕ) (at : Pos) (node : NodePtr) → IsNodeIn new level at node → IsKept old new level at node → Stays one other before after node → StandsAsNode other btree new after level at node
  kept_stands level at node is kept stays = record {
    comes = stays.sets btree (least_of at (level_of new level)) at
        ∙ ap (λ least. one (record { btree = btree; least = least; greatest = at; pointer = node })) kept.least
        ∙ (stands.each level at node kept.stood).comes ∙ ap (λ content. Ok content) (sym stays.content);
    entries = subst (λ content. AreOwnEntries new level at content.entries) (sym stays.content) (kept_entries level at node is kept);
  }

  -- And so does the btree.
  pub changed : (fresh : NodePtr) → IsUnderRoot fresh new → ((level : ℕ) (at : Pos) (node : NodePtr) → IsNodeIn new level at node → StandsAsNode other btree new after level at node ⊎ (IsKept old new level at node × Stays one other before after node))
      → StandsAsBtree other btree fresh new after
  changed fresh top each = record {
    tree = tree;
    top = top;
    each = λ level at node is. ⊎_elim (λ new_one. new_one) (λ kept. kept_stands level at node is kept.0 kept.1) (each level at node is);
  }

-- A btree stands in other sets that are the same for its nodes.
pub stands_still : (one other : SetsOf) (btree : Btree) (root : NodePtr) (levels : Levels) (content : Contents) → StandsAsBtree one btree root levels content → ((level : ℕ) (at : Pos) (node : NodePtr) → IsNodeIn levels level at node → HasSameSets one other node)
    → StandsAsBtree other btree root levels content
stands_still one other btree root levels content stands same = record {
  tree = stands.tree;
  top = stands.top;
  each = λ level at node is. record {
    comes = same level at node is btree (least_of at (level_of levels level)) at ∙ (stands.each level at node is).comes;
    entries = (stands.each level at node is).entries;
  };
}

-- ---- all nodes

left_all : (P : NodePtr → Type 0) (one other : List NodePtr) → AllByRecursion P (one ++ other) → AllByRecursion P one
left_all P [] other all = tt
left_all P (x ∷ one) other all = (all.0, left_all P one other all.1)

right_all : (P : NodePtr → Type 0) (one other : List NodePtr) → AllByRecursion P (one ++ other) → AllByRecursion P other
right_all P [] other all = all
right_all P (x ∷ one) other all = right_all P one other all.1

of_level : (P : NodePtr → Type 0) (nodes : Level) (at : Pos) (node : NodePtr) → AllByRecursion P (values_of nodes) → value_at pos_cmp at nodes ≡ Some node → P node
of_level P [] at node all is = absurd (true≢false (sym (ap is_some is)))
of_level P (e ∷ es) at node all is = by (is_at (pos_cmp at) e.0) is (of_level P es at node all.1)
  where
    by : (b : Bool) → cond b (Some e.1) (value_at pos_cmp at es) ≡ Some node → (value_at pos_cmp at es ≡ Some node → P node) → P node
    by true found later = subst P (same_Some e.1 node found) all.0
    by false found later = later found

of_levels : (P : NodePtr → Type 0) (levels : Levels) (level : ℕ) (at : Pos) (node : NodePtr) → AllByRecursion P (flat_map values_of levels) → IsNodeIn levels level at node → P node
of_levels P [] level at node all is = absurd (true≢false (sym (ap is_some is)))
of_levels P (nodes ∷ levels) zero at node all is = of_level P nodes at node (left_all P (values_of nodes) (flat_map values_of levels) all) is
of_levels P (nodes ∷ levels) (suc level) at node all is = of_levels P levels level at node (right_all P (values_of nodes) (flat_map values_of levels) all) is

-- What holds of all nodes of btrees holds of each node of one of them.
pub of_trees : (P : NodePtr → Type 0) (trees : List Levels) (place level : ℕ) (at : Pos) (node : NodePtr) → AllByRecursion P (nodes_of trees) → IsNodeIn (slice_index_or trees place []) level at node → P node
of_trees P [] place level at node all is = absurd (true≢false (sym (ap is_some is)))
of_trees P (levels ∷ trees) zero level at node all is = of_levels P levels level at node (left_all P (flat_map values_of levels) (nodes_of trees) all) is
of_trees P (levels ∷ trees) (suc place) level at node all is = of_trees P trees place level at node (right_all P (flat_map values_of levels) (nodes_of trees) all) is
