-- The root of each btree is a node in range.
use Rattle.std.proofs.Common.{◌≡◌, ◌-◌, ◌<◌, [], ◌∷◌, length, sym, subst, arith}
use Rattle.std.specs.Prelude.{All, IfOk, Result, Ok, Err}
use Rattle.std.specs.Map.{values_of}
use Rattle.std.proofs.lemmas.List.Elements.{All-head}
use Rattle.btree_map.specs.Trees.{IsTrees, Trees, levels_in}
use Rattle.tree_nodes.specs.Levels.{IsNodeOf, IsTree, Level, Levels, level_of}
use Rattle.vol_types.specs.Positions.{greatest_pos}
use Rattle.vol_types.specs.Ranges.{IsNode}
use Rattle.vol_types.specs.declared.pointers.NodePtr.{NodePtr}
use Rattle.vol_types.specs.declared.positions.Btree.{Btree}

-- A btree has a level.
some_level : (levels : Levels) → length (level_of levels (length levels - 1)) ≡ 1 → 0 < length levels
some_level [] one = absurd (omega (arith, one))
some_level (level ∷ levels) one = omega arith

-- The root of a btree is in range.
pub root_in_range : (trees : Trees) → IsTrees trees → (btree : Btree) (root : NodePtr) → level_of (levels_in trees btree) (length (levels_in trees btree) - 1) ≡ (greatest_pos, root) ∷ [] → IsNode root
root_in_range trees is btree root top =
    let tree : IsTree (levels_in trees btree) = (is.each btree).nodes in
    let some = some_level (levels_in trees btree) tree.root in
    let last = length (levels_in trees btree) - 1 in
    let level = tree.each last (omega (arith, some)) in
    (All-head (IsNodeOf last) root [] (subst (λ (nodes : Level). All (IsNodeOf last) (values_of nodes)) top level.each)).in_range

-- So is a copy of it.
pub copied_in_range : {E : Type 0} (result : Result NodePtr E) (root : NodePtr) → IfOk result (λ copy. copy ≡ root) → IsNode root → IfOk result IsNode
copied_in_range (Ok copy) root same is = subst IsNode (sym same) is
copied_in_range (Err e) root same is = tt
