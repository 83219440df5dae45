use Rattle.std.proofs.Common.{◌≡◌}
use Rattle.btree_map.specs.Trees.{keys_in}
use Rattle.forest_view.specs.Shown.{with_names}
use Rattle.forest_view.proofs.trees.insert_names.Given as goal

abbrev pub invariant-loop-place : goal.invariant-loop-place
invariant-loop-place l = with_names (keys_in l.map) l.place-iterator l.tree ≡ with_names (keys_in l.map) l.nearest.entries l.fn.tree
