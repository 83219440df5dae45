use Rattle.std.proofs.Common.{◌≡◌}
use Rattle.btree_map.specs.Trees.{keys_in}
use Rattle.forest_view.specs.Shown.{with_inodes}
use Rattle.forest_view.proofs.trees.insert_inodes.Given as goal

abbrev pub invariant-loop-place : goal.invariant-loop-place
invariant-loop-place l = with_inodes (keys_in l.map) l.place-iterator l.tree ≡ with_inodes (keys_in l.map) l.nearest.entries l.fn.tree
