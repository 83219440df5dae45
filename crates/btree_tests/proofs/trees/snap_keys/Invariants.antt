use Rattle.std.proofs.Common.{All}
use Rattle.snap_tree.specs.Snaps.{IsSnapKey}
use Rattle.btree_tests.proofs.trees.snap_keys.Given as goal

abbrev pub invariant-loop-row : goal.invariant-loop-row
invariant-loop-row l = All IsSnapKey l.keys
