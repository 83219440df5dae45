use Rattle.std.proofs.Common.{All}
use Rattle.snap_tree.specs.Updates.{IsFitting}
use Rattle.btree_tests.proofs.trees.put_updates.Given as goal

abbrev pub invariant-loop-row : goal.invariant-loop-row
invariant-loop-row l = All IsFitting l.updates
