use Rattle.std.proofs.Common.{◌≡◌, length}
use Rattle.std.specs.Prelude.{All}
use Rattle.tree_nodes.specs.Levels.{IsNodeOf}
use Rattle.core_tests.proofs.memory.roots.Given as goal

abbrev pub invariant-loop-birth : goal.invariant-loop-birth
invariant-loop-birth l = (length l.roots ≡ l.birth) × All (IsNodeOf 0) l.roots
