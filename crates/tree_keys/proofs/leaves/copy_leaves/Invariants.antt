use Rattle.std.proofs.Common.{◌≡◌, ◌++◌}
use Rattle.tree_keys.proofs.leaves.copy_leaves.Given as goal

abbrev pub invariant-loop-end : goal.invariant-loop-end
invariant-loop-end l = l.copy.entries ++ l.end-iterator ≡ l.leaves.entries
