use Rattle.std.proofs.Common.{drop}
use Rattle.tree_keys.proofs.Made.{IsCounting}
use Rattle.tree_keys.proofs.making.count_leaves.Given as goal

abbrev pub invariant-loop-end : goal.invariant-loop-end
invariant-loop-end l = IsCounting (record { entries = l.keys.entries; ends = l.ends }) l.leaves.entries (drop l.end-index l.ends)
