use Rattle.std.proofs.Common.{map, take}
use Rattle.tree_keys.proofs.Counted.{cut_of}
use Rattle.tree_keys.proofs.Sized.{IsSizing}
use Rattle.tree_keys.proofs.sizing.bytes_after.Given as goal

abbrev pub invariant-loop-change : goal.invariant-loop-change
invariant-loop-change g l = IsSizing (cut_of l.keys.entries l.leaves.entries) (map g.C.Change.key (take l.change-index l.changes)) l.lengths.entries l.sizes.entries
