use Rattle.std.proofs.Common.{map, take}
use Rattle.node_mem.proofs.Growing.{IsSizing}
use Rattle.node_mem.proofs.sizing.bytes_after.Given as goal

abbrev pub invariant-loop-change : goal.invariant-loop-change
invariant-loop-change g l = IsSizing l.entries.entries l.bytes (map g.C.Change.key (take l.change-index l.changes)) l.lengths.entries l.after
