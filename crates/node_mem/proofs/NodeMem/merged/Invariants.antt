use Rattle.std.specs.Vec.Iter.{into_iter_items}
use Rattle.node_mem.proofs.Merging.{IsMerging}
use Rattle.node_mem.proofs.NodeMem.merged.Given as goal

abbrev pub invariant-loop-key : goal.invariant-loop-key
invariant-loop-key l = IsMerging l.fn.self l.fn.keys l.self (into_iter_items l.key-iterator)
