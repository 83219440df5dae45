use Rattle.btree_map.proofs.Bearing.{IsSizing}
use Rattle.btree_map.proofs.births.children_size.Given as goal

abbrev pub invariant-loop-node : goal.invariant-loop-node
invariant-loop-node l = IsSizing l.fn.children l.node-iterator l.bytes
