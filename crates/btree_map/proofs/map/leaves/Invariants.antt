use Rattle.std.specs.Vec.Iter.{into_iter_items}
use Rattle.btree_map.proofs.Fresh.{IsPlanting}
use Rattle.btree_map.proofs.map.leaves.Given as goal

abbrev pub invariant-loop-root : goal.invariant-loop-root
invariant-loop-root l = IsPlanting l.fn.roots l.nodes.items (into_iter_items l.root-iterator)
