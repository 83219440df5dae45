use Rattle.std.proofs.Common.{◌≡◌, ◌++◌, flat_map}
use Rattle.std.specs.Vec.Iter.{into_iter_items}
use Rattle.image_reader.proofs.trees.entries_of.Given as goal

abbrev pub invariant-loop-node : goal.invariant-loop-node
invariant-loop-node l = l.entries ++ flat_map (λ node. node.entries) (into_iter_items l.node-iterator) ≡ flat_map (λ node. node.entries) l.fn.nodes
