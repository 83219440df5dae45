use Rattle.std.proofs.Common.{◌≡◌, ◌++◌, drop}
use Rattle.std.specs.List.{flat_map}
use Rattle.vol_types.specs.declared.pointers.NodePtr.{NodePtr}
use Rattle.vol_info.proofs.space.add_places.Given as goal

abbrev pub invariant-loop-node : goal.invariant-loop-node
invariant-loop-node l = l.places ++ flat_map (λ (node : NodePtr). node.places) (drop l.node-index l.nodes) ≡ l.fn.places ++ flat_map (λ (node : NodePtr). node.places) l.nodes
