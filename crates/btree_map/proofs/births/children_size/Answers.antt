use Rattle.std.specs.Map.Iter.{deref_pair}
use Rattle.std.proofs.lemmas.Map.Iter.{rest_more}
use Rattle.btree_map.proofs.Bearing.{sizing_more}
use Rattle.vol_types.specs.declared.pointers.NodePtr.{NodePtr}
use Rattle.vol_types.specs.declared.positions.Pos.{Pos}
use Rattle.btree_map.proofs.births.children_size.Goals as goal

pub loop-node-preserved : goal.loop-node-preserved
loop-node-preserved c =
    sizing_more c.args.children c.loop-node.node-iterator c.next.new.self c.loop-node.bytes c.in-Some.field-0-0.now c.in-Some.node.now c.loop-node.invariant (rest_more (deref_pair {K = Pos} {X = NodePtr}) _ _ _ _ c.in-Some.is c.next.ensures.steps)
    c.node_length-bytes.result c.node_length-bytes.ensures.exact c.node_length-bytes.ensures.few
