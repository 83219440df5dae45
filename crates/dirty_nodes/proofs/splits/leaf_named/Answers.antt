use Rattle.dirty_nodes.proofs.Splitting.{large_named, large_there}
use Rattle.dirty_nodes.proofs.splits.leaf_named.Goals as goal

pub unreachable-requires : goal.unreachable-requires
unreachable-requires c = large_there c.args.map.now c.args.updates.now c.args.large c.height.ensures.sound c.requires c.in-None.ensures.none

pub returns : goal.returns
returns c =
    large_named c.args.map.now c.args.updates.now c.args.large c.in-Some.name c.in-Some.field-0-1.now c.height.ensures.sound c.requires c.node_of.ensures.differ c.in-Some.ensures.named c.in-Some.ensures.born
