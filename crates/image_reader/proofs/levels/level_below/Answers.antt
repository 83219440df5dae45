use Rattle.std.proofs.Common.{map}
use Rattle.image_view.specs.Trees.{children_of, each_of}
use Rattle.tree_nodes.specs.Levels.{IsNodeOf}
use Rattle.image_reader.specs.Nodes.{joined_levels, node_in}
use Rattle.image_reader.proofs.LoopsTold.{below_step, nodes_joined}
use Rattle.image_reader.proofs.levels.level_below.Goals as goal

pub loop-node-preserved : goal.loop-node-preserved
loop-node-preserved c =
    let level = c.args.level in
    let nodes = c.args.nodes.now in
    record {
      found = below_step level nodes c.loop-node.node-index c.loop-node.below (joined_levels (each_of (children_of level) (map node_in nodes))) c.loop-node.invariant.found c.node-item.result c.loop-node-test.true c.node-item.is
          c.in_ok-children.children c.append.new.self c.in_ok-children.ensures.found c.in_ok-append.ensures.ok;
      nodes = nodes_joined (IsNodeOf level) c.loop-node.below c.in_ok-children.children c.append.new.self c.in_ok-append.ensures.ok c.loop-node.invariant.nodes c.in_ok-children.ensures.nodes;
    }
