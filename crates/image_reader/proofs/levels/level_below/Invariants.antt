use Rattle.std.proofs.Common.{◌≡◌, All, drop, map}
use Rattle.std.specs.Map.{values_of}
use Rattle.image_view.specs.Trees.{children_of, each_of}
use Rattle.tree_nodes.specs.Levels.{IsNodeOf}
use Rattle.image_reader.specs.Nodes.{joined_levels, node_in}
use Rattle.image_reader.proofs.LevelTold.{behind_done}
use Rattle.image_reader.proofs.levels.level_below.Given as goal

abbrev pub invariant-loop-node : goal.invariant-loop-node
invariant-loop-node l = record {
  found : behind_done l.below (joined_levels (each_of (children_of l.level) (map node_in (drop l.node-index l.nodes)))) ≡ joined_levels (each_of (children_of l.level) (map node_in l.nodes));
  nodes : All (IsNodeOf l.level) (values_of l.below);
}
