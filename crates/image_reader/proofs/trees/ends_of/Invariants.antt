use Rattle.std.proofs.Common.{◌≡◌, ◌++◌, drop, map}
use Rattle.image_view.specs.Trees.{ends_of}
use Rattle.image_reader.specs.Nodes.{node_in}
use Rattle.image_reader.proofs.trees.ends_of.Given as goal

abbrev pub invariant-loop-node : goal.invariant-loop-node
invariant-loop-node l = l.ends ++ ends_of (map node_in (drop l.node-index l.nodes)) ≡ ends_of (map node_in l.nodes)
