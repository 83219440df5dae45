use Rattle.std.proofs.Common.{◌≡◌, ◌++◌, drop}
use Rattle.image_reader.specs.Nodes.{ragged_births}
use Rattle.image_reader.proofs.trees.ragged_births.Given as goal

abbrev pub invariant-loop-node : goal.invariant-loop-node
invariant-loop-node l = l.births ++ ragged_births (drop l.node-index l.nodes) ≡ ragged_births l.nodes
