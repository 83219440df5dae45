use Rattle.std.proofs.Common.{◌≡◌, ◌++◌}
use Rattle.image_reader.proofs.nodes.entries_of.Given as goal

abbrev pub invariant-loop-pos : goal.invariant-loop-pos
invariant-loop-pos l = l.entries ++ l.pos-iterator ≡ l.node.entries
