use Rattle.std.proofs.Common.{◌≡◌, ◌++◌}
use Rattle.std.specs.Map.{keys_of}
use Rattle.node_mem.proofs.positions.positions_of.Given as goal

abbrev pub invariant-loop-pos : goal.invariant-loop-pos
invariant-loop-pos l = l.positions.keys ++ l.pos-iterator ≡ keys_of l.entries.entries
