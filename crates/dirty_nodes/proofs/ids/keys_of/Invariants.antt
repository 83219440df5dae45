use Rattle.std.proofs.Common.{◌≡◌, ◌++◌}
use Rattle.vol_types.specs.KeyMaps.{keys_in}
use Rattle.dirty_nodes.proofs.ids.keys_of.Given as goal

abbrev pub invariant-loop-pos : goal.invariant-loop-pos
invariant-loop-pos l = l.keys ++ keys_in l.pos-iterator ≡ keys_in l.fn.values.entries
