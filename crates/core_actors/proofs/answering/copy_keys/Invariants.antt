use Rattle.std.proofs.Common.{◌≡◌, ◌++◌}
use Rattle.vol_types.specs.KeyMaps.{keys_in}
use Rattle.core_actors.proofs.answering.copy_keys.Given as goal

abbrev pub invariant-loop-pos : goal.invariant-loop-pos
invariant-loop-pos l = l.keys ++ keys_in l.pos-iterator ≡ keys_in l.fn.values
