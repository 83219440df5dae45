use Rattle.std.proofs.Common.{◌≡◌, ◌++◌, drop}
use Rattle.vol_types.specs.KeyMaps.{keys_in}
use Rattle.vol_info.proofs.space.live_keys.Given as goal

abbrev pub invariant-loop-pos : goal.invariant-loop-pos
invariant-loop-pos l = l.keys ++ keys_in (drop l.pos-index l.entries) ≡ keys_in l.entries
