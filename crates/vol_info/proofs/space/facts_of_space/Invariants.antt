use Rattle.std.proofs.Common.{◌≡◌, map}
use Rattle.std.specs.List.{range_with_len}
use Rattle.vol_info.specs.Facts.{device_facts}
use Rattle.vol_info.proofs.space.facts_of_space.Given as goal

abbrev pub invariant-loop-dev : goal.invariant-loop-dev
invariant-loop-dev l = l.facts ≡ map (device_facts l.pool) (range_with_len 0 l.dev)
