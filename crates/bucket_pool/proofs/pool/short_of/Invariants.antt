use Rattle.std.proofs.Common.{◌≡◌, map, take}
use Rattle.bucket_pool.specs.Space.{free_count}
use Rattle.bucket_pool.proofs.pool.short_of.Given as goal

abbrev pub invariant-loop-device : goal.invariant-loop-device
invariant-loop-device l = l.free ≡ map free_count (take l.device-index l.devices)
