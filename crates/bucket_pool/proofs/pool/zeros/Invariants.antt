use Rattle.std.proofs.Common.{◌≡◌, map, take}
use Rattle.bucket_pool.proofs.pool.zeros.Given as goal

abbrev pub invariant-loop-device : goal.invariant-loop-device
invariant-loop-device l = l.counts ≡ map (λ _. 0) (take l._device-index l.devices)
