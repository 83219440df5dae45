use Rattle.std.proofs.Common.{◌≡◌, ◌*◌, length}
use Rattle.bucket_pool.specs.Buckets.{settled}
use Rattle.bucket_pool.specs.Places.{partly}
use Rattle.bucket_pool.proofs.device.Device.settle.Given as goal

abbrev pub invariant-loop-group : goal.invariant-loop-group
invariant-loop-group l = record { so_far : l.self ≡ partly (λ _. settled l.seq) (256 * l.group) l.fn.self; size : length l.self ≡ length l.fn.self }
