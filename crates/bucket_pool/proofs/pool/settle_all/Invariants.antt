use Rattle.std.proofs.Common.{◌≡◌, map}
use Rattle.bucket_pool.specs.Buckets.{settled}
use Rattle.bucket_pool.specs.Places.{partly}
use Rattle.bucket_pool.proofs.pool.settle_all.Given as goal

abbrev pub invariant-loop-dev : goal.invariant-loop-dev
invariant-loop-dev l = l.devices ≡ partly (λ _. map (settled l.seq)) l.dev l.fn.devices
