use Rattle.std.proofs.Common.{◌≡◌}
use Rattle.bucket_pool.specs.Buckets.{kept_at}
use Rattle.bucket_pool.specs.Places.{each_place, partly}
use Rattle.bucket_pool.proofs.pool.keep_all.Given as goal

abbrev pub invariant-loop-dev : goal.invariant-loop-dev
invariant-loop-dev l = l.devices ≡ partly (λ dev. each_place (kept_at l.actor l.runs dev)) l.dev l.fn.devices
