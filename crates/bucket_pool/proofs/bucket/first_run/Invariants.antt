use Rattle.std.proofs.Common.{◌≡◌, drop}
use Rattle.bucket_pool.specs.Buckets.{first_run, first_run_from}
use Rattle.bucket_pool.proofs.bucket.first_run.Given as goal

abbrev pub invariant-loop-at : goal.invariant-loop-at
invariant-loop-at l = first_run_from l.at l.count (drop l.at l.slots) ≡ first_run l.count l.slots
