use Rattle.std.proofs.Common.{◌≡◌}
use Rattle.bucket_pool.specs.Buckets.{marked_slot}
use Rattle.bucket_pool.specs.Places.{partly}
use Rattle.bucket_pool.proofs.bucket.mark.Given as goal

abbrev pub invariant-loop-at : goal.invariant-loop-at
invariant-loop-at l = l.slots ≡ partly (marked_slot l.first l.count) l.at l.fn.slots
