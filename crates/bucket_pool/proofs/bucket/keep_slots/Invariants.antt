use Rattle.std.proofs.Common.{◌≡◌, ◌+◌}
use Rattle.bucket_pool.specs.Buckets.{is_named, kept_slot}
use Rattle.bucket_pool.specs.Places.{partly}
use Rattle.bucket_pool.proofs.bucket.keep_slots.Given as goal

abbrev pub invariant-loop-at : goal.invariant-loop-at
invariant-loop-at l = l.slots ≡ partly (λ at. kept_slot (is_named l.runs l.dev (l.first + at))) l.at l.fn.slots
