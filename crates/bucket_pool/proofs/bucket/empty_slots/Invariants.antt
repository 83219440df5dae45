use Rattle.std.proofs.Common.{◌≡◌}
use Rattle.bucket_pool.specs.Buckets.{emptied_slot}
use Rattle.bucket_pool.specs.Places.{partly}
use Rattle.bucket_pool.proofs.bucket.empty_slots.Given as goal

abbrev pub invariant-loop-at : goal.invariant-loop-at
invariant-loop-at l = l.slots ≡ partly (λ _. emptied_slot) l.at l.fn.slots
