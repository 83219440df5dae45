use Rattle.std.proofs.Common.{◌≡◌, map}
use Rattle.std.specs.List.{range_with_len}
use Rattle.bucket_pool.specs.Opening.{blank_bucket}
use Rattle.bucket_pool.proofs.opening.blank_buckets.Given as goal

abbrev pub invariant-loop-at : goal.invariant-loop-at
invariant-loop-at l = l.buckets.items ≡ map (blank_bucket l.first) (range_with_len 0 l.at)
