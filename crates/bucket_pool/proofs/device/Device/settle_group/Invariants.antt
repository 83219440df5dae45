use Rattle.std.proofs.Common.{◌≡◌, ◌*◌, List, length}
use Rattle.bucket_pool.specs.declared.bucket.Bucket.{Bucket}
use Rattle.bucket_pool.specs.Buckets.{settled}
use Rattle.bucket_pool.specs.Places.{partly}
use Rattle.bucket_pool.proofs.device.Device.settle_group.Given as goal

abbrev pub invariant-loop-at : goal.invariant-loop-at
invariant-loop-at l = record {
  so_far : (whole : List Bucket) → l.fn.self ≡ partly (λ _. settled l.seq) (256 * l.group) whole → l.self ≡ partly (λ _. settled l.seq) l.at whole;
  size : length l.self ≡ length l.fn.self;
}
