use Rattle.std.proofs.Common.{◌≡◌, ◌*◌, List, length}
use Rattle.bucket_pool.specs.declared.bucket.Bucket.{Bucket}
use Rattle.bucket_pool.specs.Buckets.{kept_at}
use Rattle.bucket_pool.specs.Places.{partly}
use Rattle.bucket_pool.proofs.device.Device.keep_group.Given as goal

abbrev pub invariant-loop-at : goal.invariant-loop-at
invariant-loop-at l = record {
  so_far : (whole : List Bucket) → l.fn.self ≡ partly (kept_at l.actor l.runs l.dev) (256 * l.group) whole → l.self ≡ partly (kept_at l.actor l.runs l.dev) l.at whole;
  size : length l.self ≡ length l.fn.self;
}
