use Rattle.std.proofs.Common.{◌∙◌, arith}
use Rattle.bucket_pool.specs.Buckets.{emptied_slot}
use Rattle.bucket_pool.proofs.EachPlace.{partly_map}
use Rattle.bucket_pool.proofs.bucket.empty_slots.Goals as goal

pub returns : goal.returns
returns c = c.loop-at.invariant ∙ partly_map emptied_slot c.loop-at.at c.args.slots.now (omega arith)
