use Rattle.std.proofs.Common.{◌∙◌, ◌*◌, arith}
use Rattle.bucket_pool.specs.Buckets.{kept_at}
use Rattle.bucket_pool.proofs.EachPlace.{partly_all}
use Rattle.bucket_pool.proofs.device.Device.keep.Goals as goal

pub returns : goal.returns
returns c =
    let covers = c.groups-group-end.ensures.covers in
    c.loop-group.invariant.so_far ∙ partly_all (kept_at c.args.actor c.args.runs.now c.args.dev) (256 * c.loop-group.group) c.args.self.now (omega arith)
