use Rattle.std.proofs.Common.{◌∙◌, ◌*◌, arith}
use Rattle.bucket_pool.specs.Buckets.{settled}
use Rattle.bucket_pool.proofs.EachPlace.{partly_map}
use Rattle.bucket_pool.proofs.device.Device.settle.Goals as goal

pub returns : goal.returns
returns c =
    let covers = c.groups-group-end.ensures.covers in
    c.loop-group.invariant.so_far ∙ partly_map (settled c.args.seq) (256 * c.loop-group.group) c.args.self.now (omega arith)

pub loop-group-preserved : goal.loop-group-preserved
loop-group-preserved c = record {
  so_far = c.settle_group.ensures.after c.args.self.now c.loop-group.invariant.so_far;
  size = c.settle_group.ensures.size ∙ c.loop-group.invariant.size;
}
