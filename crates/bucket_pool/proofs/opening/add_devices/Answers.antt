use Rattle.std.proofs.Common.{◌/◌, get_or, refl}
use Rattle.bucket_pool.proofs.Blanks.{few_buckets}
use Rattle.bucket_pool.proofs.opening.add_devices.Goals as goal

pub new-requires : goal.new-requires
new-requires c =
    let at = c.loop-size.size-index in
    let size = get_or c.args.blocks.now at 0 in
    few_buckets c.args.first (size / 16) size c.in_ok-buckets.buckets.items c.in_ok-buckets.ensures refl (c.requires at 0 c.loop-size-test.true)
