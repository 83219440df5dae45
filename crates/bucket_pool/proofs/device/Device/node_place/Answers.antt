use Rattle.std.proofs.Common.{◌∙◌, sym}
use Rattle.bucket_pool.specs.Buckets.{is_free}
use Rattle.bucket_pool.proofs.First.{no_position}
use Rattle.bucket_pool.proofs.device.Device.node_place.Goals as goal

pub unreachable-requires : goal.unreachable-requires
unreachable-requires c = no_position is_free c.args.self.now c.requires (sym c.first_free.ensures ∙ c.in_default.is)
