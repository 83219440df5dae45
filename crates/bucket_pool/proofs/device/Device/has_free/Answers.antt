use Rattle.std.proofs.Common.{◌∙◌, nat_lt, sym, ap}
use Rattle.bucket_pool.specs.Buckets.{is_free}
use Rattle.bucket_pool.specs.Space.{free_count}
use Rattle.bucket_pool.proofs.Counts.{any_counted}
use Rattle.bucket_pool.proofs.device.Device.has_free.Goals as goal

pub returns : goal.returns
returns c = ap (nat_lt 0) (c.self.invariant.free_ones ∙ ap free_count c.self.view_is) ∙ sym (any_counted is_free c.args.self.now)
