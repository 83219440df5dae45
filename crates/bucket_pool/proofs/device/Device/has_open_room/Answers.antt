use Rattle.std.proofs.Common.{◌∙◌, ap, is_some}
use Rattle.bucket_pool.specs.Buckets.{has_room}
use Rattle.bucket_pool.proofs.First.{some_is_any}
use Rattle.bucket_pool.proofs.device.Device.has_open_room.Goals as goal

pub returns : goal.returns
returns c = c.is_some.ensures ∙ ap is_some c.open_room.ensures ∙ some_is_any (has_room c.args.count c.args.actor) c.args.self.now
