use Rattle.std.proofs.Common.{◌∙◌, nat_lt, sym, ap}
use Rattle.bucket_pool.specs.Buckets.{is_free}
use Rattle.bucket_pool.specs.Space.{free_count, has_open_room}
use Rattle.bucket_pool.proofs.Counts.{room_there}
use Rattle.bucket_pool.proofs.device.Device.can_give.Goals as goal

pub returns-clause-room : goal.returns-clause-room
returns-clause-room c = λ is.
    let now = c.args.self.now in
    room_there is_free now (has_open_room c.args.count c.args.actor now) c.args.held (ap (nat_lt c.args.held) (sym (c.self.invariant.free_ones ∙ ap free_count c.self.view_is)) ∙ is)
