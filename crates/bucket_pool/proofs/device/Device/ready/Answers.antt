use Rattle.std.proofs.Common.{◌∙◌, sym}
use Rattle.bucket_pool.proofs.Reserving.{free_left, readied_new, readied_open}
use Rattle.bucket_pool.proofs.device.Device.ready.Goals as goal

pub reopen-requires : goal.reopen-requires
reopen-requires c = free_left c.args.count c.args.actor c.args.self.now (sym c.open_room.ensures ∙ c.in-None.is) c.requires

pub returns-in-Some-clause-after : goal.returns-in-Some-clause-after
returns-in-Some-clause-after c = (readied_open c.args.count c.args.actor c.in-Some.at c.args.self.now (sym c.open_room.ensures ∙ c.in-Some.is)).0

pub returns-in-Some-clause-at : goal.returns-in-Some-clause-at
returns-in-Some-clause-at c = (readied_open c.args.count c.args.actor c.in-Some.at c.args.self.now (sym c.open_room.ensures ∙ c.in-Some.is)).1

pub returns-in-None-clause-after : goal.returns-in-None-clause-after
returns-in-None-clause-after c = c.reopen.ensures.after ∙ (readied_new c.args.count c.args.actor c.args.self.now (sym c.open_room.ensures ∙ c.in-None.is)).0

pub returns-in-None-clause-at : goal.returns-in-None-clause-at
returns-in-None-clause-at c = c.reopen.ensures.at ∙ (readied_new c.args.count c.args.actor c.args.self.now (sym c.open_room.ensures ∙ c.in-None.is)).1
