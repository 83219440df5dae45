-- The forest that the keys mean answers the operation as before, since the works on the journal leave the keys.
use Rattle.std.proofs.Common.{◌∙◌, ap}
use Rattle.vol_session.specs.Sessions.{SessionState}
use Rattle.volume.proofs.Acting.{synced_still}
use Rattle.volume.proofs.Helped.{same_helped, stop_keeps}
use Rattle.volume.proofs.serving.sync.Goals as goal

pub acknowledge-requires-clause-synced : goal.acknowledge-requires-clause-synced
acknowledge-requires-clause-synced g c =
    synced_still c.args.client c.args.op c.args.session.now.core.memory c.sync_all.new.session.core.memory c.sync_all.ensures.worked.memory.keys c.requires.synced

pub returns-in-Ok-clause-helped : goal.returns-in-Ok-clause-helped
returns-in-Ok-clause-helped g c =
    same_helped c.args.session.now c.acknowledge.new.self (ap (λ (s : SessionState g.row.D.Denot). s.shortages) c.acknowledge.ensures.entry ∙ c.sync_all.ensures.shortages)

pub returns-in-Err-clause-helped : goal.returns-in-Err-clause-helped
returns-in-Err-clause-helped g c =
    same_helped c.args.session.now c.stop_sync.new.session (stop_keeps c.sync_all.new.session c.stop_sync.new.session c.args.client c.args.op c.stop_sync.result c.stop_sync.ensures.entered c.stop_sync.ensures.same ∙ c.sync_all.ensures.shortages)
