use Rattle.vol_session.proofs.FreshRuns.{fresh_leaves_room, fresh_may_run}
use Rattle.vol_session.proofs.run_laws.fresh_volumes_may_run.Goals as goal

pub returns-clause-may : goal.returns-clause-may
returns-clause-may c = fresh_may_run c.fresh_keys_mean_fresh.ensures.sound c.fresh_keys_mean_fresh.ensures.tidy

pub returns-clause-room : goal.returns-clause-room
returns-clause-room c = fresh_leaves_room
