use Rattle.volume.proofs.Helped.{step_keeps}
use Rattle.volume.proofs.Served.{moved_unserved, stepped_moves}
use Rattle.volume.proofs.committing.fail_uncommitted.Goals as goal

pub returns-in-NoMemory-clause-unserved : goal.returns-in-NoMemory-clause-unserved
returns-in-NoMemory-clause-unserved g c =
    let state = g.D.Devices.state in
    moved_unserved g.O.Opening.found state c.args.client c.args.session.now c.end.new.session (stepped_moves g.O.Opening.found state c.args.client c.args.session.now c.end.new.session c.end.ensures.stepped) c.end.ensures.rest

pub returns-in-NoMemory-clause-shortages : goal.returns-in-NoMemory-clause-shortages
returns-in-NoMemory-clause-shortages g c = step_keeps c.args.session.now c.end.new.session c.end.ensures.stepped
