use Rattle.vol_session.specs.Left.{works_left}
use Rattle.vol_session.specs.Rounds.{GoesWell}
use Rattle.vol_session.proofs.writeback.work_until_rest.Given as goal

abbrev pub invariant-loop-stage : goal.invariant-loop-stage
invariant-loop-stage g l = GoesWell l.client g.D.Devices.state l.initial.session l.session

abbrev pub decreases-loop-stage : goal.decreases-loop-stage
decreases-loop-stage g l = works_left l.session.core.memory.volume
