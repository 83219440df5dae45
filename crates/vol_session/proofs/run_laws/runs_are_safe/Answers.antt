use Rattle.vol_session.proofs.BegunWell.{begins_well}
use Rattle.vol_session.proofs.SafeRuns.{opening_is_safe, runs_are_safe}
use Rattle.vol_session.proofs.run_laws.runs_are_safe.Goals as goal

pub returns : goal.returns
returns c = record { begins = begins_well; session = runs_are_safe; opening = opening_is_safe }
