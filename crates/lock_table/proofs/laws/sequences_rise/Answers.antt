use Rattle.lock_table.proofs.Sequences.{rise_run}
use Rattle.lock_table.proofs.laws.sequences_rise.Goals as goal

pub returns : goal.returns
returns c = λ old new calls sound runs. rise_run calls old new sound runs
