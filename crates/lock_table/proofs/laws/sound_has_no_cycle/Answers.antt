use Rattle.lock_table.proofs.Cycles.{no_cycle}
use Rattle.lock_table.proofs.laws.sound_has_no_cycle.Goals as goal

pub returns : goal.returns
returns c = no_cycle
