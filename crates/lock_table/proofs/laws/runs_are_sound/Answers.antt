use Rattle.lock_table.proofs.Sound.{sound_after}
use Rattle.lock_table.proofs.laws.runs_are_sound.Goals as goal

pub returns : goal.returns
returns c = sound_after
