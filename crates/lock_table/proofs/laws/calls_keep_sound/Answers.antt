use Rattle.lock_table.proofs.Sound.{sound_step}
use Rattle.lock_table.proofs.laws.calls_keep_sound.Goals as goal

pub returns : goal.returns
returns c = λ old new call sound may steps. sound_step call old new sound may steps
