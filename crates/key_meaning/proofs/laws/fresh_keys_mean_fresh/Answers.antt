use Rattle.key_meaning.proofs.FreshSound.{fresh_is_sound}
use Rattle.key_meaning.proofs.FreshTidy.{fresh_is_tidy}
use Rattle.key_meaning.proofs.laws.fresh_keys_mean_fresh.Goals as goal

pub returns-clause-sound : goal.returns-clause-sound
returns-clause-sound c = fresh_is_sound

pub returns-clause-tidy : goal.returns-clause-tidy
returns-clause-tidy c = fresh_is_tidy
