use Rattle.key_steps.proofs.Subvolumes.{kept_is_sound, sound_is_kept}
use Rattle.key_steps.proofs.kept.sound_keys_are_kept_and_good.Goals as goal

pub returns : goal.returns
returns c = record { apart = sound_is_kept; joined = kept_is_sound }
