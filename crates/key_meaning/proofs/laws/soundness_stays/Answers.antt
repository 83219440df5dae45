use Rattle.key_meaning.specs.KeptLaws.{blocks_stay_placed, leaves_stay_sound, space_stays_counted}
use Rattle.key_meaning.proofs.laws.soundness_stays.Goals as goal

pub returns : goal.returns
returns c = record { leaves = leaves_stay_sound; blocks = blocks_stay_placed; space = space_stays_counted }
