use Rattle.key_meaning.specs.SoundLaws.{joined_are_trees, leaf_is_alone, sub_named-is, subvolumes_are_apart}
use Rattle.key_meaning.proofs.laws.sound_ids_are_apart.Goals as goal

pub returns : goal.returns
returns c = record { trees = joined_are_trees; leaf = leaf_is_alone; subvolume = sub_named-is; apart = subvolumes_are_apart }
