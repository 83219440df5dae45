use Rattle.id_steps.proofs.Removal.{removed_forest, removed_good, removed_kept, removed_space}
use Rattle.id_steps.specs.Steps.{removal_updates}
use Rattle.key_meaning.specs.SoundLaws.{sub_named-is}
use Rattle.vol_types.specs.KeyMaps.{with_updates}
use Rattle.id_steps.proofs.removing.subvolumes_are_removed.Goals as goal

pub returns : goal.returns
returns c = record {
  sound = λ keys nodes layout name sub leaf left is sound tidy found at puts.
      let all = c.sound_keys_are_kept_and_good.ensures.apart keys nodes layout is sound tidy in
      let small = c.shown_numbers_are_drawn.ensures.small keys nodes layout sub.id all.0 (sub_named-is keys name sub sound.leaves found).leaf in
      c.sound_keys_are_kept_and_good.ensures.joined (with_updates (removal_updates name sub leaf left) keys) nodes layout
      (removed_kept keys nodes layout is all.0 all.1 all.2 sound.leaves name sub leaf left found at puts small)
      (removed_space keys nodes layout is all.0 all.1 all.2 sound.leaves name sub leaf left found at puts small)
      (removed_good keys nodes layout is all.0 all.1 all.2 sound.leaves name sub leaf left found at puts small);
  means = λ keys nodes layout name sub leaf left read is sound tidy found at puts.
      let all = c.sound_keys_are_kept_and_good.ensures.apart keys nodes layout is sound tidy in
      let small = c.shown_numbers_are_drawn.ensures.small keys nodes layout sub.id all.0 (sub_named-is keys name sub sound.leaves found).leaf in
      removed_forest keys nodes layout is all.0 all.1 all.2 sound.leaves name sub leaf left found at puts small read;
}
