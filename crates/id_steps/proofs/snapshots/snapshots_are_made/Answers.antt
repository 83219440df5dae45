use Rattle.std.proofs.Common.{◌∙◌, ap, subst, sym}
use Rattle.id_steps.proofs.Snapshot.{snapshot_forest, snapshot_good, snapshot_is, snapshot_kept, snapshot_space}
use Rattle.key_meaning.specs.Checks.{IsSound}
use Rattle.key_meaning.specs.Forest.{forest_in}
use Rattle.key_meaning.specs.SoundLaws.{sub_named-is}
use Rattle.key_meaning.specs.Tidy.{IsTidy}
use Rattle.vol_types.specs.KeyMaps.{KeyMap}
use Rattle.id_steps.proofs.snapshots.snapshots_are_made.Goals as goal

pub returns : goal.returns
returns c = record {
  sound = λ keys nodes layout source copy sub leaf locked sources copies is sound tidy found at left named free puts_source puts_copy.
      let all = c.sound_keys_are_kept_and_good.ensures.apart keys nodes layout is sound tidy in
      let small = c.shown_numbers_are_drawn.ensures.small keys nodes layout sub.id all.0 (sub_named-is keys source sub sound.leaves found).leaf in
      subst (λ (k : KeyMap). IsSound k nodes layout × IsTidy k) (sym (snapshot_is keys nodes layout is all.0 all.1 all.2 sound.leaves source copy sub leaf locked sources copies found at left named free small puts_source puts_copy))
      (c.sound_keys_are_kept_and_good.ensures.joined _ nodes layout
      (snapshot_kept keys nodes layout is all.0 all.1 all.2 sound.leaves source copy sub leaf locked sources copies found at left named free small puts_source puts_copy)
      (snapshot_space keys nodes layout is all.0 all.1 all.2 sound.leaves source copy sub leaf locked sources copies found at left named free small puts_source puts_copy)
      (snapshot_good keys nodes layout is all.0 all.1 all.2 sound.leaves source copy sub leaf locked sources copies found at left named free small puts_source puts_copy));
  means = λ keys nodes layout source copy sub leaf locked sources copies read is sound tidy found at left named free puts_source puts_copy.
      let all = c.sound_keys_are_kept_and_good.ensures.apart keys nodes layout is sound tidy in
      let small = c.shown_numbers_are_drawn.ensures.small keys nodes layout sub.id all.0 (sub_named-is keys source sub sound.leaves found).leaf in
      ap (λ (k : KeyMap). forest_in k read) (snapshot_is keys nodes layout is all.0 all.1 all.2 sound.leaves source copy sub leaf locked sources copies found at left named free small puts_source puts_copy)
      ∙ snapshot_forest keys nodes layout is all.0 all.1 all.2 sound.leaves source copy sub leaf locked sources copies found at left named free small puts_source puts_copy read;
}
