use Rattle.key_meaning.specs.Forest.{all_subs}
use Rattle.key_meaning.specs.SoundLaws.{all_in, sub_named-in, sub_named-is}
use Rattle.key_steps.specs.Kept.{IsLeafGood}
use Rattle.shown_changes.proofs.beginning.subvolumes_begin_good.Goals as goal

pub returns : goal.returns
returns c = record {
  kept = λ keys nodes layout is sound tidy. (c.sound_keys_are_kept_and_good.ensures.apart keys nodes layout is sound tidy).0;
  leaf = λ keys nodes layout name sub sound found. (sub_named-is keys name sub sound.leaves found).leaf;
  good = λ keys nodes layout name sub is sound tidy found read. record {
    means = c.shown_keys_mean_trees.ensures.tree keys read sub;
    good = all_in (IsLeafGood keys) sub (all_subs keys) (c.sound_keys_are_kept_and_good.ensures.apart keys nodes layout is sound tidy).2 (sub_named-in keys name sub found).0;
  };
  apart = λ keys nodes layout is sound tidy id. c.kept_names_are_apart.ensures keys nodes layout (c.sound_keys_are_kept_and_good.ensures.apart keys nodes layout is sound tidy).0 id;
}
