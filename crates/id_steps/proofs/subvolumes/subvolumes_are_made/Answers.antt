use Rattle.id_steps.proofs.Made.{TreesOfShown, made_forest, made_good, made_kept, made_space}
use Rattle.id_steps.specs.Steps.{made_updates}
use Rattle.vol_types.specs.KeyMaps.{with_updates}
use Rattle.id_steps.proofs.subvolumes.subvolumes_are_made.Goals as goal

pub returns : goal.returns
returns c = record {
  sound = λ keys nodes layout client name subs is sound tidy lt room left named free puts.
      let all = c.sound_keys_are_kept_and_good.ensures.apart keys nodes layout is sound tidy in
      let trees : TreesOfShown = record { tree = c.shown_keys_mean_trees.ensures.tree; one = c.shown_keys_mean_trees.ensures.one } in
      c.sound_keys_are_kept_and_good.ensures.joined (with_updates (made_updates keys client name subs) keys) nodes layout
      (made_kept keys nodes layout is all.0 client name subs lt room left named free puts)
      (made_space keys nodes layout is all.0 client name subs lt room left named free puts all.1)
      (made_good keys nodes layout is all.0 client name subs lt room left named free puts trees all.2);
  means = λ keys nodes layout client name subs read is sound tidy lt room left named free puts.
      let all = c.sound_keys_are_kept_and_good.ensures.apart keys nodes layout is sound tidy in
      let trees : TreesOfShown = record { tree = c.shown_keys_mean_trees.ensures.tree; one = c.shown_keys_mean_trees.ensures.one } in
      made_forest keys nodes layout is all.0 client name subs lt room left named free puts trees read;
}
