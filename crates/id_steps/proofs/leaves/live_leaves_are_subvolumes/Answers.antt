use Rattle.std.proofs.Common.{◌∙◌}
use Rattle.id_steps.proofs.Counting.{forest_is_as_long, leaves_are_subs}
use Rattle.id_steps.proofs.leaves.live_leaves_are_subvolumes.Goals as goal

pub returns : goal.returns
returns c = record {
  keys = λ keys nodes layout sound. leaves_are_subs keys sound.leaves;
  forest = λ keys nodes layout read is sound tidy. leaves_are_subs keys sound.leaves ∙ forest_is_as_long keys read is sound.leaves tidy.drawn tidy.named;
}
