use Rattle.std.proofs.Common.{refl, Some, ◌+◌, cond}
use Rattle.std.specs.Prelude.{◌==◌}
use Rattle.key_meaning.specs.Forest.{counter_in, next_in}
use Rattle.key_steps.proofs.Ends.{counted_then, means_then, sound_then, uncounted_then}
use Rattle.key_steps.proofs.closing.steps_end_in_good_trees.Goals as goal

pub returns : goal.returns
returns c = record {
  sound = λ keys new nodes layout name sub shown counters directories is sound tidy found steps are good. sound_then keys new nodes layout name sub shown counters sound found steps directories are is tidy good;
  means = λ keys new nodes layout name sub shown counters read change sound found steps is_tree. means_then keys new nodes layout name sub shown counters sound found steps read change is_tree;
  uncounted = λ keys new nodes layout name sub shown read change sound found steps is_tree. uncounted_then keys new nodes layout name sub shown (counter_in keys) sound found steps read change is_tree refl;
  counted = λ keys new nodes layout name sub shown client read change lt sound found steps is_tree. counted_then keys new nodes layout name sub shown (λ counter. cond (client == counter) (Some (next_in keys client + 1)) (counter_in keys counter)) sound found steps read change is_tree client lt refl;
}
