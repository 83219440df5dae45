use Rattle.key_steps.proofs.Following.{change_then, leaf_then, no_step, steps_then}
use Rattle.key_steps.proofs.steps.steps_follow_each_other.Goals as goal

pub returns : goal.returns
returns c = record { none = no_step; next = steps_then; then = change_then; leaf = leaf_then }
