use Rattle.content_steps.proofs.Following.{change_then, leaf_then, steps_are}
use Rattle.content_steps.proofs.steps.steps_but_space_follow_each_other.Goals as goal

pub returns : goal.returns
returns c = record { weaker = steps_are; then = change_then; leaf = leaf_then }
