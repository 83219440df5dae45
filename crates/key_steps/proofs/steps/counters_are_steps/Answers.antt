use Rattle.key_steps.proofs.Counters.{counter_is_step}
use Rattle.key_steps.proofs.steps.counters_are_steps.Goals as goal

pub returns : goal.returns
returns c = counter_is_step
