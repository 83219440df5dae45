use Rattle.forest_ops.proofs.Entries.{answer_is_step, failure_leaves}
use Rattle.forest_ops.proofs.laws.entries_are_steps.Goals as goal

pub returns : goal.returns
returns c = record { answer = answer_is_step; failure = failure_leaves }
