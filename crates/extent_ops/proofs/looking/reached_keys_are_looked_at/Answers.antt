use Rattle.extent_ops.proofs.Reached.{looked_at_reach}
use Rattle.extent_ops.proofs.looking.reached_keys_are_looked_at.Goals as goal

pub returns : goal.returns
returns c = looked_at_reach
