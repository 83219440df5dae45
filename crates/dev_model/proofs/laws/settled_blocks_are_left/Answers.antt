use Rattle.dev_model.specs.HeldLaws.{left_as_settled}
use Rattle.dev_model.proofs.laws.settled_blocks_are_left.Goals as goal

pub returns : goal.returns
returns c = left_as_settled
