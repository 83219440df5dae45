use Rattle.dirent_keys.proofs.MoveSteps.{moved_apart, moved_together}
use Rattle.dirent_keys.proofs.laws.moved_names_are_taken_and_added.Goals as goal

pub returns : goal.returns
returns c = record { within = moved_together; between = moved_apart }
