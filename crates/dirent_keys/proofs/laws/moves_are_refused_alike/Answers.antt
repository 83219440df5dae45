use Rattle.dirent_keys.proofs.MoveRefusals.{move_refused}
use Rattle.dirent_keys.proofs.laws.moves_are_refused_alike.Goals as goal

pub returns : goal.returns
returns c = move_refused
