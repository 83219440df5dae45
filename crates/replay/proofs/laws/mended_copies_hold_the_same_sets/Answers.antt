use Rattle.replay.proofs.MendedSets.{held_same}
use Rattle.replay.proofs.laws.mended_copies_hold_the_same_sets.Goals as goal

pub returns : goal.returns
returns c id birth one other agree same = held_same id birth one other agree same
