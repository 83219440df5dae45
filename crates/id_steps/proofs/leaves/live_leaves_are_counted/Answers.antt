use Rattle.id_steps.proofs.Living.{dead_counted, root_counted, split_counted}
use Rattle.id_steps.proofs.leaves.live_leaves_are_counted.Goals as goal

pub returns : goal.returns
returns c = record { root = root_counted; split = split_counted; dead = dead_counted }
