use Rattle.snap_tree.specs.Nearest.{nearest_is_first}
use Rattle.snap_tree.proofs.laws.nearest_ancestor_is_first.Goals as goal

pub returns : goal.returns
returns c = nearest_is_first
