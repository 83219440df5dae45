use Rattle.tree_keys.specs.JoinLaws.{leaves_joined}
use Rattle.tree_keys.proofs.laws.leaves_are_joined.Goals as goal

pub returns : goal.returns
returns c = leaves_joined
