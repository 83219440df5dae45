use Rattle.forest_ops.proofs.Idle.{only_commits}
use Rattle.forest_ops.proofs.laws.only_commits_change_forests.Goals as goal

pub returns : goal.returns
returns c = only_commits
