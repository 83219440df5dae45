use Rattle.forest_ops.specs.HistoryLaws.{IsLegal-push}
use Rattle.forest_ops.proofs.laws.histories_go_on.Goals as goal

pub returns : goal.returns
returns c = IsLegal-push
