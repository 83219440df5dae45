use Rattle.file_plan.proofs.Overlaying.{is_written}
use Rattle.file_plan.proofs.laws.writes_are_put.Goals as goal

pub returns : goal.returns
returns c = is_written
