use Rattle.script_text.proofs.OneLine.{one_says}
use Rattle.script_text.proofs.laws.one_operation.Goals as goal

pub returns : goal.returns
returns c = one_says
