use Rattle.script_text.proofs.OneLine.{no_fault, one_line_fault}
use Rattle.script_text.proofs.laws.one_fault.Goals as goal

pub returns : goal.returns
returns c = record { fault = one_line_fault; none = no_fault }
