use Rattle.script_text.proofs.OneScript.{no_bad_line}
use Rattle.script_text.proofs.laws.one_reading.Goals as goal

pub returns : goal.returns
returns c = no_bad_line
