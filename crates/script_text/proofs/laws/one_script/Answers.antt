use Rattle.script_text.proofs.OneScript.{one_script_of}
use Rattle.script_text.proofs.laws.one_script.Goals as goal

pub returns : goal.returns
returns c = one_script_of
