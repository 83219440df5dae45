use Rattle.script_text.proofs.OneScript.{clients_below}
use Rattle.script_text.proofs.laws.clients_are_below_16.Goals as goal

pub returns : goal.returns
returns c = clients_below
