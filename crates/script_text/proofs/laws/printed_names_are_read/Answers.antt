use Rattle.script_text.proofs.PrintedNames.{printed_name}
use Rattle.script_text.proofs.laws.printed_names_are_read.Goals as goal

pub returns : goal.returns
returns c = printed_name
