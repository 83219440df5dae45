use Rattle.script_text.proofs.Numbers.{no_length}
use Rattle.script_text.proofs.words.length_of.Goals as goal

pub returns-else-length-clause-none : goal.returns-else-length-clause-none
returns-else-length-clause-none c = no_length c.args.word.now c.in_ok-length.length c.in_ok-length.ensures.found c.if-length.false
