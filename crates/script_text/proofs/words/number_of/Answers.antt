use Rattle.script_text.proofs.Numbers.{numbers_are_text}
use Rattle.script_text.proofs.words.number_of.Goals as goal

pub returns-in-Err-clause-none : goal.returns-in-Err-clause-none
returns-in-Err-clause-none c = λ number. numbers_are_text c.args.word.now number c.in-Err.ensures.cases.0
