use Rattle.std.proofs.lemmas.Option.{IfSome_then}
use Rattle.script_text.specs.Words.BeginsWith.{escaped}
use Rattle.script_text.proofs.Behind.{if_none_then}
use Rattle.script_text.proofs.OneName.{only_escaped}
use Rattle.script_text.proofs.names.first_byte.Goals as goal

pub returns-in-Some-clause-found : goal.returns-in-Some-clause-found
returns-in-Some-clause-found c = IfSome_then c.escaped_byte.result c.escaped_byte.ensures.found (λ first is. escaped c.in-Some.text.now c.in-Some.ensures.found is)

pub returns-in-Some-clause-none : goal.returns-in-Some-clause-none
returns-in-Some-clause-none c = if_none_then c.escaped_byte.result c.escaped_byte.ensures.none (only_escaped c.args.word.now c.in-Some.text.now c.in-Some.ensures.found)
