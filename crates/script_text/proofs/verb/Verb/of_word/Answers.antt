use Rattle.std.proofs.Common.{sym, ◌∙◌}
use Rattle.script_text.proofs.OneVerb.{no_supported}
use Rattle.script_text.proofs.verb.Verb.of_word.Goals as goal

pub returns-else-is_supported-clause-none : goal.returns-else-is_supported-clause-none
returns-else-is_supported-clause-none c = no_supported c.args.word.now c.in_ok-verb.verb c.in_ok-verb.ensures.found (sym c.is_supported.ensures ∙ c.if-is_supported.false)
