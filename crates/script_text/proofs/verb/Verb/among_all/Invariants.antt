use Rattle.std.proofs.Common.{◌≢◌, ℕ, ◌<◌, get_or}
use Rattle.script_text.specs.Verbs.{verb_word}
use Rattle.script_text.specs.declared.verb.Verb.TheVariants.{Mkdir}
use Rattle.script_text.proofs.verb.Verb.among_all.Given as goal

abbrev pub invariant-loop-verb : goal.invariant-loop-verb
invariant-loop-verb l = (k : ℕ) → k < l.verb-index → l.word ≢ verb_word (get_or l.verb-items k Mkdir)
