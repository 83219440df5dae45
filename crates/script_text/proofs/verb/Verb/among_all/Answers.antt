use Rattle.std.proofs.Common.{arith}
use Rattle.script_text.proofs.OneVerb.{none_of_all}
use Rattle.script_text.proofs.verb.Verb.among_all.Goals as goal

pub returns-clause-none : goal.returns-clause-none
returns-clause-none c = none_of_all c.args.word.now (λ k below. c.loop-verb.invariant k (omega (arith, below, c.loop-verb-test.false)))
