use Rattle.std.proofs.Common.{List, [], append-nil, ap, arith, length, length-append, sym, ◌∙◌}
use Rattle.vol_types.specs.declared.queries.Look.{Look}
use Rattle.inode_keys.proofs.numbers.counter.Goals as goal

pub returns-clause-looks : goal.returns-clause-looks
returns-clause-looks g c = record { more = _; is = c.in_ok-answer.ensures.ok }

pub returns-in_err-answer-clause-looks : goal.returns-in_err-answer-clause-looks
returns-in_err-answer-clause-looks g c = record { more = []; is = c.in_err-answer.ensures.err ∙ sym (append-nil _) }

pub returns-clause-one_look : goal.returns-clause-one_look
returns-clause-one_look g c = omega (arith, length-append {A = Look}, ap (λ (looks : List Look). length looks) c.in_ok-answer.ensures.ok)

pub returns-in_err-answer-clause-one_look : goal.returns-in_err-answer-clause-one_look
returns-in_err-answer-clause-one_look g c = omega (arith, ap (λ (looks : List Look). length looks) c.in_err-answer.ensures.err)
