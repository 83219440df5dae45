use Rattle.std.proofs.Common.{◌∙◌}
use Rattle.volume.proofs.Helped.{same_helped, step_keeps}
use Rattle.volume.proofs.serving.answer.Goals as goal

pub returns-in-Ok-clause-helped : goal.returns-in-Ok-clause-helped
returns-in-Ok-clause-helped g c = λ helped.
    c.carry_out.ensures.helped (same_helped c.args.session.now c.planned.new.session (c.planned.ensures.shortages ∙ step_keeps c.args.session.now c.begin.new.session c.begin.ensures.stepped) helped)

pub returns-in-Err-clause-helped : goal.returns-in-Err-clause-helped
returns-in-Err-clause-helped g c =
    same_helped c.args.session.now c.end.new.session
    (step_keeps c.planned.new.session c.end.new.session c.end.ensures.stepped ∙ c.planned.ensures.shortages ∙ step_keeps c.args.session.now c.begin.new.session c.begin.ensures.stepped)
