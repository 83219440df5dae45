use Rattle.volume.proofs.Helped.{entry_keeps, same_helped, step_keeps}
use Rattle.volume.proofs.serving.tell_copied.Goals as goal

pub returns-in-Ok-clause-helped : goal.returns-in-Ok-clause-helped
returns-in-Ok-clause-helped g c = same_helped c.args.session.now c.tell.new.session (entry_keeps c.args.session.now c.tell.new.session c.args.client c.args.plan.op c.args.plan.reply c.tell.ensures)

pub returns-in-Err-clause-helped : goal.returns-in-Err-clause-helped
returns-in-Err-clause-helped g c = same_helped c.args.session.now c.end.new.session (step_keeps c.args.session.now c.end.new.session c.end.ensures.stepped)
