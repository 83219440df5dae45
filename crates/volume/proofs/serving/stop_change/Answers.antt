-- A halt is told of a change that would be done.
use Rattle.volume.proofs.Helped.{entry_keeps, same_helped}
use Rattle.volume.proofs.Replying.{plan_is_done, told_halts}
use Rattle.volume.proofs.Served.{halted_served}
use Rattle.volume.proofs.serving.stop_change.Goals as goal

pub fail_halted-requires-clause-changes : goal.fail_halted-requires-clause-changes
fail_halted-requires-clause-changes g c = (told_halts c.args.plan.op c.args.plan.reply c.args.session.now.core.memory.volume.halted c.args.halt c.requires.told).changes

pub fail_halted-requires-clause-done : goal.fail_halted-requires-clause-done
fail_halted-requires-clause-done g c =
    plan_is_done c.args.session.now.core.memory c.args.client c.args.plan (told_halts c.args.plan.op c.args.plan.reply c.args.session.now.core.memory.volume.halted c.args.halt c.requires.told).done c.requires.now

pub returns-clause-served : goal.returns-clause-served
returns-clause-served g c =
    halted_served g.O.Opening.found g.D.Devices.state c.args.client c.args.plan.op c.fail_halted.result c.args.halt c.args.session.now c.fail_halted.new.session c.fail_halted.ensures.reply
    (told_halts c.args.plan.op c.args.plan.reply c.args.session.now.core.memory.volume.halted c.args.halt c.requires.told).halted_so c.fail_halted.ensures.entered

pub returns-clause-helped : goal.returns-clause-helped
returns-clause-helped g c =
    same_helped c.args.session.now c.fail_halted.new.session (entry_keeps c.args.session.now c.fail_halted.new.session c.args.client c.args.plan.op c.fail_halted.result c.fail_halted.ensures.entered)
