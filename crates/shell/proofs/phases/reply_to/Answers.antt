use Rattle.vol_session.specs.Marks.{forest_found}
use Rattle.shell.proofs.Running.{adds_answer, adds_memory, one_called}
use Rattle.shell.proofs.phases.reply_to.Goals as goal

pub returns-in-Ok-clause-called : goal.returns-in-Ok-clause-called
returns-in-Ok-clause-called g c = one_called c.args.volume.now c.call.new.self c.call.ensures.called

pub returns-in-Err-clause-called : goal.returns-in-Err-clause-called
returns-in-Err-clause-called g c = one_called c.args.volume.now c.call.new.self c.call.ensures.called

pub returns-in-Ok-clause-adds : goal.returns-in-Ok-clause-adds
returns-in-Ok-clause-adds g c = adds_answer (forest_found g.O.Opening.found g.O.Opening.start) g.D.Devices.state c.args.client c.args.op c.args.volume.now c.call.new.self g.O.Opening.found c.in-Ok.reply c.in-Ok.ensures.answers c.in-Ok.ensures.cause c.in-Ok.ensures.synced c.call.ensures.goes_on

pub returns-in-Err-clause-adds : goal.returns-in-Err-clause-adds
returns-in-Err-clause-adds g c = adds_memory (forest_found g.O.Opening.found g.O.Opening.start) g.D.Devices.state c.args.volume.now c.call.new.self c.in-Err.ensures.err c.call.ensures.goes_on
