use Rattle.vol_session.specs.Marks.{forest_found}
use Rattle.std.proofs.Common.{[], ◌∷◌, subst, sym}
use Rattle.shell.specs.Phases.{RunsLines}
use Rattle.shell.proofs.Running.{runs_barrier}
use Rattle.shell.proofs.phases.run_line.Goals as goal

pub returns-in-Some : goal.returns-in-Some
returns-in-Some g c =
    let D = g.D.Devices in
    let K = g.K.Sink in
    subst (λ op. RunsLines (forest_found g.O.Opening.found g.O.Opening.start) D.state D.tells K.tells K.held K.given_at K.faults (record c.args.line { op = op } ∷ []) c.args.volume.now c.answer.new.volume c.args.page.now c.answer.new.page c.args.sink.now c.answer.new.sink) (sym c.in-Some.is) c.answer.ensures

pub returns-in_default : goal.returns-in_default
returns-in_default g c = runs_barrier (forest_found g.O.Opening.found g.O.Opening.start) g.D.Devices.state g.D.Devices.tells g.K.Sink.tells g.K.Sink.held g.K.Sink.given_at g.K.Sink.faults c.args.line c.args.volume.now c.args.page.now c.args.sink.now c.in_default.is
