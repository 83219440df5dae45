use Rattle.vol_session.specs.Marks.{forest_found}
use Rattle.std.proofs.Common.{◌∙◌, sym}
use Rattle.std.specs.Vec.Iter.{into_iter_deque, into_iter_items}
use Rattle.shell.proofs.Running.{next_runs, up_to_all, up_to_none, up_to_then}
use Rattle.shell.proofs.phases.run_lines.Goals as goal

pub loop-line-init : goal.loop-line-init
loop-line-init g c = up_to_none (forest_found g.O.Opening.found g.O.Opening.start) g.D.Devices.state g.D.Devices.tells g.K.Sink.tells g.K.Sink.held g.K.Sink.given_at g.K.Sink.faults c.args.script (into_iter_items c.into_iter-line-iterator.result) c.args.volume.now c.args.page.now c.args.sink.now
    (c.into_iter-line-iterator.ensures.into_iter_gives.0 ∙ c.from-line-items.ensures) c.requires

pub loop-line-preserved : goal.loop-line-preserved
loop-line-preserved g c =
    let D = g.D.Devices in
    let K = g.K.Sink in
    up_to_then (forest_found g.O.Opening.found g.O.Opening.start) D.state D.tells K.tells K.held K.given_at K.faults c.args.script (into_iter_items c.loop-line.line-iterator) (into_iter_items c.next.new.self) c.in-Some.line
    c.args.volume.now c.loop-line.volume c.run_line.new.volume c.args.page.now c.loop-line.page c.run_line.new.page c.args.sink.now c.loop-line.sink c.run_line.new.sink c.in-Some.ensures.steps.0 c.loop-line.invariant c.run_line.ensures

pub run_line-requires : goal.run_line-requires
run_line-requires g c =
    let D = g.D.Devices in
    let K = g.K.Sink in
    next_runs (forest_found g.O.Opening.found g.O.Opening.start) D.state D.tells K.tells K.held K.given_at K.faults c.args.script (into_iter_items c.loop-line.line-iterator) (into_iter_items c.next.new.self) c.in-Some.line
    c.args.volume.now c.loop-line.volume c.args.page.now c.loop-line.page c.args.sink.now c.loop-line.sink c.in-Some.ensures.steps.0 c.loop-line.invariant

pub returns : goal.returns
returns g c =
    let D = g.D.Devices in
    let K = g.K.Sink in
    up_to_all (forest_found g.O.Opening.found g.O.Opening.start) D.state D.tells K.tells K.held K.given_at K.faults c.args.script (into_iter_items c.loop-line.line-iterator) c.args.volume.now c.loop-line.volume c.args.page.now c.loop-line.page c.args.sink.now c.loop-line.sink
    (sym (into_iter_deque c.loop-line.line-iterator).ok.0 ∙ c.in-None.ensures.steps.0) c.loop-line.invariant
