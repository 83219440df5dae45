use Rattle.vol_session.specs.Marks.{forest_found}
use Rattle.std.specs.Vec.Iter.{into_iter_items}
use Rattle.shell.proofs.Running.{RunsUpTo}
use Rattle.shell.proofs.phases.run_lines.Given as goal

abbrev pub invariant-loop-line : goal.invariant-loop-line
invariant-loop-line g l = RunsUpTo (forest_found g.O.Opening.found g.O.Opening.start) g.D.Devices.state g.D.Devices.tells g.K.Sink.tells g.K.Sink.held g.K.Sink.given_at g.K.Sink.faults l.fn.script (into_iter_items l.line-iterator) l.fn.volume l.volume l.fn.page l.page l.fn.sink l.sink
