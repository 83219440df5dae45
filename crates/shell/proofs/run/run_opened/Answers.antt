use Rattle.std.proofs.Common.{refl, ap}
use Rattle.vol_session.specs.Marks.{forest_found}
use Rattle.shell.proofs.Ending.{script_ran}
use Rattle.shell.proofs.Printing.{prints_nothing}
use Rattle.shell.proofs.run.run_opened.Goals as goal

pub returns-clause-ran : goal.returns-clause-ran
returns-clause-ran g c =
    let K = g.K.Sink in
    let O = g.O.Opening in
    let D = g.D.Devices in
    let first = c.args.sink.now in
    let page = c.new-page.result in
    let left = c.finish-devices.result in
    let kept = c.finish-devices.ensures in
    record {
      ran = script_ran (forest_found O.found O.start) D.state D.tells K.tells K.held K.given_at K.faults c.end_run-status.result c.args.script c.args.volume c.run_lines.new.volume c.end_run-status.new.volume page c.run_lines.new.page
          first c.run_lines.new.sink c.end_run-status.new.sink left.trace left.acks left.calls left.devices c.requires.trace c.requires.acks c.requires.calls (ap (λ p. p.tally) c.new-page.ensures)
          (prints_nothing K.tells K.held K.faults first page (ap (λ p. p.lines) c.new-page.ensures) (ap (λ p. p.is_cut) c.new-page.ensures) (ap (λ p. p.has_failed) c.new-page.ensures))
          c.run_lines.ensures c.end_run-status.ensures kept.trace kept.acks kept.calls kept.devices;
      halt = left.halted;
      halts = kept.halts;
      no_commit = kept.no_commit;
      causes = kept.causes;
      unspent = kept.unspent;
      acknowledged = kept.acknowledged;
      legal = kept.legal;
      exact = kept.exact;
      survive = kept.survives;
      after = record { goes_on = kept.goes_on; past = kept.past };
      early = refl;
    }
