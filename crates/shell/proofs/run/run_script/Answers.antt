use Rattle.std.proofs.Common.{◌≤◌, inl, ⊎_elim, [], sym, subst}
use Rattle.replay.specs.Volumes.{found_in}
use Rattle.vol_session.specs.Runs.{RunSurvives}
use Rattle.shell.specs.Causes.{EarlyCause}
use Rattle.shell.specs.Mounts.{OnlyReadUnmounted}
use Rattle.shell.specs.Phases.{EndsUnopened, RunsOpened}
use Rattle.shell.specs.Runs.{Run, run_of}
use Rattle.shell.proofs.EndingEarly.{ended_early}
use Rattle.shell.proofs.OpenedRuns.{ended_unopened, ran_opened}
use Rattle.shell.proofs.run.run_script.Goals as goal

pub returns-in-Ok : goal.returns-in-Ok
returns-in-Ok g c arguments run =
    let D = g.D.Devices in
    let S = g.S.Source in
    let K = g.K.Sink in
    let prepared = c.in-Ok.prepared in
    let first = c.args.devices in
    let mid = c.prepare-begun.new.devices in
    let sink = c.args.sink.now in
    let sink_after = c.run_prepared.new.sink in
    let ended = c.run_prepared.result in
    let left = S.left c.args.source.now in
    let left_after = S.left c.prepare-begun.new.source in
    let failed = S.faults c.args.source.now in
    let failed_after = S.faults c.prepare-begun.new.source in
    ⊎_elim
    (λ (ran : RunsOpened D.state D.tells K.tells K.held K.given_at K.faults (found_in prepared.loaded) (D.state mid) prepared.script sink sink_after ended.devices ended.status ended.early_end ended.trace ended.acks ended.calls).
    ran_opened S.tells K.tells D.tells D.state K.held K.given_at K.faults arguments left left_after failed failed_after sink sink_after first ended.devices ended.status ended.early_end ended.trace ended.acks ended.shorts ended.calls
    (found_in prepared.loaded) (D.state mid) prepared.script c.runs_are_safe.ensures.begins c.runs_are_safe.ensures.session (λ told. g.met.D.Devices.sound told mid)
    c.in-Ok.ensures.opened c.prepare-begun.ensures.keeps c.prepare-begun.ensures.goes_on c.in-Ok.ensures.gave c.in-Ok.ensures.still run ran c.run_prepared.ensures.shorts)
    (λ (unopened : EndsUnopened K.tells K.held K.faults mid ended.devices sink sink_after ended.status ended.early_end ended.trace ended.acks ended.calls).
    ended_unopened S.tells K.tells D.tells D.state K.held K.given_at K.faults arguments left left_after failed failed_after sink sink_after first ended.devices ended.status ended.early_end ended.trace ended.acks ended.shorts ended.calls
    mid prepared.script c.runs_are_safe.ensures.opening c.prepare-begun.ensures.keeps c.prepare-begun.ensures.goes_on c.prepare-begun.ensures.unmounted c.in-Ok.ensures.gave c.in-Ok.ensures.still run unopened c.run_prepared.ensures.shorts)
    c.run_prepared.ensures.ran

pub returns-in-Err : goal.returns-in-Err
returns-in-Err g c arguments run =
    let D = g.D.Devices in
    let S = g.S.Source in
    let K = g.K.Sink in
    let end = c.in-Err.end in
    let first = c.args.devices in
    let mid = c.prepare-begun.new.devices in
    let early = c.end_early.ensures in
    let ended = c.end_early.result in
    let left = S.left c.args.source.now in
    let old = D.state first in
    let all : Run g.row.D.Denot g.row.K.Denot = run_of S.left S.faults K.held K.faults D.state arguments c.args.source.now c.prepare-begun.new.source c.args.sink.now c.end_early.new.sink first ended in
    ended_early S.tells K.tells D.tells K.held K.given_at all end early.ends
    (subst (λ d. EarlyCause S.tells D.tells arguments left old (D.state d) first d end) (sym early.devices) (c.in-Err.ensures.cause arguments run))
    c.in-Err.ensures.source
    (inl run)
    (subst (λ d. OnlyReadUnmounted D.tells old (D.state d)) (sym early.devices) c.prepare-begun.ensures.unmounted)
    (λ told f may. subst (λ d. RunSurvives f old (D.state d) [] []) (sym early.devices) (c.runs_are_safe.ensures.opening f old (D.state mid) may (c.prepare-begun.ensures.keeps told f may.on)))
    (subst (λ d. old.moment ≤ (D.state d).moment) (sym early.devices) c.prepare-begun.ensures.goes_on.later)
    early.early early.shorts early.calls
