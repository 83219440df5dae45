use Rattle.std.proofs.Common.{◌≡◌, ◌≤◌, inl, inr, refl, [], Some, None, Global, map, sym, subst, arith}
use Rattle.std.specs.Rc.{rc_str_bytes}
use Rattle.dev_model.specs.FrameLaws.{only_read_here}
use Rattle.vol_session.specs.Runs.{RunSurvives}
use Rattle.shell.specs.Tasks.{IsAsked, task_of}
use Rattle.shell.specs.Causes.{ArgumentsCause, SourceFailed}
use Rattle.shell.specs.Mounts.{OnlyReadUnmounted}
use Rattle.shell.specs.Runs.{Run, run_of}
use Rattle.shell.proofs.EndingEarly.{arguments_cause, arguments_source, ended_early}
use Rattle.shell.proofs.Sessions.{untouched_survives}
use Rattle.shell.proofs.run.run_words.Goals as goal

pub run_task-requires-after_bounds : goal.run_task-requires-after_bounds
run_task-requires-after_bounds g c κs within =
    let words = map (rc_str_bytes {Z = Global}) c.args.words.now in
    let asked : IsAsked (g.D.Devices.state c.args.devices).sizes c.in-Ok.task = record { arguments = words; asked = subst (λ n. task_of n words ≡ Some c.in-Ok.task) c.count.ensures.count c.in-Ok.ensures.ok } in
    asked

pub returns-in-Ok : goal.returns-in-Ok
returns-in-Ok g c =
    let words = map (rc_str_bytes {Z = Global}) c.args.words.now in
    c.run_task.ensures words (subst (λ n. task_of n words ≡ Some c.in-Ok.task) c.count.ensures.count c.in-Ok.ensures.ok)

pub returns-in-Err : goal.returns-in-Err
returns-in-Err g c =
    let D = g.D.Devices in
    let S = g.S.Source in
    let K = g.K.Sink in
    let first = c.args.devices in
    let early = c.end_early.ensures in
    let ended = c.end_early.result in
    let old = D.state first in
    let words = map (rc_str_bytes {Z = Global}) c.args.words.now in
    let all : Run g.row.D.Denot g.row.K.Denot = run_of S.left S.faults K.held K.faults D.state words c.args.source.now c.args.source.now c.args.sink.now c.end_early.new.sink first ended in
    ended_early S.tells K.tells D.tells K.held K.given_at all c.from.result early.ends
    (inl (record {
      cause = inl (subst (ArgumentsCause words old.sizes) (sym c.from.ensures) (arguments_cause words old.sizes c.in-Err.fault (λ usage. subst (λ n. task_of n words ≡ None) c.count.ensures.count (c.in-Err.ensures.usage usage))));
      untouched = early.devices;
    }))
    (subst (λ end. SourceFailed end (S.faults c.args.source.now) (S.faults c.args.source.now)) (sym c.from.ensures) (arguments_source c.in-Err.fault (S.faults c.args.source.now)))
    (inr refl)
    (subst (λ d. OnlyReadUnmounted D.tells old (D.state d)) (sym early.devices) (λ told unfailed error. only_read_here D.tells old))
    (λ told f may. subst (λ d. RunSurvives f old (D.state d) [] []) (sym early.devices) (untouched_survives c.runs_are_safe.ensures.opening f old may))
    (subst (λ d. old.moment ≤ (D.state d).moment) (sym early.devices) (omega arith))
    early.early early.shorts early.calls
