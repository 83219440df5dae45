use Rattle.std.proofs.Common.{◌≤◌, inl, inr, [], Some, refl, ap, ◌∙◌, sym, subst, arith}
use Rattle.std.specs.Prelude.{length}
use Rattle.dev_model.specs.FrameLaws.{only_read_here}
use Rattle.vol_session.specs.Runs.{RunSurvives}
use Rattle.shell.specs.declared.early_end.EarlyEnd.TheVariants.{OutOfMemory}
use Rattle.shell.specs.declared.task.Task.{Task}
use Rattle.shell.specs.Tasks.{IsFormat, IsInfo}
use Rattle.shell.specs.Mounts.{OnlyReadUnmounted}
use Rattle.shell.specs.Runs.{Run, run_of}
use Rattle.shell.proofs.Asking.{Fits, format_fits}
use Rattle.shell.proofs.EndingEarly.{ended_early, formatted}
use Rattle.shell.proofs.Informing.{informed}
use Rattle.shell.proofs.Sessions.{untouched_survives}
use Rattle.shell.proofs.run.run_task.Goals as goal

pub returns-in-Run : goal.returns-in-Run
returns-in-Run g c arguments asked = c.run_script.ensures arguments (asked ∙ ap (λ (task : Task). Some task) c.in-Run.is)

pub returns-in-Info : goal.returns-in-Info
returns-in-Info g c arguments asked =
    let D = g.D.Devices in
    let S = g.S.Source in
    let K = g.K.Sink in
    let ended = c.inform.result in
    let info : IsInfo arguments (D.state c.args.devices).sizes = asked ∙ ap (λ (task : Task). Some task) c.in-Info.is in
    let all : Run g.row.D.Denot g.row.K.Denot = run_of S.left S.faults K.held K.faults D.state arguments c.args.source.now c.args.source.now c.args.sink.now c.inform.new.sink c.args.devices ended in
    informed S.tells K.tells D.tells K.held K.given_at all info refl refl c.runs_are_safe.ensures.opening c.inform.ensures.shorts c.inform.ensures.calls c.inform.ensures.informs

pub formatted_line-requires : goal.formatted_line-requires
formatted_line-requires g c =
    let sizes = (g.D.Devices.state c.args.devices).sizes in
    let fits : Fits (length sizes) c.in-Format.layout = format_fits (length sizes) c.requires.arguments c.in-Format.layout (c.requires.asked ∙ ap (λ (task : Task). Some task) c.in-Format.is) in
    fits.some

pub format_devices-ended-requires-clause-layout : goal.format_devices-ended-requires-clause-layout
format_devices-ended-requires-clause-layout g c =
    let sizes = (g.D.Devices.state c.args.devices).sizes in
    let fits : Fits (length sizes) c.in-Format.layout = format_fits (length sizes) c.requires.arguments c.in-Format.layout (c.requires.asked ∙ ap (λ (task : Task). Some task) c.in-Format.is) in
    fits.is

pub format_devices-ended-requires-clause-count : goal.format_devices-ended-requires-clause-count
format_devices-ended-requires-clause-count g c =
    let sizes = (g.D.Devices.state c.args.devices).sizes in
    let fits : Fits (length sizes) c.in-Format.layout = format_fits (length sizes) c.requires.arguments c.in-Format.layout (c.requires.asked ∙ ap (λ (task : Task). Some task) c.in-Format.is) in
    fits.count

pub returns-in-Ok : goal.returns-in-Ok
returns-in-Ok g c arguments asked =
    let D = g.D.Devices in
    let S = g.S.Source in
    let K = g.K.Sink in
    let layout = c.in-Format.layout in
    let ended = c.format_devices-ended.result in
    let format : IsFormat arguments (D.state c.args.devices).sizes layout = asked ∙ ap (λ (task : Task). Some task) c.in-Format.is in
    let all : Run g.row.D.Denot g.row.K.Denot = run_of S.left S.faults K.held K.faults D.state arguments c.args.source.now c.args.source.now c.args.sink.now c.format_devices-ended.new.sink c.args.devices ended in
    formatted S.tells K.tells D.tells K.held K.given_at all layout format c.format_devices-ended.ensures.formats refl refl c.format_devices-ended.ensures.shorts c.format_devices-ended.ensures.calls

pub returns-in-Err : goal.returns-in-Err
returns-in-Err g c arguments asked =
    let D = g.D.Devices in
    let S = g.S.Source in
    let K = g.K.Sink in
    let first = c.args.devices in
    let early = c.end_early.ensures in
    let ended = c.end_early.result in
    let old = D.state first in
    let all : Run g.row.D.Denot g.row.K.Denot = run_of S.left S.faults K.held K.faults D.state arguments c.args.source.now c.args.source.now c.args.sink.now c.end_early.new.sink first ended in
    ended_early S.tells K.tells D.tells K.held K.given_at all OutOfMemory early.ends
    (inl (record { cause = inl tt; untouched = early.devices })) refl (inr refl)
    (subst (λ d. OnlyReadUnmounted D.tells old (D.state d)) (sym early.devices) (λ told unfailed error. only_read_here D.tells old))
    (λ told f may. subst (λ d. RunSurvives f old (D.state d) [] []) (sym early.devices) (untouched_survives c.runs_are_safe.ensures.opening f old may))
    (subst (λ d. old.moment ≤ (D.state d).moment) (sym early.devices) (omega arith))
    early.early early.shorts early.calls
