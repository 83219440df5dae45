use Rattle.std.proofs.Common.{inl, inr, refl}
use Rattle.dev_model.specs.FrameLaws.{go_on_here, only_read_here, stay_here}
use Rattle.replay.proofs.OpenedVolume.{stay_means}
use Rattle.shell.specs.Causes.{EarlyCause, SourceFailed}
use Rattle.shell.proofs.Mounting.{mount_source}
use Rattle.shell.proofs.Preparing.{handed_on}
use Rattle.shell.proofs.prepare.prepare.Goals as goal

pub returns-in_err-script-clause-keeps : goal.returns-in_err-script-clause-keeps
returns-in_err-script-clause-keeps g c tells f on =
    let old = g.D.Devices.state c.args.devices.now in
    stay_means f old old on (stay_here old)

pub returns-in_err-script-clause-unmounted : goal.returns-in_err-script-clause-unmounted
returns-in_err-script-clause-unmounted g c tells none error = only_read_here g.D.Devices.tells (g.D.Devices.state c.args.devices.now)

pub returns-in_err-script-clause-goes_on : goal.returns-in_err-script-clause-goes_on
returns-in_err-script-clause-goes_on g c = go_on_here (g.D.Devices.state c.args.devices.now)

pub returns-in_err-script-clause-cause : goal.returns-in_err-script-clause-cause
returns-in_err-script-clause-cause g c arguments run =
    let D = g.D.Devices in
    let S = g.S.Source in
    let left = S.left c.args.source.now in
    let first = c.args.devices.now in
    let old = D.state first in
    handed_on c.from_residual.result (EarlyCause S.tells D.tells arguments left old old first first) c.in_err-script.field-0.0 c.from_residual.ensures.1
    (inl (record { cause = inr (run, c.in_err-script.ensures.early); untouched = refl }))

pub returns-in_err-loaded-clause-cause : goal.returns-in_err-loaded-clause-cause
returns-in_err-loaded-clause-cause g c arguments run =
    let D = g.D.Devices in
    let S = g.S.Source in
    let left = S.left c.args.source.now in
    let first = c.args.devices.now in
    let last = c.mount.new.devices in
    handed_on c.from_residual-in_err-loaded.result (EarlyCause S.tells D.tells arguments left (D.state first) (D.state last) first last) c.in_err-loaded.field-0.0 c.from_residual-in_err-loaded.ensures.1
    (inr (inl (record { run = run; script = c.in_ok-script.script; gave = c.in_ok-script.ensures.gave; cause = c.in_err-loaded.ensures.cause })))

pub returns-in_err-loaded-clause-source : goal.returns-in_err-loaded-clause-source
returns-in_err-loaded-clause-source g c =
    let D = g.D.Devices in
    let S = g.S.Source in
    let before = S.faults c.args.source.now in
    let after = S.faults c.read_text.new.source in
    handed_on c.from_residual-in_err-loaded.result (λ end. SourceFailed end before after) c.in_err-loaded.field-0.0 c.from_residual-in_err-loaded.ensures.1
    (mount_source D.tells (D.state c.args.devices.now) (D.state c.mount.new.devices) before after c.in_err-loaded.field-0.0 c.in_err-loaded.ensures.cause c.in_ok-script.ensures.still)
