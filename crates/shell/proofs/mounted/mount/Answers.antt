use Rattle.std.proofs.Common.{◌≡◌, ◌+◌, ℕ, List, Err, inr, refl, ap, ◌∙◌, sym, subst}
use Rattle.dev_model.specs.Devices.{now}
use Rattle.dev_model.specs.Disk.{Disk, as_read}
use Rattle.dev_model.specs.FrameLaws.{go_on_reading, go_on_then, stay_now}
use Rattle.image_view.specs.Found.{Found, NodesAgree, with_session}
use Rattle.image_view.specs.declared.fault.MountFault.{MountFault}
use Rattle.replay.specs.Volumes.{found_in}
use Rattle.replay.specs.Beginning.{IsFoundOn, begin_fault_device}
use Rattle.replay.specs.Mending.{IsReady}
use Rattle.replay.specs.declared.beginning.BeginFault.{BeginFault}
use Rattle.replay.specs.declared.beginning.BeginFault.TheVariants.{Spent}
use Rattle.replay.proofs.OpenedVolume.{in_order_now, is_begun, none_before, stay_means, stay_then_means}
use Rattle.shell.specs.EarlyEnds.{end_of_mount}
use Rattle.shell.specs.Mounts.{MountCause}
use Rattle.shell.proofs.LoadedFront.{front_is}
use Rattle.shell.proofs.Mounting.{begin_ended, ends_are, found_not, is_opened, load_ended, named_failed, read_only}
use Rattle.shell.proofs.Preparing.{handed_on}
use Rattle.shell.proofs.mounted.mount.Goals as goal

pub returns-in_err-loaded-clause-keeps : goal.returns-in_err-loaded-clause-keeps
returns-in_err-loaded-clause-keeps g c tells f on =
    let D = g.D.Devices in
    stay_means f (D.state c.args.devices.now) (D.state c.load.new.devices) on (c.load.ensures.read.disks tells)

pub returns-in_err-loaded-clause-cause : goal.returns-in_err-loaded-clause-cause
returns-in_err-loaded-clause-cause g c =
    let D = g.D.Devices in
    let old = D.state c.args.devices.now in
    let new = D.state c.load.new.devices in
    let fault = c.in_err-loaded.field-0.0 in
    handed_on c.from_residual.result (MountCause D.tells old new) (end_of_mount fault) c.from_residual.ensures.1
    (load_ended D.tells old new fault c.in_err-loaded.ensures.found
    (λ told is. c.load.ensures.early told fault c.in_err-loaded.was is)
    (λ check is. c.load.ensures.untested check (c.in_err-loaded.was ∙ ap (λ (f : MountFault). Err f) is))
    c.in_err-loaded.ensures.cause c.load.ensures.read)

pub returns-in_err-loaded-clause-goes_on : goal.returns-in_err-loaded-clause-goes_on
returns-in_err-loaded-clause-goes_on g c =
    let D = g.D.Devices in
    go_on_reading D.tells (D.state c.args.devices.now) (D.state c.load.new.devices) c.load.ensures.read

pub returns-in-Ok-clause-opened : goal.returns-in-Ok-clause-opened
returns-in-Ok-clause-opened g c =
    let D = g.D.Devices in
    let old = D.state c.args.devices.now in
    let mid = D.state c.load.new.devices in
    let new = D.state c.begin_and_mend.new.devices in
    let loaded = c.in_ok-loaded.loaded in
    let session = c.in-Ok.session in
    is_opened D.tells old mid new loaded (record loaded { session = session }) session c.load.ensures.read c.in-Ok.ensures.cause c.begin_and_mend.ensures.goes_on.calls
    c.in_ok-loaded.ensures.found c.in_ok-loaded.ensures.made_up
    (λ past. is_begun session Spent (c.in-Ok.ensures.spent.1 past)) c.in-Ok.ensures.next refl
    (λ tells f on.
    let order = in_order_now f old mid on (c.load.ensures.read.disks tells) in
    let front = front_is (as_read (now old)) f on.on.finds loaded.layout loaded.session loaded.needed (c.in_ok-loaded.ensures.front tells) in
    let ends = ends_are f loaded (c.in_ok-loaded.ensures.made_up tells f on.on.finds on.order.agree) in
    subst (λ (s : ℕ). IsReady (with_session (s + 1) f) (now new)) (sym front.sessions) (c.in-Ok.ensures.ready tells f order front.layouts front.sessions (front.needs ∙ sym c.as_slice.ensures) (ends ∙ sym c.as_slice-2.ensures)))
    (λ tells f on agree.
    let now_same = sym (stay_now old mid (c.load.ensures.read.disks tells)) in
    let front = front_is (as_read (now old)) f on.finds loaded.layout loaded.session loaded.needed (c.in_ok-loaded.ensures.front tells) in
    let ends = ends_are f loaded (c.in_ok-loaded.ensures.made_up tells f on.finds agree) in
    c.in-Ok.ensures.alike tells f (subst (λ (ds : List Disk). IsFoundOn f ds) now_same on) (subst (λ (ds : List Disk). NodesAgree (as_read ds) f) now_same agree)
    front.layouts front.sessions (front.needs ∙ sym c.as_slice.ensures) (ends ∙ sym c.as_slice-2.ensures))

pub returns-in-Ok-clause-keeps : goal.returns-in-Ok-clause-keeps
returns-in-Ok-clause-keeps g c tells f on =
    let D = g.D.Devices in
    let old = D.state c.args.devices.now in
    let mid = D.state c.load.new.devices in
    let loaded = c.in_ok-loaded.loaded in
    let stay = c.load.ensures.read.disks tells in
    let order = in_order_now f old mid on stay in
    let front = front_is (as_read (now old)) f on.on.finds loaded.layout loaded.session loaded.needed (c.in_ok-loaded.ensures.front tells) in
    let needs = front.needs ∙ sym c.as_slice.ensures in
    let ends = ends_are f loaded (c.in_ok-loaded.ensures.made_up tells f on.on.finds on.order.agree) ∙ sym c.as_slice-2.ensures in
    stay_then_means f old mid (D.state c.begin_and_mend.new.devices) on stay
    (c.begin_and_mend.ensures.past tells f order front.layouts front.sessions needs)
    (c.begin_and_mend.ensures.crashes tells f order front.layouts front.sessions needs ends)

pub returns-in-Ok-clause-unmounted : goal.returns-in-Ok-clause-unmounted
returns-in-Ok-clause-unmounted g c tells none error =
    let D = g.D.Devices in
    let old = D.state c.args.devices.now in
    let mid = D.state c.load.new.devices in
    let new = D.state c.begin_and_mend.new.devices in
    absurd (found_not (as_read (now old)) _ (c.in_ok-loaded.ensures.found tells (none_before old.faults mid.faults new.faults c.begin_and_mend.ensures.goes_on.calls none)) error)

pub returns-in-Ok-clause-goes_on : goal.returns-in-Ok-clause-goes_on
returns-in-Ok-clause-goes_on g c =
    let D = g.D.Devices in
    let old = D.state c.args.devices.now in
    let mid = D.state c.load.new.devices in
    go_on_then old mid (D.state c.begin_and_mend.new.devices) (go_on_reading D.tells old mid c.load.ensures.read) c.begin_and_mend.ensures.goes_on

pub returns-in-Err-clause-keeps : goal.returns-in-Err-clause-keeps
returns-in-Err-clause-keeps g c tells f on =
    let D = g.D.Devices in
    let old = D.state c.args.devices.now in
    let mid = D.state c.load.new.devices in
    let loaded = c.in_ok-loaded.loaded in
    let stay = c.load.ensures.read.disks tells in
    let order = in_order_now f old mid on stay in
    let front = front_is (as_read (now old)) f on.on.finds loaded.layout loaded.session loaded.needed (c.in_ok-loaded.ensures.front tells) in
    let needs = front.needs ∙ sym c.as_slice.ensures in
    let ends = ends_are f loaded (c.in_ok-loaded.ensures.made_up tells f on.on.finds on.order.agree) ∙ sym c.as_slice-2.ensures in
    stay_then_means f old mid (D.state c.begin_and_mend.new.devices) on stay
    (c.begin_and_mend.ensures.past tells f order front.layouts front.sessions needs)
    (c.begin_and_mend.ensures.crashes tells f order front.layouts front.sessions needs ends)

pub returns-in-Err-clause-unmounted : goal.returns-in-Err-clause-unmounted
returns-in-Err-clause-unmounted g c tells none error =
    let D = g.D.Devices in
    let old = D.state c.args.devices.now in
    let mid = D.state c.load.new.devices in
    let new = D.state c.begin_and_mend.new.devices in
    absurd (found_not (as_read (now old)) _ (c.in_ok-loaded.ensures.found tells (none_before old.faults mid.faults new.faults c.begin_and_mend.ensures.goes_on.calls none)) error)

pub returns-in-Err-clause-goes_on : goal.returns-in-Err-clause-goes_on
returns-in-Err-clause-goes_on g c =
    let D = g.D.Devices in
    let old = D.state c.args.devices.now in
    let mid = D.state c.load.new.devices in
    go_on_then old mid (D.state c.begin_and_mend.new.devices) (go_on_reading D.tells old mid c.load.ensures.read) c.begin_and_mend.ensures.goes_on

pub returns-in-Err-clause-cause : goal.returns-in-Err-clause-cause
returns-in-Err-clause-cause g c =
    let D = g.D.Devices in
    let loaded = c.in_ok-loaded.loaded in
    let first = c.args.devices.now in
    let mid = c.load.new.devices in
    let last = c.begin_and_mend.new.devices in
    subst (MountCause D.tells (D.state first) (D.state last)) (sym c.unbegun.ensures)
    (begin_ended D.tells (D.state first) (D.state mid) (D.state last) c.in-Err.fault
    (λ none.
    let spent = ap (λ (f : BeginFault). Err f) none in
    record {
      reason = λ tells shows. inr (record { layout = loaded.layout; session = loaded.session; needed = loaded.needed; front = c.in_ok-loaded.ensures.front tells; last = c.in-Err.ensures.spent.0 spent });
      read = read_only D.state D.tells first mid last (c.in-Err.ensures.nothing spent) c.load.ensures.read;
    })
    c.load.ensures.read.calls (named_failed (begin_fault_device c.in-Err.fault) (D.state mid).faults (D.state last).faults c.in-Err.ensures.cause))
