use Rattle.std.proofs.Common.{◌≡◌, ℕ, inl, inr, List, Ok, Result, ap, true, sym, subst}
use Rattle.dev_model.specs.Devices.{now}
use Rattle.dev_model.specs.Disk.{Disk, as_read}
use Rattle.dev_model.specs.FrameLaws.{go_on_reading, go_on_then, stay_now}
use Rattle.dev_model.specs.Frames.{AreOnlyRead}
use Rattle.geometry.specs.Layouts.{is_layout_of}
use Rattle.image_view.specs.Found.{Found, NodesAgree, found}
use Rattle.image_view.specs.Trees.{nodes_of}
use Rattle.image_view.specs.declared.fault.MountFault.{MountFault}
use Rattle.image_reader.specs.Answers.{AreRagged, Finds}
use Rattle.image_reader.specs.Faults.{failed_mount_device}
use Rattle.replay.specs.Beginning.{IsFoundOn}
use Rattle.replay.specs.Opening.{in_next_session}
use Rattle.replay.specs.Volumes.{found_in}
use Rattle.replay.proofs.LoadedFront.{front_is}
use Rattle.replay.proofs.OpenedVolume.{early_refuses, failed_since, in_order_now, next_failed, next_unloaded, none_before, of_opened, ready_with, stay_means, stay_then_means}
use Rattle.replay.proofs.opening.open_volume.Goals as goal

pub returns-in-Ok-clause-found : goal.returns-in-Ok-clause-found
returns-in-Ok-clause-found g c tells none =
    let D = g.D.Devices in
    let old = D.state c.args.devices.now in
    let mid = D.state c.load.new.devices in
    let new = D.state c.begin_loaded.new.devices in
    subst (λ (expected : Result Found MountFault). Finds found_in (in_next_session expected) c.begin_loaded.result)
    (sym (c.in-Ok.ensures.found tells (none_before old.faults mid.faults new.faults c.begin_loaded.ensures.goes_on.calls none))) c.begin_loaded.ensures.found

pub returns-in-Ok-clause-made_up : goal.returns-in-Ok-clause-made_up
returns-in-Ok-clause-made_up g c tells f is agree =
    subst (λ (found : Found). Finds found_in (in_next_session (Ok found)) c.begin_loaded.result) (c.in-Ok.ensures.made_up tells f is agree) c.begin_loaded.ensures.found

pub returns-in-Ok-clause-crashes : goal.returns-in-Ok-clause-crashes
returns-in-Ok-clause-crashes g c tells f on =
    let D = g.D.Devices in
    let old = D.state c.args.devices.now in
    let mid = D.state c.load.new.devices in
    let loaded = c.in-Ok.loaded in
    let stay = c.load.ensures.read.disks tells in
    let order = in_order_now f old mid on stay in
    let front = front_is (as_read (now old)) f on.on.finds loaded.layout loaded.session loaded.needed (c.in-Ok.ensures.front tells) in
    stay_then_means f old mid (D.state c.begin_loaded.new.devices) on stay
    (c.begin_loaded.ensures.past tells f order front.layouts front.sessions front.needs)
    (c.begin_loaded.ensures.crashes tells f order front.layouts front.sessions front.needs (ap (λ (g : Found). g.trees.ends) (sym (c.in-Ok.ensures.made_up tells f on.on.finds on.order.agree))))

pub returns-in-Ok-clause-ready : goal.returns-in-Ok-clause-ready
returns-in-Ok-clause-ready g c tells f on =
    let D = g.D.Devices in
    let old = D.state c.args.devices.now in
    let mid = D.state c.load.new.devices in
    let loaded = c.in-Ok.loaded in
    let order = in_order_now f old mid on (c.load.ensures.read.disks tells) in
    let front = front_is (as_read (now old)) f on.on.finds loaded.layout loaded.session loaded.needed (c.in-Ok.ensures.front tells) in
    ready_with f loaded.session front.sessions c.begin_loaded.result (now (D.state c.begin_loaded.new.devices))
    (c.begin_loaded.ensures.ready tells f order front.layouts front.sessions front.needs (ap (λ (g : Found). g.trees.ends) (sym (c.in-Ok.ensures.made_up tells f on.on.finds on.order.agree))))

pub returns-in-Ok-clause-early : goal.returns-in-Ok-clause-early
returns-in-Ok-clause-early g c tells fault is early =
    let loaded = c.in-Ok.loaded in
    let spent = c.begin_loaded.ensures.spent fault is (early_refuses fault early) in
    inr (spent.0, record { layout = loaded.layout; session = loaded.session; needed = loaded.needed; front = c.in-Ok.ensures.front tells; last = spent.1 })

pub returns-in-Ok-clause-unfailed : goal.returns-in-Ok-clause-unfailed
returns-in-Ok-clause-unfailed g c fault is early other = absurd (other (c.begin_loaded.ensures.spent fault is (early_refuses fault early)).0)

pub returns-in-Ok-clause-refused : goal.returns-in-Ok-clause-refused
returns-in-Ok-clause-refused g c fault is refusal =
    let D = g.D.Devices in
    subst (λ d. AreOnlyRead D.tells (D.state c.args.devices.now) (D.state d)) (sym (c.begin_loaded.ensures.refused fault is refusal)) c.load.ensures.read

pub returns-in-Ok-clause-fits : goal.returns-in-Ok-clause-fits
returns-in-Ok-clause-fits g c =
    let new = g.D.Devices.state c.begin_loaded.new.devices in
    of_opened c.in-Ok.loaded c.begin_loaded.result c.begin_loaded.ensures.layout c.begin_loaded.ensures.nodes c.begin_loaded.ensures.ragged (λ layout nodes ragged. is_layout_of new.sizes layout ≡ true)
    (subst (λ (sizes : List ℕ). is_layout_of sizes c.in-Ok.loaded.layout ≡ true) (sym c.begin_loaded.ensures.goes_on.sizes) c.in-Ok.ensures.fits)

pub returns-in-Ok-clause-ragged : goal.returns-in-Ok-clause-ragged
returns-in-Ok-clause-ragged g c tells none =
    let D = g.D.Devices in
    let old = D.state c.args.devices.now in
    let mid = D.state c.load.new.devices in
    let new = D.state c.begin_loaded.new.devices in
    of_opened c.in-Ok.loaded c.begin_loaded.result c.begin_loaded.ensures.layout c.begin_loaded.ensures.nodes c.begin_loaded.ensures.ragged (λ layout nodes ragged. AreRagged layout.id (as_read (now old)) (nodes_of nodes) ragged)
    (c.in-Ok.ensures.ragged tells (none_before old.faults mid.faults new.faults c.begin_loaded.ensures.goes_on.calls none))

pub returns-in-Ok-clause-cause : goal.returns-in-Ok-clause-cause
returns-in-Ok-clause-cause g c =
    let D = g.D.Devices in
    failed_since (failed_mount_device c.begin_loaded.result) (D.state c.args.devices.now).faults (D.state c.load.new.devices).faults (D.state c.begin_loaded.new.devices).faults c.load.ensures.read.calls c.begin_loaded.ensures.cause

pub returns-in-Ok-clause-alike : goal.returns-in-Ok-clause-alike
returns-in-Ok-clause-alike g c tells f on agree =
    let D = g.D.Devices in
    let old = D.state c.args.devices.now in
    let mid = D.state c.load.new.devices in
    let loaded = c.in-Ok.loaded in
    let now_same = sym (stay_now old mid (c.load.ensures.read.disks tells)) in
    let front = front_is (as_read (now old)) f on.finds loaded.layout loaded.session loaded.needed (c.in-Ok.ensures.front tells) in
    c.begin_loaded.ensures.alike tells f (subst (λ (ds : List Disk). IsFoundOn f ds) now_same on) (subst (λ (ds : List Disk). NodesAgree (as_read ds) f) now_same agree)
    front.layouts front.sessions front.needs (ap (λ (g : Found). g.trees.ends) (sym (c.in-Ok.ensures.made_up tells f on.finds agree)))

pub returns-in-Ok-clause-goes_on : goal.returns-in-Ok-clause-goes_on
returns-in-Ok-clause-goes_on g c =
    let D = g.D.Devices in
    let old = D.state c.args.devices.now in
    let mid = D.state c.load.new.devices in
    go_on_then old mid (D.state c.begin_loaded.new.devices) (go_on_reading D.tells old mid c.load.ensures.read) c.begin_loaded.ensures.goes_on

pub returns-in-Err-clause-found : goal.returns-in-Err-clause-found
returns-in-Err-clause-found g c tells none = next_failed (found (as_read (now (g.D.Devices.state c.args.devices.now)))) c.in-Err.fault (c.in-Err.ensures.found tells none)

pub returns-in-Err-clause-made_up : goal.returns-in-Err-clause-made_up
returns-in-Err-clause-made_up g c tells f is agree = next_unloaded f c.in-Err.fault (c.in-Err.ensures.made_up tells f is agree)

pub returns-in-Err-clause-crashes : goal.returns-in-Err-clause-crashes
returns-in-Err-clause-crashes g c tells f on =
    let D = g.D.Devices in
    stay_means f (D.state c.args.devices.now) (D.state c.load.new.devices) on (c.load.ensures.read.disks tells)

pub returns-in-Err-clause-early : goal.returns-in-Err-clause-early
returns-in-Err-clause-early g c tells fault is early = inl (c.in-Err.ensures.early tells fault is early)

pub returns-in-Err-clause-unfailed : goal.returns-in-Err-clause-unfailed
returns-in-Err-clause-unfailed g c fault is early other = c.in-Err.ensures.unfailed fault is early

pub returns-in-Err-clause-goes_on : goal.returns-in-Err-clause-goes_on
returns-in-Err-clause-goes_on g c =
    let D = g.D.Devices in
    go_on_reading D.tells (D.state c.args.devices.now) (D.state c.load.new.devices) c.load.ensures.read
