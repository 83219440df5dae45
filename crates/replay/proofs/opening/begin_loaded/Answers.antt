use Rattle.std.proofs.Common.{◌∙◌, ℕ, Option, Ok, Err, ap, sym, subst}
use Rattle.std.specs.Prelude.{IfSome}
use Rattle.geometry.specs.Faults.{DeviceFailed}
use Rattle.image_view.specs.declared.fault.MountFault.{MountFault}
use Rattle.image_reader.specs.Answers.{Finds}
use Rattle.image_reader.specs.Faults.{mount_fault_device}
use Rattle.replay.specs.Beginning.{begin_fault_device}
use Rattle.replay.specs.Opening.{in_next_session}
use Rattle.replay.specs.Volumes.{found_in}
use Rattle.replay.specs.declared.beginning.BeginFault.TheVariants.{Spent}
use Rattle.replay.specs.declared.volume.Loaded.{Loaded}
use Rattle.replay.proofs.OpenedVolume.{begun_is, device_failed, is_begun, same_device, spent_refused, told_no_entry, unbegun_is, untested}
use Rattle.replay.proofs.opening.begin_loaded.Goals as goal

pub returns-in-Ok-clause-found : goal.returns-in-Ok-clause-found
returns-in-Ok-clause-found g c =
    begun_is (found_in c.args.loaded) c.in-Ok.session c.in_session.result (λ past. is_begun c.in-Ok.session Spent (c.in-Ok.ensures.spent.1 past)) c.in-Ok.ensures.next c.in_session.ensures.found

pub returns-in-Ok-clause-past : goal.returns-in-Ok-clause-past
returns-in-Ok-clause-past g c tells f on layouts sessions needs = c.in-Ok.ensures.past tells f on layouts sessions (needs ∙ sym c.as_slice.ensures)

pub returns-in-Ok-clause-crashes : goal.returns-in-Ok-clause-crashes
returns-in-Ok-clause-crashes g c tells f on layouts sessions needs ends = c.in-Ok.ensures.crashes tells f on layouts sessions (needs ∙ sym c.as_slice.ensures) (ends ∙ sym c.as_slice-2.ensures)

pub returns-in-Ok-clause-ready : goal.returns-in-Ok-clause-ready
returns-in-Ok-clause-ready g c tells f on layouts sessions needs ends = c.in-Ok.ensures.ready tells f on layouts sessions (needs ∙ sym c.as_slice.ensures) (ends ∙ sym c.as_slice-2.ensures)

pub returns-in-Err-clause-found : goal.returns-in-Err-clause-found
returns-in-Err-clause-found g c =
    subst (λ (e : MountFault). Finds {X = Loaded} found_in (in_next_session (Ok (found_in c.args.loaded))) (Err e)) (sym c.opening_fault.ensures)
    (unbegun_is (found_in c.args.loaded) c.in-Err.fault (λ spent. c.in-Err.ensures.spent.0 (ap (λ e. Err e) spent)))

pub returns-in-Err-clause-past : goal.returns-in-Err-clause-past
returns-in-Err-clause-past g c tells f on layouts sessions needs = c.in-Err.ensures.past tells f on layouts sessions (needs ∙ sym c.as_slice.ensures)

pub returns-in-Err-clause-crashes : goal.returns-in-Err-clause-crashes
returns-in-Err-clause-crashes g c tells f on layouts sessions needs ends = c.in-Err.ensures.crashes tells f on layouts sessions (needs ∙ sym c.as_slice.ensures) (ends ∙ sym c.as_slice-2.ensures)

pub returns-in-Err-clause-refused : goal.returns-in-Err-clause-refused
returns-in-Err-clause-refused g c other same refusal =
    c.in-Err.ensures.nothing (ap (λ e. Err e) (spent_refused c.in-Err.fault c.opening_fault.result other c.opening_fault.ensures same refusal))

pub returns-in-Err-clause-spent : goal.returns-in-Err-clause-spent
returns-in-Err-clause-spent g c other same refusal = (
  told_no_entry c.in-Err.fault c.opening_fault.result other c.opening_fault.ensures same refusal,
  c.in-Err.ensures.spent.0 (ap (λ e. Err e) (spent_refused c.in-Err.fault c.opening_fault.result other c.opening_fault.ensures same refusal)),
)

pub returns-in-Err-clause-untested : goal.returns-in-Err-clause-untested
returns-in-Err-clause-untested g c check same = untested c.in-Err.fault c.opening_fault.result c.opening_fault.ensures check same

pub returns-in-Err-clause-cause : goal.returns-in-Err-clause-cause
returns-in-Err-clause-cause g c =
    let old = g.D.Devices.state c.args.devices.now in
    let new = g.D.Devices.state c.begin_and_mend.new.devices in
    subst (λ (device : Option ℕ). IfSome device (λ dev. DeviceFailed dev old.faults new.faults)) (sym (ap mount_fault_device c.opening_fault.ensures ∙ same_device c.in-Err.fault))
    (device_failed (begin_fault_device c.in-Err.fault) old.faults new.faults c.in-Err.ensures.cause)

pub returns-in-Ok-clause-alike : goal.returns-in-Ok-clause-alike
returns-in-Ok-clause-alike g c tells f on agree layouts sessions needs ends = c.in-Ok.ensures.alike tells f on agree layouts sessions (needs ∙ sym c.as_slice.ensures) (ends ∙ sym c.as_slice-2.ensures)
