use Rattle.std.proofs.Common.{◌≡◌, ◌<◌, ◌≤◌, ◌∙◌, ℕ, All, List, None, Option, Result, Ok, Err, ap, length, arith, refl, sym, subst}
use Rattle.std.specs.Prelude.{IfErr, IfOk, IfSome}
use Rattle.dev_model.specs.Frames.{after_reads}
use Rattle.geometry.specs.Faults.{fault_device}
use Rattle.geometry.specs.LayoutFacts.{has_places}
use Rattle.geometry.specs.declared.fault.DiskFault.{DiskFault}
use Rattle.geometry.specs.declared.fault.DiskFault.TheVariants as disks
use Rattle.image_view.specs.declared.fault.MountFault.{MountFault}
use Rattle.image_view.specs.declared.fault.MountFault.TheVariants.{NoEntry}
use Rattle.journal_ring.specs.Counting.{IsJournalOf}
use Rattle.journal_ring.specs.declared.found.FoundEntry.{FoundEntry}
use Rattle.image_reader.specs.Answers.{IsNotLate, WasWhole}
use Rattle.image_reader.specs.Faults.{disk_fault, failed_mount_device, mount_fault_device}
use Rattle.image_reader.proofs.WholeTold.{needed_were_whole}
use Rattle.image_reader.proofs.reading.needed_of.Goals as goal

-- A metadata device is one of all devices.
one_of_all : (fault : DiskFault) (mirrors count : ℕ) → mirrors ≤ count → IfSome (fault_device fault) (λ dev. dev < mirrors) → IfSome (mount_fault_device (disk_fault fault)) (λ dev. dev < count)
one_of_all (disks.DeviceFault dev) mirrors count few is = omega (arith, few, is)
one_of_all disks.NoMemory mirrors count few is = tt

pub returns-in-Err-clause-device : goal.returns-in-Err-clause-device
returns-in-Err-clause-device g c =
    let sizes = (g.D.Devices.state c.args.devices.now).sizes in
    subst (λ (fault : MountFault). IfSome (mount_fault_device fault) (λ dev. dev < length sizes)) (sym c.disk_fault.ensures)
    (one_of_all c.in-Err.fault c.args.layout.now.metadata_replicas (length sizes) (has_places sizes c.args.layout.now c.requires.layout).mirrors c.in-Err.ensures.device)

-- What is said of each element of the entries is said of some that are the same.
of_same : (P : FoundEntry → Type 0) (entries : List FoundEntry) (result : Result (List FoundEntry) MountFault) → IfOk result (λ some. some ≡ entries) → All P entries → IfOk result (All P)
of_same P entries (Ok some) same all = subst (All P) (sym same) all
of_same P entries (Err fault) same all = tt

pub returns-in-Ok-Needed-clause-whole : goal.returns-in-Ok-Needed-clause-whole
returns-in-Ok-Needed-clause-whole g c =
    let layout = c.args.layout.now in
    let places = has_places (g.D.Devices.state c.args.devices.now).sizes layout c.requires.layout in
    let least = places.least in
    let some : 0 < layout.journal = omega (arith, least) in
    let whole = needed_were_whole c.leading_entries_are_needed.ensures.whole layout some c.in-Ok-Needed.entries (subst (IsJournalOf layout) c.in-Ok-Needed.field-0-is c.in-Ok-Needed.ensures.seen) in
    of_same (WasWhole layout) c.in-Ok-Needed.entries c.some_entry.result c.some_entry.ensures.same whole

-- Where there is no entry, no device is named,
unnamed : (entries : List FoundEntry) (result : Result (List FoundEntry) MountFault) → IfErr result (λ fault. (fault ≡ NoEntry) × (length entries ≡ 0)) → failed_mount_device result ≡ None
unnamed entries (Ok some) none = refl
unnamed entries (Err fault) none = ap mount_fault_device none.0

-- and it shows before any node.
not_late : (entries : List FoundEntry) (result : Result (List FoundEntry) MountFault) → IfErr result (λ fault. (fault ≡ NoEntry) × (length entries ≡ 0)) → IfErr result IsNotLate
not_late entries (Ok some) none = tt
not_late entries (Err fault) none = subst IsNotLate (sym none.0) tt

pub returns-in-Ok-Needed-clause-early : goal.returns-in-Ok-Needed-clause-early
returns-in-Ok-Needed-clause-early g c = not_late c.in-Ok-Needed.entries c.some_entry.result c.some_entry.ensures.none

pub returns-in-Ok-Needed-clause-cause : goal.returns-in-Ok-Needed-clause-cause
returns-in-Ok-Needed-clause-cause g c =
    c.in-Ok-Needed.ensures.cause ∙ ap (λ (device : Option ℕ). after_reads device (g.D.Devices.state c.args.devices.now).faults) (sym (unnamed c.in-Ok-Needed.entries c.some_entry.result c.some_entry.ensures.none))

pub returns-in-Ok-Needed-clause-device : goal.returns-in-Ok-Needed-clause-device
returns-in-Ok-Needed-clause-device g c =
    subst (λ (device : Option ℕ). IfSome device (λ dev. dev < length (g.D.Devices.state c.args.devices.now).sizes)) (sym (unnamed c.in-Ok-Needed.entries c.some_entry.result c.some_entry.ensures.none)) tt
