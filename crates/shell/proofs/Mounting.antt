-- What loading a volume and beginning its next session say together, and what holds of the acknowledgements from the run's beginning on.
use Rattle.std.proofs.Common.{◌≡◌, ◌≤◌, ◌+◌, ℕ, inl, refl, sym, ap, ◌∙◌, subst, None, Option, Some, Result, Ok, Err}
use Rattle.std.specs.Prelude.{IfSome, IsErr}
use Rattle.dev_model.specs.Devices.{DevicesState, FaultCounts, now}
use Rattle.dev_model.specs.Disk.{Image, as_read}
use Rattle.dev_model.specs.Frames.{AreNoFewer, AreOnlyRead}
use Rattle.geometry.specs.Faults.{DeviceFailed, SomeFailed}
use Rattle.image_view.specs.Found.{Found, NodesAgree, found, with_session}
use Rattle.image_view.specs.declared.fault.MountFault.{MountFault}
use Rattle.image_view.specs.declared.fault.MountFault.TheVariants as faults
use Rattle.image_reader.specs.Answers.{Finds, IsEarly}
use Rattle.image_reader.specs.Faults.{mount_fault_device}
use Rattle.node_store.specs.Mending.{AtMostOneWriteFailed}
use Rattle.replay.specs.Beginning.{IsFoundOn, begin_fault_device}
use Rattle.replay.specs.Mending.{IsInOrderOn, IsReady}
use Rattle.replay.specs.Opening.{in_next_session}
use Rattle.replay.specs.Roots.{AreRootsAlike}
use Rattle.replay.specs.Volumes.{found_in}
use Rattle.replay.specs.declared.beginning.BeginFault.{BeginFault}
use Rattle.replay.specs.declared.beginning.BeginFault.TheVariants as of_begin
use Rattle.replay.specs.declared.volume.Loaded.{Loaded}
use Rattle.replay.proofs.OpenedVolume.{begun_is, failed_since, none_before}
use Rattle.shell.specs.Causes.{SourceFailed}
use Rattle.shell.specs.EarlyEnds.{end_of_begin, end_of_mount}
use Rattle.shell.specs.Mounts.{HasRefused, IsOpenedFrom, MountCause}
use Rattle.shell.specs.declared.early_end.EarlyEnd.{EarlyEnd}
use Rattle.shell.specs.declared.early_end.EarlyEnd.TheVariants.{Usage, BadLine, TooLong, Source, Refused, Device, OutOfMemory}
use Rattle.shell.specs.declared.early_end.MountRefusal.TheVariants as refusals

-- an image in which something is found isn't one in which nothing is
pub found_not : (image : Image) (f : Found) → found image ≡ Ok f → IsErr (found image) → ⊥
found_not image f is error = is_not (found image) is error
  where
    is_not : (answer : Result Found MountFault) → answer ≡ Ok f → IsErr answer → ⊥
    is_not (Ok g) same error = absurd cc
    is_not (Err fault) same error = absurd cc

-- why loading failed
pub load_ended : (tells : Type 0) (old new : DevicesState) (fault : MountFault)
    → (tells → (SomeFailed old.faults new.faults → ⊥) → Finds found_in (found (as_read (now old))) (Err fault))
    → (tells → IsEarly fault → found (as_read (now old)) ≡ Err fault)
    → ((check : ℕ) → fault ≡ faults.Unsound check → ⊥)
    → IfSome (mount_fault_device fault) (λ dev. DeviceFailed dev old.faults new.faults) → AreOnlyRead tells old new → MountCause tells old new (end_of_mount fault)
load_ended tells old new faults.NoSuper found early untested cause read = record { reason = λ told shows. early told tt; read = read }
load_ended tells old new faults.Version found early untested cause read = record { reason = λ told shows. early told tt; read = read }
load_ended tells old new faults.Mixed found early untested cause read = record { reason = λ told shows. early told tt; read = read }
load_ended tells old new faults.BadLayout found early untested cause read = record { reason = λ told shows. early told tt; read = read }
load_ended tells old new faults.NoEntry found early untested cause read = record { reason = λ told shows. inl (early told tt); read = read }
load_ended tells old new (faults.MissingEntry sequence) found early untested cause read = record { reason = λ told shows. early told tt; read = read }
load_ended tells old new (faults.BadNode place) found early untested cause read = record { reason = λ told shows. found told shows; read = read }
load_ended tells old new (faults.Unsound check) found early untested cause read = absurd (untested check refl)
load_ended tells old new (faults.DeviceFault dev) found early untested cause read = cause
load_ended tells old new faults.NoMemory found early untested cause read = tt

-- The device that is named failed.
pub named_failed : (named : Option ℕ) (old new : FaultCounts) → AtMostOneWriteFailed named old new → IfSome named (λ dev. DeviceFailed dev old new)
named_failed None old new cause = tt
named_failed (Some dev) old new cause = cause.0

-- The ends of the nodes' sets are those that were loaded.
pub ends_are : (f : Found) (loaded : Loaded) → found_in loaded ≡ f → f.trees.ends ≡ loaded.ends
ends_are f loaded same = sym (ap (λ (g : Found). g.trees.ends) same)

-- why no session was begun
pub begin_ended : (tells : Type 0) (old mid new : DevicesState) (fault : BeginFault) → (fault ≡ of_begin.Spent → HasRefused tells old new refusals.NoEntry)
    → AreNoFewer old.faults.calls mid.faults.calls → IfSome (begin_fault_device fault) (λ dev. DeviceFailed dev mid.faults new.faults) → MountCause tells old new (end_of_begin fault)
begin_ended tells old mid new of_begin.Spent spent more failed = spent refl
begin_ended tells old mid new (of_begin.DeviceFault dev) spent more failed = failed_since (Some dev) old.faults mid.faults new.faults more failed
begin_ended tells old mid new of_begin.NoMemory spent more failed = tt

-- devices that weren't touched since they were read
pub read_only : {D : Type 0} (state : D → DevicesState) (tells : Type 0) (first mid last : D) → last ≡ mid → AreOnlyRead tells (state first) (state mid) → AreOnlyRead tells (state first) (state last)
read_only state tells first mid last same read = subst (λ d. AreOnlyRead tells (state first) (state d)) (sym same) read

-- a volume that was loaded, and whose next session was begun without a failed write, was opened
pub is_opened : (tells : Type 0) (old mid new : DevicesState) (loaded opened : Loaded) (session : ℕ) → AreOnlyRead tells old mid → new.faults.writes ≡ mid.faults.writes → AreNoFewer mid.faults.calls new.faults.calls
    → (tells → (SomeFailed old.faults mid.faults → ⊥) → found (as_read (now old)) ≡ Ok (found_in loaded))
    → (tells → (f : Found) → found (as_read (now old)) ≡ Ok f → NodesAgree (as_read (now old)) f → found_in loaded ≡ f)
    → (4294967295 ≤ loaded.session → ⊥) → session ≡ loaded.session + 1 → found_in opened ≡ with_session session (found_in loaded)
    → (tells → (f : Found) → IsInOrderOn f (now old) → IsReady (with_session (f.session + 1) f) (now new))
    → (tells → (f : Found) → IsFoundOn f (now old) → NodesAgree (as_read (now old)) f → AreRootsAlike f (as_read (now new)))
    → IsOpenedFrom tells (found_in opened) old new
is_opened tells old mid new loaded opened session read same more found made_up left next is ready alike = record {
  unfailed = same ∙ read.writes;
  means = λ told none. ap in_next_session (found told (none_before old.faults mid.faults new.faults more none)) ∙ begins;
  made_up = λ told f finds agree. ap (λ (g : Found). in_next_session (Ok g)) (sym (made_up told f finds agree)) ∙ begins;
  ready = ready;
  alike = alike;
}
  where
    begins : in_next_session (Ok (found_in loaded)) ≡ Ok (found_in opened)
    begins = begun_is (found_in loaded) session opened left next is

-- opening a volume leaves the source
pub mount_source : (tells : Type 0) (old new : DevicesState) (count count_after : ℕ) (end : EarlyEnd) → MountCause tells old new end → count_after ≡ count → SourceFailed end count count_after
mount_source tells old new count count_after Usage cause same = absurd cause
mount_source tells old new count count_after Source cause same = absurd cause
mount_source tells old new count count_after TooLong cause same = absurd cause
mount_source tells old new count count_after (BadLine line fault) cause same = absurd cause
mount_source tells old new count count_after (Refused refusal) cause same = same
mount_source tells old new count count_after (Device dev) cause same = same
mount_source tells old new count count_after OutOfMemory cause same = same
