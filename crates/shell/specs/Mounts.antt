-- Which images are opened for a session, and why one is refused.
use Rattle.std.specs.Prelude.{◌≡◌, ◌⊎◌, ⊤, ◌+◌, Ok, Err, IsErr}
use Rattle.dev_model.specs.Disk.{Image, as_read}
use Rattle.dev_model.specs.Devices.{DevicesState, now}
use Rattle.dev_model.specs.Frames.{AreOnlyRead, GoOn}
use Rattle.geometry.specs.Faults.{DeviceFailed, SomeFailed}
use Rattle.image_view.specs.Found.{Found, NodesAgree, found, with_session}
use Rattle.image_view.specs.declared.fault.MountFault.{MountFault}
use Rattle.image_view.specs.declared.fault.MountFault.TheVariants as faults
use Rattle.replay.specs.Beginning.{IsFoundOn}
use Rattle.replay.specs.Mending.{IsInOrderOn, IsReady, KeepsMeaning, KeepsPast}
use Rattle.replay.specs.Opening.{IsSpent, in_next_session}
use Rattle.replay.specs.Roots.{AreRootsAlike}
use Rattle.shell.specs.EarlyEnds.{end_of_mount}
use Rattle.shell.specs.declared.early_end.MountRefusal.{MountRefusal}
use Rattle.shell.specs.declared.early_end.MountRefusal.TheVariants.{NoSuper, Version, Mixed, BadLayout, NoEntry, MissingEntry, BadNode, Unsound}
use Rattle.shell.specs.declared.early_end.EarlyEnd.{EarlyEnd}
use Rattle.shell.specs.declared.early_end.EarlyEnd.TheVariants.{Refused, Device, OutOfMemory}

-- The image isn't opened, for this reason: nothing is found in it but this fault, or no number is left for a session. Whether keys are sound isn't tested.
abbrev pub IsRefused : Image → MountRefusal → Type 0
IsRefused image NoSuper = found image ≡ Err faults.NoSuper
IsRefused image Version = found image ≡ Err faults.Version
IsRefused image Mixed = found image ≡ Err faults.Mixed
IsRefused image BadLayout = found image ≡ Err faults.BadLayout
IsRefused image NoEntry = (found image ≡ Err faults.NoEntry) ⊎ IsSpent image
IsRefused image (MissingEntry sequence) = found image ≡ Err (faults.MissingEntry sequence)
IsRefused image (BadNode place) = found image ≡ Err (faults.BadNode place)
IsRefused image (Unsound check) = ⊥

-- The reason shows before any node is read.
abbrev pub ShowsEarly : MountRefusal → Type 0
ShowsEarly (BadNode place) = ⊥
ShowsEarly refusal = ⊤

-- Opening was refused for this reason, which is the image's, unless a call failed and it is a bad node; and the devices were only read.
pub record HasRefused (devices_tell : Type 0) (old new : DevicesState) (refusal : MountRefusal) : Type 0 where
  pub reason : devices_tell → (SomeFailed old.faults new.faults → ShowsEarly refusal) → IsRefused (as_read (now old)) refusal
  pub read : AreOnlyRead devices_tell old new

-- Why the volume wasn't opened: it was refused, or a call of this device failed. Out of memory may come at any time.
abbrev pub MountCause : Type 0 → DevicesState → DevicesState → EarlyEnd → Type 0
MountCause devices_tell old new (Refused refusal) = HasRefused devices_tell old new refusal
MountCause devices_tell old new (Device dev) = DeviceFailed dev old.faults new.faults
MountCause devices_tell old new OutOfMemory = Unit {0}
MountCause devices_tell old new end = ⊥

-- Nothing is found in the image, for this reason.
pub record IsNotFound (image : Image) (refusal : MountRefusal) : Type 0 where
  pub fault : MountFault
  pub finds : found image ≡ Err fault
  pub reason : end_of_mount fault ≡ Refused refusal

-- Why there is nothing to tell of the devices: nothing is found in the image, for this reason, which is the image's, unless a call failed and it is a bad node; or a
-- call of this device failed. Out of memory may come at any time.
abbrev pub InfoCause : Type 0 → DevicesState → DevicesState → EarlyEnd → Type 0
InfoCause devices_tell old new (Refused refusal) = devices_tell → (SomeFailed old.faults new.faults → ShowsEarly refusal) → IsNotFound (as_read (now old)) refusal
InfoCause devices_tell old new (Device dev) = DeviceFailed dev old.faults new.faults
InfoCause devices_tell old new OutOfMemory = Unit {0}
InfoCause devices_tell old new end = ⊥

-- Where nothing is found in the image, the devices were only read, unless a call failed.
abbrev pub OnlyReadUnmounted : Type 0 → DevicesState → DevicesState → Type 0
OnlyReadUnmounted devices_tell old new = devices_tell → ¬ SomeFailed old.faults new.faults → IsErr (found (as_read (now old))) → AreOnlyRead devices_tell old new

-- The volume was opened, in its next session, without a fault at a write or a flush. It is the one that is found in the image where no call failed (`means`), and also where a node
-- couldn't be read on some place, of an image on whose nodes their places agree (`made_up`), as they do in one that is in order. Where the image was in order it is ready for a session
-- that writes. Each root has the same sets on every metadata device then, if its places agreed on it, also where some lacked a part of them or couldn't be read (`alike`).
pub record IsOpenedFrom (devices_tell : Type 0) (opening : Found) (old mounted : DevicesState) : Type 0 where
  pub unfailed : mounted.faults.writes ≡ old.faults.writes
  pub means : devices_tell → ¬ SomeFailed old.faults mounted.faults → in_next_session (found (as_read (now old))) ≡ Ok opening
  pub made_up : devices_tell → (f : Found) → found (as_read (now old)) ≡ Ok f → NodesAgree (as_read (now old)) f → in_next_session (Ok f) ≡ Ok opening
  pub ready : devices_tell → (f : Found) → IsInOrderOn f (now old) → IsReady (with_session (f.session + 1) f) (now mounted)
  pub alike : devices_tell → (f : Found) → IsFoundOn f (now old) → NodesAgree (as_read (now old)) f → AreRootsAlike f (as_read (now mounted))

-- While a volume was opened, whatever a crash left means what the image did, where that is in order.
abbrev pub OpeningKeeps : Type 0 → DevicesState → DevicesState → Type 0
OpeningKeeps devices_tell old new = devices_tell → (f : Found) → IsInOrderOn f (now old) → KeepsMeaning f old new

-- From one state to a later one devices were read, written and flushed, and, where they tell it, what their disks were they still are at that moment.
pub record ComesAfter (devices_tell : Type 0) (old new : DevicesState) : Type 0 where
  pub goes_on : GoOn old new
  pub past : devices_tell → KeepsPast old new
