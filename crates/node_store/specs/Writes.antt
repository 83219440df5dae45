-- A block that is written on each place of a node.
use Rattle.std.specs.Prelude.{◌≡◌, ℕ, ◌+◌, ◌≤◌, List, Contains, Some, Result, IfErr, length, map}
use Rattle.dev_model.specs.Devices.{DevicesState, IsPlace, now}
use Rattle.dev_model.specs.Disk.{Disk, Image, IsCrashImage, block_at}
use Rattle.vol_types.specs.declared.pointers.Place.{Place}
use Rattle.node_store.specs.declared.fault.NodeFault.{NodeFault}
use Rattle.node_store.specs.declared.fault.NodeFault.TheVariants.{DeviceFault}

-- It is block n of the bucket at one of the places.
abbrev pub IsCopyOf : List Place → ℕ → ℕ → ℕ → Type 0
IsCopyOf places n dev block = (place : Place) × Contains places place × (dev ≡ place.dev) × (block ≡ place.block + n)

-- These bytes at one of these.
abbrev pub IsCopyBlock : List Place → ℕ → List ℕ → ℕ → ℕ → List ℕ → Type 0
IsCopyBlock places n bytes dev block asked = IsCopyOf places n dev block × (asked ≡ bytes)

-- The devices have block n of the bucket at each place.
abbrev pub HaveCopies : List ℕ → List Place → ℕ → Type 0
HaveCopies sizes places n = (place : Place) → Contains places place → IsPlace sizes place.dev (place.block + n)

-- Block n of the bucket at each place has these bytes.
abbrev pub HoldCopies : List Place → ℕ → List ℕ → Image → Type 0
HoldCopies places n bytes image = (place : Place) → Contains places place → block_at image place.dev (place.block + n) ≡ Some bytes

-- Where it fails, it names the device of one of the places.
abbrev pub NamesDeviceOf : {T : Type 0} → List Place → Result T NodeFault → Type 0
NamesDeviceOf places result = IfErr result (λ fault. (place : Place) × Contains places place × (fault ≡ DeviceFault place.dev))

-- The image is as long as one that a crash may leave of these disks.
abbrev pub HasLengthsOf : List Disk → Image → Type 0
HasLengthsOf disks image = (before : Image) × IsCrashImage disks before × (map (λ blocks. length blocks) before ≡ map (λ blocks. length blocks) image)

-- Whatever a crash leaves meanwhile has the lengths of something that it might leave before.
abbrev pub KeepsLengths : DevicesState → DevicesState → Type 0
KeepsLengths old new = (m : ℕ) → old.moment ≤ m → m ≤ new.moment → (image : Image) → IsCrashImage (new.disks m) image → HasLengthsOf (now old) image
