-- Which blocks disks have held, and what is believed of digests: no torn block opens by chance, and no two records have one
-- digest.
use Rattle.std.specs.Prelude.{◌≡◌, ◌⊎◌, ℕ, ◌≤◌, Bool, IsTrue, List, All, Contains, Some, slice_get}
use Rattle.dev_model.specs.Disk.{Disk, Image, as_read, block_at}
use Rattle.dev_model.specs.Devices.{DevicesState, now}

-- The disk has held these bytes in this block: they were last settled there, or it was asked to write them there since.
abbrev pub HasHeld : Disk → ℕ → List ℕ → Type 0
HasHeld disk block bytes = (slice_get disk.settled block ≡ Some bytes) ⊎ Contains disk.asked (record { block = block; bytes = bytes })

-- The disk of this device has held these bytes in this block.
abbrev pub HaveHeld : List Disk → ℕ → ℕ → List ℕ → Type 0
HaveHeld disks dev block bytes = (disk : Disk) × (slice_get disks dev ≡ Some disk) × HasHeld disk block bytes

-- What the image holds at a place is, if it opens, as `opens` tells, what the disks have held there.
abbrev pub OnlyHeldOpensAt : (List ℕ → Bool) → List Disk → Image → ℕ → ℕ → Type 0
OnlyHeldOpensAt opens disks image dev block = (bytes : List ℕ) → block_at image dev block ≡ Some bytes → IsTrue (opens bytes) → HaveHeld disks dev block bytes

-- No chance match at a place, from one moment to another: what was read there at a moment between them is, if it opens, what the
-- disks had held there by then. So where a write failed and left other bytes, these don't open by chance. Of an image that a
-- crash leaves it is said apart: of all that a crash might leave it can't be said, since that may be any bytes in a pending
-- block. And it is said place by place, since what clients write into files may be made so that a torn block of it opens.
abbrev pub HasNoChanceMatch : (List ℕ → Bool) → ℕ → ℕ → ℕ → ℕ → DevicesState → Type 0
HasNoChanceMatch opens dev block first last state =
    (m : ℕ) → first ≤ m → m ≤ last → OnlyHeldOpensAt opens (state.disks m) (as_read (state.disks m)) dev block

-- At a moment from the first to the last these bytes were held in some block.
abbrev pub WasHeld : ℕ → ℕ → DevicesState → List ℕ → Type 0
WasHeld first last state bytes = (m : ℕ) × (first ≤ m) × (m ≤ last) × (dev : ℕ) × (block : ℕ) × HaveHeld (state.disks m) dev block bytes

-- No collision, from one moment to another: of the blocks that were held meanwhile, no two lists are records of one digest
-- with different payloads. `IsRecord blocks payload digest` says what a record is.
abbrev pub HasNoCollision : (List (List ℕ) → List ℕ → List ℕ → Type 0) → ℕ → ℕ → DevicesState → Type 0
HasNoCollision IsRecord first last state =
    (one other : List (List ℕ)) (payload second digest : List ℕ)
    → All (WasHeld first last state) one → All (WasHeld first last state) other → IsRecord one payload digest → IsRecord other second digest → payload ≡ second

-- From one state of devices to a later one nothing that opens came to be held at a place but what was asked for, where no chance
-- match is there up to then.
abbrev pub HoldOnly : (List ℕ → Bool) → (ℕ → ℕ → List ℕ → Type 0) → DevicesState → DevicesState → Type 0
HoldOnly opens asked old new =
    (m : ℕ) → old.moment ≤ m → m ≤ new.moment → (dev block : ℕ) → HasNoChanceMatch opens dev block old.moment m new
    → (bytes : List ℕ) → IsTrue (opens bytes) → HaveHeld (new.disks m) dev block bytes → HaveHeld (now old) dev block bytes ⊎ asked dev block bytes
