-- Mending a node: what some place of it shows of a block is written on each place that lacks it.
use Rattle.std.specs.Prelude.{◌≡◌, ◌⊎◌, ℕ, ◌+◌, ◌<◌, ◌≤◌, Bool, true, false, ◌&&◌, ◌==◌, List, Contains, length, Option, Some, None, option_and_then, slice_index_or}
use Rattle.std.specs.Option.{option_map_or}
use Rattle.std.specs.Str.{bytes_eq}
use Rattle.dev_model.specs.Crashes.{EachCrash, IsCrashImageBut, IsQuiet, SameBut}
use Rattle.dev_model.specs.Devices.{DevicesState, FaultCounts, now, risen}
use Rattle.dev_model.specs.Disk.{Image, as_read, block_at, changed}
use Rattle.dev_model.specs.HeldBlocks.{HoldOnly}
use Rattle.geometry.specs.Faults.{DeviceFailed}
use Rattle.geometry.specs.Mirrors.{AreAtRest}
use Rattle.sealed_block.specs.Opening.{opened}
use Rattle.sealed_block.specs.declared.heads.Head.{Head}
use Rattle.vol_types.specs.Limits.{bucket_blocks}
use Rattle.vol_types.specs.declared.layout.Layout.{Layout}
use Rattle.vol_types.specs.declared.pointers.Place.{Place}
use Rattle.node_store.specs.Answers.{AgreeOn}
use Rattle.node_store.specs.Copies.{copies_at}
use Rattle.node_store.specs.Writes.{HaveCopies, IsCopyOf, KeepsLengths}

-- ---- what is mended

-- whether a head is that of a block of a node
abbrev pub is_node_head : List ℕ → ℕ → Head → Bool
is_node_head id birth head = head.kind == 3 && bytes_eq head.id id && head.owner == birth

-- whether what is held somewhere opens as a block of a node
abbrev pub is_of_node : List ℕ → ℕ → Option (List ℕ) → Bool
is_of_node id birth held = option_map_or (is_node_head id birth) (option_and_then opened held) false

-- Some place of a node shows these bytes as block n of it.
pub record IsShown (id : List ℕ) (birth : ℕ) (places : List Place) (image : Image) (n : ℕ) (bytes : List ℕ) : Type 0 where
  pub place : Place
  pub one : Contains places place
  pub stands : block_at image place.dev (place.block + n) ≡ Some bytes
  pub opens : is_of_node id birth (Some bytes) ≡ true

-- These bytes, which some place shows as block n of a node, at one of its places.
abbrev pub IsCopyShown : List ℕ → ℕ → List Place → ℕ → Image → ℕ → ℕ → List ℕ → Type 0
IsCopyShown id birth places n image dev block bytes = IsCopyOf places n dev block × IsShown id birth places image n bytes

-- Where some place shows block n of a node, each place shows a block of it there.
abbrev pub IsWholeOrNone : List ℕ → ℕ → List Place → ℕ → Image → Type 0
IsWholeOrNone id birth places n image =
    (bytes : List ℕ) → IsShown id birth places image n bytes → (place : Place) → Contains places place → is_of_node id birth (block_at image place.dev (place.block + n)) ≡ true

-- It is one of the first so many blocks of a node's bucket, on one of its places; and it shows no block of the node, or a call of its
-- device failed.
pub record IsToMend (id : List ℕ) (birth : ℕ) (places : List Place) (end : ℕ) (image : Image) (failed : ℕ → Type 0) (dev block : ℕ) : Type 0 where
  pub number : ℕ
  pub below : number < end
  pub copy : IsCopyOf places number dev block
  pub lacks : (is_of_node id birth (block_at image dev block) ≡ false) ⊎ failed dev

-- It is one of these places, and these bytes are what some place shows of that block.
pub record IsWanted (id : List ℕ) (birth : ℕ) (places : List Place) (end : ℕ) (image : Image) (dev block : ℕ) (bytes : List ℕ) : Type 0 where
  pub number : ℕ
  pub below : number < end
  pub copy : IsCopyOf places number dev block
  pub shown : IsShown id birth places image number bytes

-- The place is on this metadata device, behind its superblocks and its journal.
pub record IsPlaced (layout : Layout) (dev : ℕ) (place : Place) : Type 0 where
  pub device : place.dev ≡ dev
  pub behind : 16 + layout.journal ≤ place.block

-- The places of a node are one on each device, in their order, and none is among the superblocks or in the journal.
abbrev pub ArePlaced : Layout → List Place → Type 0
ArePlaced layout places = (k : ℕ) (none : Place) → k < length places → IsPlaced layout k (slice_index_or places k none)

-- A node may be mended up to this block of its bucket: its places are such.
pub record MayBeMended (layout : Layout) (places : List Place) (end : ℕ) : Type 0 where
  pub placed : ArePlaced layout places
  pub within : end ≤ bucket_blocks

-- It can be: its places lie inside the devices, and agree on it; and each of the first so many blocks of its bucket is shown by one
-- of them.
pub record CanBeMended (layout : Layout) (birth : ℕ) (places : List Place) (end : ℕ) (sizes : List ℕ) (image : Image) : Type 0 where
  pub may : MayBeMended layout places end
  pub inside : (n : ℕ) → n < end → HaveCopies sizes places n
  pub shown : (n : ℕ) → n < end → (bytes : List ℕ) × IsShown layout.id birth places image n bytes
  pub agree : AgreeOn layout.id birth (copies_at (block_at image) places)

-- ---- what mending does

-- From one state of devices to a later one, only these blocks were written, with what was wanted there.
pub record WritesOnly (written : ℕ → ℕ → Type 0) (wanted : ℕ → ℕ → List ℕ → Type 0) (old new : DevicesState) : Type 0 where
  pub crashes : EachCrash (λ _ _ image. IsCrashImageBut written (now old) image) old new
  pub lengths : KeepsLengths old new
  pub elsewhere : SameBut written (as_read (now old)) (as_read (now new))
  pub asks : (opens : List ℕ → Bool) → HoldOnly opens wanted old new

-- A place that showed block n of a node in the first image holds in the second one what it held.
pub record IsStillShown (id : List ℕ) (birth : ℕ) (places : List Place) (n : ℕ) (one other : Image) : Type 0 where
  pub place : Place
  pub of_node : Contains places place
  pub opens : is_of_node id birth (block_at one place.dev (place.block + n)) ≡ true
  pub stays : block_at other place.dev (place.block + n) ≡ block_at one place.dev (place.block + n)

-- Each of the first so many blocks of a node's bucket that some place shows is still shown: it isn't overwritten everywhere at once.
abbrev pub StayShown : List ℕ → ℕ → List Place → ℕ → Image → Image → Type 0
StayShown id birth places end one other = (n : ℕ) (bytes : List ℕ) → n < end → IsShown id birth places one n bytes → IsStillShown id birth places n one other

-- Each block is as it was, or what was wanted there.
abbrev pub AreWritten : (ℕ → ℕ → List ℕ → Type 0) → Image → Image → Type 0
AreWritten wanted one other =
    (dev block : ℕ) → (block_at other dev block ≡ block_at one dev block) ⊎ ((bytes : List ℕ) × wanted dev block bytes × (block_at other dev block ≡ Some bytes))

-- Disks that were quiet are so again, and nothing is pending where nothing was.
pub record KeepsRest (old new : DevicesState) : Type 0 where
  pub quiet : IsQuiet (now old) → IsQuiet (now new)
  pub rest : (count : ℕ) → AreAtRest count (now old) → AreAtRest count (now new)

-- Where a device is named, a call of it failed, and of all writes and flushes none did, or the last one, which was of this device. Where none
-- is named no write and no flush failed. Reads may have failed in both cases.
abbrev pub AtMostOneWriteFailed : Option ℕ → FaultCounts → FaultCounts → Type 0
AtMostOneWriteFailed None old new = new.writes ≡ old.writes
AtMostOneWriteFailed (Some dev) old new = DeviceFailed dev old new × ((new.writes ≡ old.writes) ⊎ (new.writes ≡ changed dev risen old.writes))

-- One of these places is on the device.
abbrev pub IsDeviceOf : List Place → ℕ → Type 0
IsDeviceOf places dev = (place : Place) × Contains places place × (dev ≡ place.dev)
