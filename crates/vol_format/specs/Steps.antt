-- What a step of formatting does to devices: where it writes what, what a crash during it leaves, and what is read and settled
-- after it.
use Rattle.std.specs.Prelude.{◌≡◌, ◌⊎◌, ◌<◌, ◌≤◌, ℕ, Bool, IsTrue, ◌&&◌, ◌||◌, ◌==◌, nat_lt, nat_le, if◌then◌else◌, List, All, length, slice_index, slice_index_or, Option, Some, None, Result, OnOk}
use Rattle.std.specs.Option.{IsSome}
use Rattle.vol_types.specs.declared.layout.Layout.{Layout}
use Rattle.dev_model.specs.Disk.{Disk, Image, IsCrashImage, IsDisk, NothingPending, as_read, block_at, blocks_of, zeros}
use Rattle.dev_model.specs.Devices.{DevicesState, now}
use Rattle.dev_model.specs.Crashes.{EachCrash, IsCrashImageBut}
use Rattle.dev_model.specs.HeldBlocks.{HasNoChanceMatch, HaveHeld, HoldOnly}
use Rattle.geometry.specs.Superblocks.{copy_in, super_block, super_copy}
use Rattle.image_view.specs.CrashEntries.{opens}
use Rattle.vol_format.specs.declared.fresh.FreshBlocks.{FreshBlocks}
use Rattle.vol_format.specs.Formatting.{IsOfStep, Step, held_before, if_so, or_held, other_block, spare_block, step_writes}

-- what is written on one device alone
abbrev pub on_device : ℕ → (ℕ → Option (List ℕ)) → ℕ → ℕ → Option (List ℕ)
on_device device writes dev block = if dev == device then writes block else None

-- what is written on the first so many devices
abbrev pub on_first : ℕ → (ℕ → ℕ → Option (List ℕ)) → ℕ → ℕ → Option (List ℕ)
on_first count writes dev block = if nat_lt dev count then writes dev block else None

-- what is written into the first so many blocks
abbrev pub in_first : ℕ → (ℕ → Option (List ℕ)) → ℕ → Option (List ℕ)
in_first count writes block = if nat_lt block count then writes block else None

-- what is written into one block alone
abbrev pub in_block : ℕ → Option (List ℕ) → ℕ → Option (List ℕ)
in_block place bytes block = if block == place then bytes else None

-- the bytes in one block, where a device of this size has it
abbrev pub if_there : ℕ → ℕ → List ℕ → ℕ → Option (List ℕ)
if_there size place bytes block = if_so (block == place && nat_lt block size) bytes

-- zeros from the size of a device up to its number of blocks
abbrev pub extension : ℕ → ℕ → ℕ → Option (List ℕ)
extension size blocks block = if_so (nat_le size block && nat_lt block blocks) zeros

-- both superblock copies of a device
abbrev pub super_copies : Layout → ℕ → ℕ → Option (List ℕ)
super_copies layout dev block = if_so (block == 0 || block == 8) (super_block layout dev block 1)

-- The bytes are those of a device's superblock copy.
pub record IsSuper (layout : Layout) (dev block : ℕ) (bytes : List ℕ) : Type 0 where
  pub encoded : bytes ≡ super_block layout dev block 1
  pub copy : copy_in block (super_block layout dev block 1) ≡ Some (super_copy layout dev block 1)
  pub size : length bytes ≡ 4096

-- They are those of every device.
pub record AreSupers (layout : Layout) (block : ℕ) (supers : List (List ℕ)) : Type 0 where
  pub count : length supers ≡ length layout.blocks
  pub each : (dev : ℕ) → dev < length supers → (other : List ℕ) → IsSuper layout dev block (slice_index_or supers dev other)

-- The image has as many devices, and holds what a crash might have left before, but where something is written.
pub record LeavesBut (writes : ℕ → ℕ → Option (List ℕ)) (first : List Disk) (image : Image) : Type 0 where
  pub count : length image ≡ length first
  pub but : IsCrashImageBut (λ dev block. IsSome (writes dev block)) first image

-- A crash leaves only such images of what was there before.
abbrev pub Touches : (ℕ → ℕ → Option (List ℕ)) → DevicesState → DevicesState → Type 0
Touches writes old new = EachCrash (λ _ _ image. LeavesBut writes (now old) image) old new

-- What was written is read, and elsewhere what was read before.
abbrev pub Reads : (ℕ → ℕ → Option (List ℕ)) → DevicesState → DevicesState → Type 0
Reads writes old new = (dev block : ℕ) → block_at (as_read (now new)) dev block ≡ or_held (writes dev block) (block_at (as_read (now old)) dev block)

-- Nothing else was asked of the devices.
abbrev pub AsksOnly : (ℕ → ℕ → Option (List ℕ)) → DevicesState → DevicesState → Type 0
AsksOnly writes old new = (opening : List ℕ → Bool) → HoldOnly opening (λ dev block bytes. writes dev block ≡ Some bytes) old new

-- All of it was written.
pub record Wrote (writes : ℕ → ℕ → Option (List ℕ)) (old new : DevicesState) : Type 0 where
  pub touches : Touches writes old new
  pub asks : AsksOnly writes old new
  pub reads : Reads writes old new

-- Nothing else was written, and where the call succeeds all of it.
pub record Writes {T E : Type 0} (result : Result T E) (writes : ℕ → ℕ → Option (List ℕ)) (old new : DevicesState) : Type 0 where
  pub touches : Touches writes old new
  pub asks : AsksOnly writes old new
  pub reads : OnOk result (Reads writes old new)

-- A crash leaves every place as it is read.
abbrev pub AllSettled : List Disk → Type 0
AllSettled disks = (image : Image) → IsCrashImage disks image → (dev block : ℕ) → block_at image dev block ≡ block_at (as_read disks) dev block

-- The step writes so, and where it succeeds all is settled.
pub record IsStep {T E : Type 0} (result : Result T E) (writes : ℕ → ℕ → Option (List ℕ)) (old new : DevicesState) : Type 0 where
  pub writes_so : Writes result writes old new
  pub settled : OnOk result (AllSettled (now new))
  pub rest : OnOk result (NothingPending (now new))

-- At a moment the devices are in a step: a crash leaves only images of it, and where nothing opened by chance up to then, a block that the disks have
-- held and that opens is what its place held when the step began, or what the step writes there.
pub record AreInStep (layout : Layout) (fresh : FreshBlocks) (old new : DevicesState) (moment : ℕ) : Type 0 where
  pub step : Step
  pub of_step : (image : Image) → IsCrashImage (new.disks moment) image → IsOfStep layout fresh (as_read (now old)) step image
  pub held : (dev block : ℕ) → HasNoChanceMatch opens dev block old.moment moment new → (bytes : List ℕ) → IsTrue (opens bytes) → HaveHeld (new.disks moment) dev block bytes
      → (held_before layout fresh (as_read (now old)) step dev block ≡ Some bytes) ⊎ (step_writes layout fresh (as_read (now old)) step dev block ≡ Some bytes)

-- If nothing was pending at first, the devices are in one of the steps at each moment.
pub record LeavesSteps (layout : Layout) (fresh : FreshBlocks) (old new : DevicesState) : Type 0 where
  pub later : old.moment ≤ new.moment
  pub past : (m : ℕ) → m ≤ old.moment → new.disks m ≡ old.disks m
  pub each : NothingPending (now old) → (m : ℕ) → old.moment ≤ m → m ≤ new.moment → AreInStep layout fresh old new m

-- The devices are formatted up to where this step begins.
pub record Reached (layout : Layout) (fresh : FreshBlocks) (step : Step) (old new : DevicesState) : Type 0 where
  pub leaves : LeavesSteps layout fresh old new
  pub held : (dev block : ℕ) → block_at (as_read (now new)) dev block ≡ held_before layout fresh (as_read (now old)) step dev block
  pub settled : NothingPending (now old) → AllSettled (now new)
  pub rest : NothingPending (now old) → NothingPending (now new)
  pub disks : All IsDisk (now new)
  pub count : length (now new) ≡ length (now old)

-- A part of formatting leaves only images of the steps, and where it succeeds, this step is reached, with all settled.
pub record Formats {T E : Type 0} (result : Result T E) (layout : Layout) (fresh : FreshBlocks) (step : Step) (old new : DevicesState) : Type 0 where
  pub leaves : LeavesSteps layout fresh old new
  pub reached : OnOk result (Reached layout fresh step old new × AllSettled (now new))

-- The places are those of the superblock copies that don't count on the devices of this image, and those of the others.
pub record ArePlaces (before : Image) (spares others : List ℕ) : Type 0 where
  pub spare : (dev : ℕ) → dev < length before → slice_index spares dev ≡ spare_block (blocks_of before dev)
  pub other : (dev : ℕ) → dev < length before → slice_index others dev ≡ other_block (blocks_of before dev)
