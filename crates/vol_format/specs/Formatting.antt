-- How devices are formatted: in five steps, each settled before the next begins, and what a crash in one of them leaves.
use Rattle.std.specs.Prelude.{◌≡◌, ◌≢◌, ◌⊎◌, ℕ, ◌<◌, ◌+◌, ◌-◌, ◌/◌, ◌%◌, ◌≤◌, Bool, true, false, ◌&&◌, ◌||◌, ◌==◌, not, nat_lt, nat_le, if◌then◌else◌, List, [], ◌∷◌, length, slice_index, slice_index_or, Option, Some, None, Ok, IsErr}
use Rattle.dev_model.specs.Disk.{Disk, Image, NothingPending, IsCrashImage, as_read, block_at, blocks_of, zeros}
use Rattle.dev_model.specs.Devices.{DevicesState, now}
use Rattle.dev_model.specs.HeldBlocks.{HasNoChanceMatch, OnlyHeldOpensAt}
use Rattle.vol_types.specs.declared.layout.Layout.{Layout}
use Rattle.geometry.specs.declared.copies.SuperCopy.{SuperCopy}
use Rattle.geometry.specs.Superblocks.{counting, super_block}
use Rattle.geometry.specs.Sessions.{session_block}
use Rattle.key_meaning.specs.Checks.{AreNodesPlaced}
use Rattle.node_store.specs.Plans.{part_bytes}
use Rattle.image_view.specs.CrashEntries.{opens}
use Rattle.image_view.specs.Found.{Found, IsInOrder, MountsAs, Volume, found, node_places}
use Rattle.replay.specs.Mending.{HasMended}
use Rattle.vol_format.specs.declared.fresh.FreshBlocks.{FreshBlocks}
use Rattle.vol_format.specs.Fresh.{AreFreshBlocks, fresh_found, fresh_volume, no_bucket}

-- the block of a device's superblock copy that doesn't count; block 8 where neither opens
abbrev pub spare_beside : Option SuperCopy → ℕ
spare_beside None = 8
spare_beside (Some copy) = if copy.head.number == 0 then 8 else 0

-- that block of a device with these blocks
abbrev pub spare_block : List (List ℕ) → ℕ
spare_block blocks = spare_beside (counting blocks)

-- and the block of its other copy
abbrev pub other_block : List (List ℕ) → ℕ
other_block blocks = 8 - spare_block blocks

-- the bytes, where the test holds
abbrev pub if_so : Bool → List ℕ → Option (List ℕ)
if_so true bytes = Some bytes
if_so false bytes = None

-- the block of zeros at one place of a device, if it is long enough to have it
abbrev pub zeroed : List (List ℕ) → ℕ → ℕ → Option (List ℕ)
zeroed blocks place block = if_so (block == place && nat_lt block (length blocks)) zeros

-- the blocks of the first bucket and of the journal area of a metadata device, but for the superblocks: session 1, the first
-- entry, and zeros in the rest
abbrev pub in_area : Layout → FreshBlocks → ℕ → Option (List ℕ)
in_area layout fresh block =
    if block == 5 then Some (session_block layout.id 1)
    else if block == 16 then Some fresh.entry
    else if_so (nat_le 1 block && not (block == 8)) zeros

-- the blocks of the buckets of the nine roots, which lie behind the journal area
abbrev pub in_roots : FreshBlocks → ℕ → Option (List ℕ)
in_roots fresh n = if_so (nat_lt n 144) (part_bytes (slice_index_or fresh.roots (n / 16) no_bucket) (n % 16))

-- what a metadata device gets before its superblocks
abbrev pub prepared : Layout → FreshBlocks → ℕ → Option (List ℕ)
prepared layout fresh block =
    if nat_lt block (16 + layout.journal) then in_area layout fresh block else in_roots fresh (block - (16 + layout.journal))

-- The five steps: a zero block for the superblock copy of every device that doesn't count, one for its other copy, zeros up to
-- the new length, what metadata devices get, and both superblock copies of every device. After the last one it is done.
pub data Step : Type 0 where
  ZeroSpares : Step
  ZeroOthers : Step
  Extend : Step
  Prepare : Step
  Seal : Step
  Done : Step

-- what a step writes at a place of devices that held this image before formatting, where it writes
abbrev pub step_writes : Layout → FreshBlocks → Image → Step → ℕ → ℕ → Option (List ℕ)
step_writes layout fresh before ZeroSpares dev block = zeroed (blocks_of before dev) (spare_block (blocks_of before dev)) block
step_writes layout fresh before ZeroOthers dev block = zeroed (blocks_of before dev) (other_block (blocks_of before dev)) block
step_writes layout fresh before Extend dev block = if_so (nat_lt dev (length before) && nat_le (length (blocks_of before dev)) block && nat_lt block (slice_index layout.blocks dev)) zeros
step_writes layout fresh before Prepare dev block = if nat_lt dev layout.metadata_replicas then prepared layout fresh block else None
step_writes layout fresh before Seal dev block = if_so (nat_lt dev (length before) && (block == 0 || block == 8)) (super_block layout dev block 1)
step_writes layout fresh before Done dev block = None

-- what was written, or else what was there
abbrev pub or_held : Option (List ℕ) → Option (List ℕ) → Option (List ℕ)
or_held None there = there
or_held (Some bytes) there = Some bytes

-- the steps before a step, the last of them first
abbrev pub steps_before : Step → List Step
steps_before ZeroSpares = []
steps_before ZeroOthers = ZeroSpares ∷ []
steps_before Extend = ZeroOthers ∷ ZeroSpares ∷ []
steps_before Prepare = Extend ∷ ZeroOthers ∷ ZeroSpares ∷ []
steps_before Seal = Prepare ∷ Extend ∷ ZeroOthers ∷ ZeroSpares ∷ []
steps_before Done = Seal ∷ Prepare ∷ Extend ∷ ZeroOthers ∷ ZeroSpares ∷ []

-- what a place holds after steps, the last of them first: what the last that wrote there wrote, or what was there before
abbrev pub held_after : Layout → FreshBlocks → Image → List Step → ℕ → ℕ → Option (List ℕ)
held_after layout fresh before [] dev block = block_at before dev block
held_after layout fresh before (step ∷ steps) dev block = or_held (step_writes layout fresh before step dev block) (held_after layout fresh before steps dev block)

-- what a place holds when a step begins
abbrev pub held_before : Layout → FreshBlocks → Image → Step → ℕ → ℕ → Option (List ℕ)
held_before layout fresh before step dev block = held_after layout fresh before (steps_before step) dev block

-- The image is of a step: where the step doesn't write, each place holds what the steps before it left.
pub record IsOfStep (layout : Layout) (fresh : FreshBlocks) (before : Image) (step : Step) (image : Image) : Type 0 where
  pub count : length image ≡ length before
  pub others : (dev block : ℕ) → step_writes layout fresh before step dev block ≡ None → block_at image dev block ≡ held_before layout fresh before step dev block

-- It is the block of a superblock copy.
abbrev pub IsSuperBlock : ℕ → Type 0
IsSuperBlock block = (block ≡ 0) ⊎ (block ≡ 8)

-- No torn superblock opens by chance: neither in what was read at each moment up to this one, nor in this image that a crash left
-- then.
pub record AreSupersUntorn (first moment : ℕ) (state : DevicesState) (image : Image) : Type 0 where
  pub reads : (dev block : ℕ) → IsSuperBlock block → HasNoChanceMatch opens dev block first moment state
  pub left : (dev block : ℕ) → IsSuperBlock block → OnlyHeldOpensAt opens (state.disks moment) image dev block

-- Images mean the same: what is found in one, with its nodes where nodes may lie, is found in the other one, in order where it was,
-- and it mounts as the same volume.
pub record KeepsMeaning (one other : Image) : Type 0 where
  pub finds : (f : Found) → found one ≡ Ok f → AreNodesPlaced (node_places f) f.layout → found other ≡ Ok f
  pub in_order : (f : Found) → AreNodesPlaced (node_places f) f.layout → IsInOrder f one → IsInOrder f other
  pub mounts : (volume : Volume) → MountsAs one volume → MountsAs other volume

-- The image is the fresh volume: that is found in it, in order, with its nodes where nodes may lie, and it mounts as the volume.
pub record IsFresh (layout : Layout) (image : Image) : Type 0 where
  pub finds : found image ≡ Ok (fresh_found layout)
  pub placed : AreNodesPlaced (node_places (fresh_found layout)) layout
  pub mounts : MountsAs image (fresh_volume layout)
  pub in_order : IsInOrder (fresh_found layout) image

-- The image means what it meant before, and no more; or nothing is found in it; or it is the fresh volume.
abbrev pub MeansOldOrFresh : Layout → Image → Image → Type 0
MeansOldOrFresh layout before image = (KeepsMeaning before image × KeepsMeaning image before) ⊎ IsErr (found image) ⊎ IsFresh layout image

-- What a crash leaves at this moment of devices that are being formatted is of one of the steps, for some blocks that metadata devices
-- get, which are those of the fresh volume, and it means what it may, where no torn superblock opens by chance.
pub record IsFormatImage (layout : Layout) (old new : DevicesState) (moment : ℕ) (image : Image) : Type 0 where
  pub fresh : FreshBlocks
  pub step : Step
  pub blocks : step ≢ ZeroSpares → AreFreshBlocks layout fresh
  pub of_step : IsOfStep layout fresh (as_read (now old)) step image
  pub means : AreSupersUntorn old.moment moment new image → MeansOldOrFresh layout (as_read (now old)) image

-- A crash at each moment of formatting devices of which nothing is pending at first leaves only such images.
abbrev pub FormatSurvives : Layout → DevicesState → DevicesState → Type 0
FormatSurvives layout old new =
    NothingPending (now old) → (moment : ℕ) → old.moment ≤ moment → moment ≤ new.moment
    → (image : Image) → IsCrashImage (new.disks moment) image → IsFormatImage layout old new moment image

-- The metadata devices hold what those of the fresh volume get: zeros, session 1, the first entry, and the buckets of the roots.
pub record HoldsPrepared (layout : Layout) (image : Image) : Type 0 where
  pub fresh : FreshBlocks
  pub blocks : AreFreshBlocks layout fresh
  pub hold : (dev block : ℕ) (bytes : List ℕ) → dev < layout.metadata_replicas → prepared layout fresh block ≡ Some bytes → block_at image dev block ≡ Some bytes

-- The devices hold the fresh volume with this layout, and nothing of them is pending; and it is ready to be opened: its first entry
-- stands whole on every metadata device, and no two records of the journal have one digest.
pub record IsFormatted (layout : Layout) (disks : List Disk) : Type 0 where
  pub rest : NothingPending disks
  pub is_fresh : IsFresh layout (as_read disks)
  pub holds : HoldsPrepared layout (as_read disks)
  pub mended : HasMended (fresh_found layout) 1 disks
