-- What mending an entry does to the journal areas: on each metadata device that lacks a part of it the part is written.
use Rattle.std.specs.Prelude.{◌≡◌, ◌≢◌, ◌⊎◌, ℕ, ◌+◌, ◌%◌, ◌<◌, ◌≤◌, Bool, List, [], length, Some, None, option_and_then, slice_index_or}
use Rattle.dev_model.specs.Crashes.{EachCrash, IsAt, IsCrashImageBut, SameBut}
use Rattle.dev_model.specs.Devices.{DevicesState, now}
use Rattle.dev_model.specs.Disk.{Image, as_read, block_at}
use Rattle.dev_model.specs.HeldBlocks.{HoldOnly}
use Rattle.sealed_block.specs.Opening.{opened}
use Rattle.vol_types.specs.declared.layout.Layout.{Layout}
use Rattle.journal_ring.specs.declared.found.FoundEntry.{FoundEntry}
use Rattle.journal_ring.specs.EntryBlocks.{ring_block}
use Rattle.journal_ring.specs.Parts.{Area, numbered}

-- Part p of an entry, whose part 0 has this number, stands at its place on a device.
abbrev pub HasPart : Layout → Area → ℕ → List (List ℕ) → ℕ → ℕ → Type 0
HasPart layout area number blocks dev p = numbered layout area dev (number + p) ≡ Some (slice_index_or blocks p [])

-- At the place of a part the second area holds what the first one does; or, where that lacks the part, the part, or a block that
-- doesn't open.
abbrev pub IsMendedAt : Layout → ℕ → List (List ℕ) → Area → Area → ℕ → ℕ → Type 0
IsMendedAt layout number blocks one other dev p =
    (numbered layout other dev (number + p) ≡ numbered layout one dev (number + p))
    ⊎ (¬ HasPart layout one number blocks dev p × (HasPart layout other number blocks dev p ⊎ (option_and_then opened (numbered layout other dev (number + p)) ≡ None)))

-- The second area is the first one while an entry is mended there: at the places of its parts so, and elsewhere the same.
pub record IsMended (layout : Layout) (number : ℕ) (blocks : List (List ℕ)) (one other : Area) : Type 0 where
  pub parts : (dev p : ℕ) → dev < layout.metadata_replicas → p < length blocks → IsMendedAt layout number blocks one other dev p
  pub elsewhere : (dev place : ℕ) → dev < layout.metadata_replicas → place < layout.journal → ((p : ℕ) → p < length blocks → place ≢ (number + p) % layout.journal) → one dev place ≡ other dev place

-- One entry ends before the other begins, and from the beginning of the first to the end of the second no place comes twice.
abbrev pub DoNotOverlap : ℕ → FoundEntry → FoundEntry → Type 0
DoNotOverlap journal one other =
    ((one.end ≤ other.number) × (other.end ≤ one.number + journal)) ⊎ ((other.end ≤ one.number) × (one.end ≤ other.number + journal))

-- The image lacks bytes that are wanted at this place.
abbrev pub IsLacking : (ℕ → ℕ → List ℕ → Type 0) → Image → ℕ → ℕ → Type 0
IsLacking wanted image dev block = (bytes : List ℕ) × wanted dev block bytes × (block_at image dev block ≢ Some bytes)

-- These bytes are wanted at this place, and the image lacks them.
abbrev pub IsLackingBlock : (ℕ → ℕ → List ℕ → Type 0) → Image → ℕ → ℕ → List ℕ → Type 0
IsLackingBlock wanted image dev block bytes = wanted dev block bytes × (block_at image dev block ≢ Some bytes)

-- From one state of devices to a later one wanted blocks were written where they lacked, and nothing else.
pub record Mends (wanted : ℕ → ℕ → List ℕ → Type 0) (old new : DevicesState) : Type 0 where
  pub crashes : EachCrash (λ _ _ image. IsCrashImageBut (IsLacking wanted (as_read (now old))) (now old) image) old new
  pub elsewhere : SameBut (IsLacking wanted (as_read (now old))) (as_read (now old)) (as_read (now new))
  pub asks : (opens : List ℕ → Bool) → HoldOnly opens (IsLackingBlock wanted (as_read (now old))) old new

-- these bytes at this place
abbrev pub IsBlockAt : ℕ → ℕ → List ℕ → ℕ → ℕ → List ℕ → Type 0
IsBlockAt dev block bytes d b x = IsAt dev block d b × (x ≡ bytes)

-- These bytes are a block of an entry, whose part 0 has this number, and this is its place on one of the first so many devices.
pub record IsEntryBlock (mirrors journal number : ℕ) (blocks : List (List ℕ)) (dev block : ℕ) (bytes : List ℕ) : Type 0 where
  pub part : ℕ
  pub within : part < length blocks
  pub mirror : dev < mirrors
  pub place : block ≡ ring_block journal (number + part)
  pub bytes_are : bytes ≡ slice_index_or blocks part []
