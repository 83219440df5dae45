-- Runs of blocks that are written anew: which extents have them, and where.
use Rattle.std.specs.Prelude.{◌≡◌, ℕ, ◌+◌, Option, Some, List, [], ◌∷◌, ◌++◌, length, map, flat_map, take, drop, option_and_then, ⊤}
use Rattle.std.specs.Int.{IsInRange}
use Rattle.vol_digest.specs.Digests.{short_of}
use Rattle.vol_types.specs.declared.keys.Key.{Key}
use Rattle.vol_types.specs.declared.pointers.Pointer.{Pointer}
use Rattle.vol_types.specs.declared.values.Extent.{Extent}
use Rattle.vol_types.specs.declared.values.Value.{Value}
use Rattle.vol_types.specs.declared.values.Value.TheVariants as values
use Rattle.key_meaning.specs.Blocks.{Block}
use Rattle.key_meaning.specs.CoverLaws.{pos_of}
use Rattle.key_meaning.specs.Forest.{Read}
use Rattle.extent_ops.specs.Content.{given_by}
use Rattle.file_plan.specs.BlockIo.{ArePlacesOf, places_at}
use Rattle.file_plan.specs.declared.block_io.BlockIo.{BlockIo}
use Rattle.file_plan.specs.declared.block_io.KnownBlock.{KnownBlock}
use Rattle.file_plan.specs.declared.block_io.Reservation.{Reservation}

-- how many blocks an extent has at most
abbrev pub most_blocks : ℕ
most_blocks = 16

-- the extent that a value holds; one without blocks where it holds none
abbrev pub extent_of : Option Value → Extent
extent_of (Some (values.Extent extent)) = extent
extent_of other = record { pointers = []; digests = [] }

-- The key is an extent of the file in the id, of up to 16 blocks from this one on, at places in range.
pub record IsExtentKey (file id first : ℕ) (key : Key) : Type 0 where
  pub extent : Extent
  pub is : key.value ≡ Some (values.Extent extent)
  pub at : key.pos ≡ pos_of file (first + length extent.digests) id
  pub blocks : IsInRange 1 most_blocks (length extent.digests)
  pub places : ArePlacesOf (length extent.digests) extent.pointers

-- The keys are extents of the file in the id, of all blocks from a first one up to an end.
abbrev pub IsRun : ℕ → ℕ → ℕ → ℕ → List Key → Type 0
IsRun file id first end [] = first ≡ end
IsRun file id first end (key ∷ keys) = IsExtentKey file id first key × IsRun file id key.pos.offset end keys

-- how many blocks a key's extent has
abbrev pub blocks_in : Key → ℕ
blocks_in key = length (extent_of key.value).digests

-- Each key but the last one has as many blocks as an extent may.
abbrev pub AreCut : List Key → Type 0
AreCut [] = ⊤
AreCut (key ∷ []) = ⊤
AreCut (key ∷ next ∷ keys) = (blocks_in key ≡ most_blocks) × AreCut (next ∷ keys)

-- the places that were reserved for a key's extent
abbrev pub reservation_of : Key → Reservation
reservation_of key = record { pointers = (extent_of key.value).pointers; blocks = blocks_in key }

-- blocks that were written behind pointers, from one of them on
abbrev pub written_at : ℕ → List Pointer → List (List ℕ) → List KnownBlock
written_at index pointers [] = []
written_at index pointers (bytes ∷ blocks) = record { places = places_at index pointers; digest = short_of bytes; bytes = bytes } ∷ written_at (index + 1) pointers blocks

-- blocks that were written as those of the extents of keys
abbrev pub written_as : List Key → List (List ℕ) → List KnownBlock
written_as [] blocks = []
written_as (key ∷ keys) blocks = written_at 0 (extent_of key.value).pointers (take (blocks_in key) blocks) ++ written_as keys (drop (blocks_in key) blocks)

-- the bytes that an image holds of a block that shows, if one does
abbrev pub bytes_of : Read → Option Block → Option (List ℕ)
bytes_of read shown = option_and_then (λ (block : Block). read block.places block.digest) shown

-- The extents give these bytes to the blocks from this one on.
abbrev pub GiveBytes : Read → List Key → ℕ → List (List ℕ) → Type 0
GiveBytes read keys first [] = ⊤
GiveBytes read keys first (bytes ∷ blocks) = (option_and_then (bytes_of read) (given_by keys first) ≡ Some bytes) × GiveBytes read keys (first + 1) blocks

-- Blocks were written, and these keys are a run of them from a first block on: cut into extents of 16 blocks, each at places that
-- were reserved for it alone, with the digests of its blocks. Nothing else was reserved or written, and nothing was read.
pub record IsWritten (file id first : ℕ) (blocks : List (List ℕ)) (keys : List Key) (old new : BlockIo) : Type 0 where
  pub run : IsRun file id first (first + length blocks) keys
  pub cut : AreCut keys
  pub read : new.read ≡ old.read
  pub reserved : new.reserved ≡ old.reserved ++ map reservation_of keys
  pub written : new.written ≡ old.written ++ written_as keys blocks
  pub digests : flat_map (λ (key : Key). (extent_of key.value).digests) keys ≡ map short_of blocks
