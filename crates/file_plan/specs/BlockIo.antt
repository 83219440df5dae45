-- What was read, reserved and written of blocks for a plan.
use Rattle.std.specs.Prelude.{◌≡◌, ℕ, ◌+◌, ◌<◌, ◌≤◌, Some, None, Option, List, [], ◌∷◌, ◌++◌, length, map, All, Contains}
use Rattle.std.specs.Int.{IsInRange}
use Rattle.std.specs.Ordering.{nat_cmp}
use Rattle.vol_types.specs.Ranges.{IsDevice, Rise}
use Rattle.vol_types.specs.declared.pointers.Place.{Place}
use Rattle.vol_types.specs.declared.pointers.Pointer.{Pointer}
use Rattle.key_meaning.specs.Blocks.{Block, place_at}
use Rattle.key_meaning.specs.Forest.{Read}
use Rattle.file_plan.specs.declared.block_io.BlockIo.{BlockIo}
use Rattle.file_plan.specs.declared.block_io.KnownBlock.{KnownBlock}
use Rattle.file_plan.specs.declared.block_io.Reservation.{Reservation}

-- after a further block was read
abbrev pub with_read : KnownBlock → BlockIo → BlockIo
with_read known io = record { read = io.read ++ known ∷ []; reserved = io.reserved; written = io.written }

-- after further places were reserved
abbrev pub with_reserved : Reservation → BlockIo → BlockIo
with_reserved reservation io = record { read = io.read; reserved = io.reserved ++ reservation ∷ []; written = io.written }

-- after a further block was written
abbrev pub with_written : KnownBlock → BlockIo → BlockIo
with_written known io = record { read = io.read; reserved = io.reserved; written = io.written ++ known ∷ [] }

-- What was read, reserved and written before was so, and maybe more after it.
pub record GoesOn (old new : BlockIo) : Type 0 where
  pub read : List KnownBlock
  pub reserved : List Reservation
  pub written : List KnownBlock
  pub read_is : new.read ≡ old.read ++ read
  pub reserved_is : new.reserved ≡ old.reserved ++ reserved
  pub written_is : new.written ≡ old.written ++ written

-- Blocks were read, if anything was done; nothing was reserved or written.
pub record OnlyReads (old new : BlockIo) : Type 0 where
  pub read : List KnownBlock
  pub read_is : new.read ≡ old.read ++ read
  pub reserved_is : new.reserved ≡ old.reserved
  pub written_is : new.written ≡ old.written

-- a block that shows, with bytes that were read of it; nothing where none shows
abbrev pub known_of : Option Block → List ℕ → List KnownBlock
known_of None bytes = []
known_of (Some block) bytes = record { places = block.places; digest = block.digest; bytes = bytes } ∷ []

-- A block that shows was read, if one does, and no other.
pub record ReadsBlock (shown : Option Block) (old new : BlockIo) : Type 0 where
  pub bytes : List ℕ
  pub is : new.read ≡ old.read ++ known_of shown bytes

-- the places behind which pointers lead
abbrev pub places_of : List Pointer → List Place
places_of pointers = map (λ (pointer : Pointer). pointer.place) pointers

-- the places of one of the blocks behind pointers
abbrev pub places_at : ℕ → List Pointer → List Place
places_at index pointers = map (place_at index) pointers

-- The places of so many blocks are those of one to three copies on devices that rise, and all have their numbers.
pub record ArePlacesOf (blocks : ℕ) (pointers : List Pointer) : Type 0 where
  pub copies : IsInRange 1 3 (length pointers)
  pub each : All (λ (pointer : Pointer). IsDevice pointer.place.dev) pointers
  pub rise : Rise nat_cmp (map (λ (pointer : Pointer). pointer.place.dev) pointers)
  pub numbers : All (λ (pointer : Pointer). pointer.place.block + blocks ≤ 4294967295) pointers

-- The places are those of one block of a reservation.
pub record AreReserved (reserved : List Reservation) (places : List Place) : Type 0 where
  pub reservation : Reservation
  pub there : Contains reserved reservation
  pub index : ℕ
  pub within : index < reservation.blocks
  pub are : places ≡ places_at index reservation.pointers

-- The image holds the block: it has these bytes at the first of its places with this digest.
abbrev pub IsHeld : Read → KnownBlock → Type 0
IsHeld read known = read known.places known.digest ≡ Some known.bytes

-- The image holds the blocks that were read and those that were written.
pub record Holds (read : Read) (io : BlockIo) : Type 0 where
  pub read_ones : All (IsHeld read) io.read
  pub written_ones : All (IsHeld read) io.written
