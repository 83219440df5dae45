-- Which extent or hole a block of a file belongs to in a snapshot, and what of it shows there.
use Rattle.std.specs.Prelude.{ℕ, ◌+◌, ◌-◌, ◌==◌, Bool, ◌&&◌, nat_lt, nat_le, Option, None, Some, List, [], ◌∷◌, length, map, find, slice_index, option_and_then}
use Rattle.std.specs.Option.{option_or}
use Rattle.snap_tree.specs.Snaps.{chain_of}
use Rattle.vol_types.specs.KeyMaps.{KeyMap}
use Rattle.vol_types.specs.declared.pointers.Place.{Place}
use Rattle.vol_types.specs.declared.pointers.Pointer.{Pointer}
use Rattle.vol_types.specs.declared.positions.Pos.{Pos}
use Rattle.vol_types.specs.declared.values.Extent.{Extent}
use Rattle.vol_types.specs.declared.values.Value.{Value}
use Rattle.vol_types.specs.declared.values.Value.TheVariants as values
use Rattle.key_meaning.specs.Visible.{snaps_of}

-- how many blocks a value covers: those of an extent or of a hole
abbrev pub blocks_of : Value → ℕ
blocks_of (values.Extent extent) = length extent.digests
blocks_of (values.Hole blocks) = blocks
blocks_of other = 0

-- whether a value at this offset, where its range ends, covers a block
abbrev pub covers : ℕ → Value → ℕ → Bool
covers end value block = nat_lt block end && nat_le end (block + blocks_of value)

-- whether an entry is one of this file in this id, and covers the block
abbrev pub is_cover : ℕ → ℕ → ℕ → Pos × Value → Bool
is_cover id file block entry = entry.0.inode == file && entry.0.snapshot == id && covers entry.0.offset entry.1 block

-- the extent or hole of a file in one id itself that covers a block, with its position
abbrev pub own_cover : KeyMap → ℕ → ℕ → ℕ → Option (Pos × Value)
own_cover keys file block id = find (is_cover id file block) keys.extents

-- that of the first of these ids that has one
abbrev pub first_cover : KeyMap → ℕ → ℕ → List ℕ → Option (Pos × Value)
first_cover keys file block [] = None
first_cover keys file block (id ∷ ids) = option_or (own_cover keys file block id) (first_cover keys file block ids)

-- the extent or hole that a block of a file belongs to in an id
abbrev pub cover_in : KeyMap → ℕ → ℕ → ℕ → Option (Pos × Value)
cover_in keys id file block = first_cover keys file block (chain_of (snaps_of keys) id)

-- a block that shows: where its copies lie, and the digest of its bytes
pub record Block : Type 0 where
  pub places : List Place
  pub digest : ℕ

-- the place so many blocks behind a pointer's first one
abbrev pub place_at : ℕ → Pointer → Place
place_at index pointer = record { dev = pointer.place.dev; block = pointer.place.block + index }

-- the block at this place of an extent
abbrev pub block_of : Extent → ℕ → Block
block_of extent index = record { places = map (place_at index) extent.pointers; digest = slice_index extent.digests index }

-- what shows of a block that belongs to an entry: an extent shows one of its blocks, and a hole nothing
abbrev pub shown_of : ℕ → Pos × Value → Option Block
shown_of block (pos, values.Extent extent) = Some (block_of extent (block - (pos.offset - length extent.digests)))
shown_of block (pos, other) = None

-- the block of a file that shows in an id, if one does
abbrev pub block_in : KeyMap → ℕ → ℕ → ℕ → Option Block
block_in keys id file block = option_and_then (shown_of block) (cover_in keys id file block)
