-- What a block of a file belongs to in one id itself, what some keys give to blocks, and what it is that an id takes them over.
use Rattle.std.specs.Prelude.{◌≡◌, ◌≢◌, ℕ, ◌+◌, ◌<◌, ◌≤◌, ◌==◌, Bool, true, false, ◌&&◌, nat_eq, Option, Some, None, List, [], ◌∷◌, map, All, IfSome, max, option_map, option_and_then, if◌then◌else◌, ⊤}
use Rattle.std.specs.List.{filter, list_any}
use Rattle.std.specs.List.Sorted.{IsStrictlySortedBy}
use Rattle.std.specs.Option.{option_or}
use Rattle.snap_tree.specs.Snaps.{chain_of_maybe, parent_of}
use Rattle.vol_types.specs.KeyMaps.{KeyMap, entries_of, keys_in, value_in}
use Rattle.vol_types.specs.Positions.{pos_cmp}
use Rattle.vol_types.specs.Ranges.{IsKeyValue}
use Rattle.vol_types.specs.Standing.{Stands}
use Rattle.vol_types.specs.Widths.{PosFits}
use Rattle.vol_types.specs.declared.keys.Key.{Key}
use Rattle.vol_types.specs.declared.keys.Update.{Update}
use Rattle.vol_types.specs.declared.pointers.Pointer.{Pointer}
use Rattle.vol_types.specs.declared.positions.Btree.{Btree}
use Rattle.vol_types.specs.declared.positions.Btree.TheVariants.{Extents}
use Rattle.vol_types.specs.declared.positions.Pos.{Pos}
use Rattle.vol_types.specs.declared.values.Value.{Value}
use Rattle.vol_types.specs.declared.values.Value.TheVariants as values
use Rattle.key_meaning.specs.Blocks.{Block, blocks_of, covers, first_cover, own_cover, shown_of}
use Rattle.key_meaning.specs.Changes.{ChangesBlocks, ChangesOnly}
use Rattle.key_meaning.specs.Checks.{HasRoom, IsCoveredOnce, pointers_of}
use Rattle.key_meaning.specs.CoverLaws.{pos_of}
use Rattle.key_meaning.specs.Visible.{snaps_of}

-- what a block of a file belongs to in one id itself: nothing, or an extent or hole, of which it shows a block or nothing
abbrev pub own_block : KeyMap → ℕ → ℕ → ℕ → Option (Option Block)
own_block keys file block id = option_map (shown_of block) (own_cover keys file block id)

-- what a value whose range has this end gives to a block: nothing where it doesn't cover it
abbrev pub value_gives : ℕ → Option Value → ℕ → Option (Option Block)
value_gives end None block = None
value_gives end (Some value) block = if covers end value block then Some (shown_of block (record { inode = 0; offset = end; snapshot = 0 }, value)) else None

-- what the first of some keys that covers a block gives to it
abbrev pub given_by : List Key → ℕ → Option (Option Block)
given_by [] block = None
given_by (key ∷ keys) block = option_or (value_gives key.pos.offset key.value block) (given_by keys block)

-- The keys are all those of a file that cover one of some blocks, in their order, and maybe others of the file.
pub record AreLookedAt (map : KeyMap) (file first last : ℕ) (keys : List Key) : Type 0 where
  pub looked_at : Pos × Value → Bool
  pub are : keys ≡ keys_in (filter looked_at map.extents)
  pub of_file : (entry : Pos × Value) → looked_at entry ≡ true → entry.0.inode ≡ file
  pub whole : (entry : Pos × Value) (block : ℕ) → value_in map Extents entry.0 ≡ Some entry.1 → entry.0.inode ≡ file → first ≤ block → block ≤ last → covers entry.0.offset entry.1 block ≡ true → looked_at entry ≡ true

-- The number of blocks fits 32 bits, and so do the numbers of all places of an extent.
pub record HavePlaces (value : Value) : Type 0 where
  pub blocks : blocks_of value ≤ 4294967295
  pub places : All (λ (pointer : Pointer). pointer.place.block + blocks_of value ≤ 4294967295) (pointers_of value)

-- The entry's position has its widths, and it covers no more blocks than an extent or a hole may.
pub record IsInRange (entry : Pos × Value) : Type 0 where
  pub fits : PosFits entry.0
  pub few : blocks_of entry.1 ≤ 4096

-- The key is one of the file in the id, and covers blocks from this one on.
pub record IsFresh (file id from : ℕ) (key : Key) : Type 0 where
  pub value : Value
  pub is : key.value ≡ Some value
  pub at : key.pos ≡ pos_of file key.pos.offset id
  pub some : 0 < blocks_of value
  pub behind : from + blocks_of value ≤ key.pos.offset

-- The keys are some of the file in the id, each of blocks behind those of the one before it.
abbrev pub AreFresh : ℕ → ℕ → ℕ → List Key → Type 0
AreFresh file id from [] = ⊤
AreFresh file id from (key ∷ keys) = IsFresh file id from key × AreFresh file id key.pos.offset keys

-- The keys are such ones, of blocks from a first to a last one.
pub record AreFreshWithin (file id first last : ℕ) (keys : List Key) : Type 0 where
  pub fresh : AreFresh file id first keys
  pub within : All (λ (key : Key). key.pos.offset ≤ last + 1) keys

-- The value is an extent or a hole in range, if there is one.
pub record IsContent (value : Option Value) : Type 0 where
  pub stands : Stands Extents 0 value
  pub in_range : IsKeyValue value

-- The update's position is one of the file, from the first block to so many blocks behind the last one, but at least one, and what it
-- puts there has room.
pub record IsNear (file first last longest : ℕ) (update : Update) : Type 0 where
  pub of_file : update.pos.inode ≡ file
  pub from : first ≤ update.pos.offset
  pub to : update.pos.offset ≤ last + max longest 1
  pub room : IfSome update.value (λ value. HasRoom (update.pos, value))

-- The updates are of extents and holes of one id alone, and their positions rise, so that none stands twice.
pub record AreOfContent (id : ℕ) (updates : List Update) : Type 0 where
  pub each : All (λ (update : Update). (update.btree ≡ Extents) × (update.level ≡ 0) × (update.pos.snapshot ≡ id)) updates
  pub rise : IsStrictlySortedBy pos_cmp (map (λ (update : Update). update.pos) updates)

-- In the new key map the blocks of a file that are cut out get in an id itself what is given to them, and the others have what they
-- had. The extents and holes don't overlap. No other file, id or btree is touched.
pub record TakesBlocks (old new : KeyMap) (file id : ℕ) (is_cut : ℕ → Bool) (given : ℕ → Option (Option Block)) : Type 0 where
  pub here : (block : ℕ) → own_block new file block id ≡ (if is_cut block then given block else own_block old file block id)
  pub once : IsCoveredOnce new file id
  pub others : (other block another : ℕ) → (other == file && another == id) ≡ false → own_cover new other block another ≡ own_cover old other block another
  pub btrees : (btree : Btree) → btree ≢ Extents → entries_of new btree ≡ entries_of old btree
  pub only : ChangesOnly old new id
  pub files : (another : ℕ) → ChangesBlocks old new another file

-- whether a value is an extent
abbrev pub is_extent : Value → Bool
is_extent (values.Extent extent) = true
is_extent other = false

-- whether an entry is an extent of this file in one of some ids, and covers the block
abbrev pub is_extent_over : ℕ → List ℕ → ℕ → Pos × Value → Bool
is_extent_over file ids block entry = entry.0.inode == file && list_any (nat_eq entry.0.snapshot) ids && covers entry.0.offset entry.1 block && is_extent entry.1

-- whether an ancestor of an id has an extent of a file over a block
abbrev pub is_covered_above : KeyMap → ℕ → ℕ → ℕ → Bool
is_covered_above keys id file block = list_any (is_extent_over file (chain_of_maybe (snaps_of keys) (parent_of (snaps_of keys) id)) block) keys.extents

-- a hole where a block is to be hidden, else nothing
abbrev pub hidden_if : Bool → Option (Option Block)
hidden_if b = if b then Some None else None

-- the places of a block with its digest, as a block that shows
abbrev pub block_at : List Pointer × ℕ → Block
block_at found = record { places = map (λ (pointer : Pointer). pointer.place) found.0; digest = found.1 }

-- the block of a file that shows in the parent of an id, if one does
abbrev pub block_above : KeyMap → ℕ → ℕ → ℕ → Option Block
block_above keys id file block = option_and_then (shown_of block) (first_cover keys file block (chain_of_maybe (snaps_of keys) (parent_of (snaps_of keys) id)))

-- what shows of a block that belongs to this in the id itself, and else to what it belongs to in its parent
abbrev pub shown_over : Option (Option Block) → Option Block → Option Block
shown_over None above = above
shown_over (Some own) above = own
