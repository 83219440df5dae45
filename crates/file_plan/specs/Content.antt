-- The content of a file after it was put or cut.
use Rattle.std.specs.Prelude.{◌≡◌, ℕ, ◌-◌, ◌*◌, ◌/◌, ◌%◌, ◌<◌, ◌≤◌, ◌&&◌, nat_le, nat_lt, Option, Some, None, is_some, IsSome, List, [], map, All, slice_index, true, ⊤}
use Rattle.std.specs.List.{range_with_len}
use Rattle.std.specs.Ordering.{nat_cmp}
use Rattle.vol_types.specs.KeyMaps.{KeyMap}
use Rattle.vol_types.specs.Limits.{block_size}
use Rattle.vol_types.specs.Maps.{value_at}
use Rattle.vol_types.specs.declared.keys.Key.{Key}
use Rattle.vol_types.specs.declared.keys.Update.{Update}
use Rattle.vol_types.specs.declared.positions.Pos.{Pos}
use Rattle.vol_types.specs.declared.values.Value.{Value}
use Rattle.key_meaning.specs.Blocks.{Block, block_in}
use Rattle.key_meaning.specs.Checks.{IsCoveredOnce}
use Rattle.key_meaning.specs.Forest.{Read, byte_at, content_of}
use Rattle.key_meaning.specs.Visible.{snaps_of}
use Rattle.extent_ops.specs.Content.{AreFresh, AreFreshWithin, HavePlaces, IsInRange, IsNear, TakesBlocks, given_by, hidden_if, is_covered_above}
use Rattle.file_plan.specs.Ends.{has_end}
use Rattle.file_plan.specs.Runs.{bytes_of}
use Rattle.file_plan.specs.Sizes.{blocks_up_to, cut_size}
use Rattle.file_plan.specs.declared.change.Change.{Change}
use Rattle.file_plan.specs.declared.change.Change.TheVariants.{Put, Cut}

-- The extents and holes of a key map are in range, and so are the numbers of all their places.
pub record AreExtentsInRange (keys : KeyMap) : Type 0 where
  pub each : All (λ (entry : Pos × Value). IsInRange entry) keys.extents
  pub places : All (λ (entry : Pos × Value). HavePlaces entry.1) keys.extents

-- The id is there, its extents and holes of the number don't overlap, and no block of it shows at or behind this size. So it is of
-- each file of a live leaf in a sound and tidy key map.
pub record HasFile (keys : KeyMap) (id number size : ℕ) : Type 0 where
  pub there : IsSome (value_at nat_cmp id (snaps_of keys))
  pub in_range : AreExtentsInRange keys
  pub once : IsCoveredOnce keys number id
  pub ends : (block : ℕ) → size ≤ block * block_size → block_in keys id number block ≡ None

-- a byte of a file with these bytes, where this is given to its block: one of what the image holds of that; else the byte that
-- is there, and zero behind the end
abbrev pub byte_from : Read → List ℕ → ℕ → Option (Option Block) → ℕ
byte_from read old index None = slice_index old index
byte_from read old index (Some shown) = byte_at (bytes_of read shown) (index % block_size)

-- so many bytes of a file with these bytes, where extents give some of its blocks
abbrev pub written_over : Read → List Key → List ℕ → ℕ → List ℕ
written_over read extents old size = map (λ index. byte_from read old index (given_by extents (index / block_size))) (range_with_len 0 size)

-- so many bytes of a file with these bytes, zeros behind its end
abbrev pub resized : List ℕ → ℕ → List ℕ
resized old size = map (slice_index old) (range_with_len 0 size)

-- A put of extents may make a file of this size so long: it stays as long as it is, or ends inside no block that shows, or the
-- extents have that block.
abbrev pub MayReach : KeyMap → ℕ → ℕ → ℕ → List Key → ℕ → Type 0
MayReach keys id number size extents new = size < new → has_end keys id number size ≡ true → IsSome (given_by extents (size / block_size))

-- In the new key map the file has the blocks of the extents, and all other bytes up to its end; as far as it may reach behind that end there
-- are zeros elsewhere.
abbrev pub IsPut : KeyMap → KeyMap → Read → ℕ → ℕ → ℕ → List Key → Type 0
IsPut old new read id number size extents = (new_size : ℕ) → MayReach old id number size extents new_size → content_of new read id number new_size ≡ written_over read extents (content_of old read id number size) new_size

-- In the new key map the file has its first bytes up to another size; where it may be so long, and this is greater, zeros behind its end.
abbrev pub IsCutTo : KeyMap → KeyMap → Read → ℕ → ℕ → ℕ → ℕ → Type 0
IsCutTo old new read id number size new_size = MayReach old id number size [] new_size → content_of new read id number new_size ≡ resized (content_of old read id number size) new_size

-- In the new key map the bytes of the file of this size are as the change has them.
abbrev pub IsChanged : Change → KeyMap → KeyMap → Read → ℕ → ℕ → ℕ → Type 0
IsChanged (Put first extents) old new read id number size = AreFresh number id first extents → IsPut old new read id number size extents
IsChanged (Cut new_size) old new read id number size = IsCutTo old new read id number size (cut_size size new_size)

-- In an id a file takes the blocks of extents, and no other block. No block shows behind its end and the extents.
pub record TakesExtents (old new : KeyMap) (number id size : ℕ) (extents : List Key) : Type 0 where
  pub blocks : TakesBlocks old new number id (λ block. is_some (given_by extents block)) (given_by extents)
  pub ends : (block : ℕ) → size ≤ block * block_size → All (λ (key : Key). key.pos.offset ≤ block) extents → block_in new id number block ≡ None

-- In an id a file of one size loses the blocks that one of another size doesn't have, and no other block. No block shows behind that
-- size.
pub record LosesBlocks (old new : KeyMap) (number id size new_size : ℕ) : Type 0 where
  pub blocks : TakesBlocks old new number id (λ block. nat_le (blocks_up_to new_size) block && nat_lt block (blocks_up_to size)) (λ block. hidden_if (is_covered_above old id number block))
  pub ends : (block : ℕ) → new_size ≤ block * block_size → block_in new id number block ≡ None

-- In an id a file takes the blocks that the change puts, or loses those that it cuts.
abbrev pub TakesChange : Change → KeyMap → KeyMap → ℕ → ℕ → ℕ → Type 0
TakesChange (Put first extents) old new number id size = AreFresh number id first extents → TakesExtents old new number id size extents
TakesChange (Cut new_size) old new number id size = LosesBlocks old new number id size (cut_size size new_size)

-- the extents that a change puts
abbrev pub extents_of : Change → List Key
extents_of (Put first extents) = extents
extents_of (Cut new_size) = []

-- The extents that a change puts are fresh ones of the file in the id.
abbrev pub PutsFresh : Change → ℕ → ℕ → Type 0
PutsFresh (Put first extents) number id = AreFresh number id first extents
PutsFresh (Cut new_size) number id = ⊤

-- The updates stand near the blocks that the change puts or cuts: at most so many blocks behind the last one.
abbrev pub AreNear : Change → ℕ → ℕ → ℕ → ℕ → List Update → Type 0
AreNear (Put first extents) number id size longest updates = (last : ℕ) → AreFreshWithin number id first last extents → All (IsNear number first last longest) updates
AreNear (Cut new_size) number id size longest updates = All (IsNear number (blocks_up_to (cut_size size new_size)) (blocks_up_to size - 1) longest) updates
