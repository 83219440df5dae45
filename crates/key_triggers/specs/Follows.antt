-- What a plan's updates are to be like, and what holds of the keys on space after they were expanded.
use Rattle.std.specs.Prelude.{◌≡◌, ◌⊎◌, ◌++◌, ℕ, ◌+◌, ◌-◌, ◌^◌, ◌==◌, ◌&&◌, Bool, true, false, map, min, nat_lt, if◌then◌else◌, List, All, option_map, unwrap_or}
use Rattle.vol_types.specs.KeyMaps.{IsKeyMap, KeyMap, is_update_of, value_in, with_updates}
use Rattle.vol_types.specs.declared.keys.Update.{Update}
use Rattle.vol_types.specs.declared.layout.Layout.{Layout}
use Rattle.vol_types.specs.declared.pointers.Place.{Place}
use Rattle.vol_types.specs.declared.positions.Btree.TheVariants.{Extents, Alloc, Backptrs}
use Rattle.vol_types.specs.declared.positions.Pos.{Pos}
use Rattle.key_meaning.specs.Checks.{AreBlocksPlaced, IsSpaceCounted, live_blocks, live_in}
use Rattle.key_meaning.specs.Tidy.{AreKeysDrawn}
use Rattle.key_triggers.specs.Stamps.{stamped, stamped_value}

-- The update is of no key on space.
pub record IsNoSpaceUpdate (update : Update) : Type 0 where
  pub bucket : is_update_of Alloc update ≡ false
  pub block : is_update_of Backptrs update ≡ false

-- The keys on space are the inverse of the extents, and the plan's updates leave each block of each extent in a bucket of users,
-- where no other extent uses it; they change no keys on space.
pub record MayFollow (keys : KeyMap) (updates : List Update) (nodes : List Place) (layout : Layout) : Type 0 where
  pub is_map : IsKeyMap keys
  pub counted : IsSpaceCounted keys
  pub placed : AreBlocksPlaced keys nodes layout
  pub planned : AreBlocksPlaced (with_updates updates keys) nodes layout
  pub drawn : AreKeysDrawn (with_updates updates keys)
  pub apart : All IsNoSpaceUpdate updates

-- the generation of a bucket, and 0 where it has no key
abbrev pub generation_in : KeyMap → ℕ → ℕ → ℕ
generation_in keys dev bucket = unwrap_or (option_map (λ live. live.generation) (live_in keys dev bucket)) 0

-- whether a bucket was in use and is so no longer
abbrev pub is_emptied : KeyMap → KeyMap → ℕ → ℕ → Bool
is_emptied old new dev bucket = nat_lt 0 (live_blocks old dev bucket) && (live_blocks new dev bucket == 0)

-- A bucket that was emptied has the next generation, if there is one, and every other one has its generation still.
abbrev pub HasGeneration : KeyMap → KeyMap → ℕ → ℕ → Type 0
HasGeneration old new dev bucket = generation_in new dev bucket ≡ (if is_emptied old new dev bucket then min (generation_in old dev bucket + 1) (2 ^ 32 - 1) else generation_in old dev bucket)

-- The update is of a key on space.
abbrev pub IsSpaceUpdate : Update → Type 0
IsSpaceUpdate update = (is_update_of Alloc update ≡ true) ⊎ (is_update_of Backptrs update ≡ true)

-- The updates are the plan's, where each pointer of an extent has the present generation of its bucket, and after them some of
-- keys on space alone, which stand without a snapshot id.
pub record IsExpanded (keys : KeyMap) (updates all : List Update) : Type 0 where
  pub space : List Update
  pub are : all ≡ map (stamped keys) updates ++ space
  pub only_space : All IsSpaceUpdate space
  pub at_zero : All (λ (update : Update). update.pos.snapshot ≡ 0) space

-- The keys on space are the inverse of the extents again, and these are the plan's but for the generations of their pointers. A
-- bucket that was emptied has the next generation.
pub record Follows (keys new : KeyMap) (updates : List Update) (nodes : List Place) (layout : Layout) : Type 0 where
  pub counted : IsSpaceCounted new
  pub placed : AreBlocksPlaced new nodes layout
  pub extents : (pos : Pos) → value_in new Extents pos ≡ option_map (stamped_value keys) (value_in (with_updates updates keys) Extents pos)
  pub generations : (dev bucket : ℕ) → HasGeneration keys new dev bucket
