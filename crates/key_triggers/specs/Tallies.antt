-- How `expand` counts the blocks of each bucket that come to be used, and those that are used no longer. See `Follows`.
use Rattle.std.specs.Prelude.{ℕ, ◌+◌, ◌-◌, ◌^◌, ◌==◌, ◌&&◌, Bool, min, nat_lt, if◌then◌else◌, List, [], ◌∷◌, Option, Some, unwrap_or}
use Rattle.vol_types.specs.KeyMaps.{KeyMap, value_in}
use Rattle.vol_types.specs.Limits.{bucket_blocks}
use Rattle.vol_types.specs.Maps.{value_at, with_value}
use Rattle.vol_types.specs.Positions.{pos_cmp}
use Rattle.vol_types.specs.declared.keys.Update.{Update}
use Rattle.vol_types.specs.declared.pointers.Pointer.{Pointer}
use Rattle.vol_types.specs.declared.positions.Btree.TheVariants.{Alloc}
use Rattle.vol_types.specs.declared.positions.Pos.{Pos}
use Rattle.vol_types.specs.declared.values.Live.{Live}
use Rattle.vol_types.specs.declared.values.Value.TheVariants as values
use Rattle.key_meaning.specs.Checks.{live_of}
use Rattle.key_triggers.specs.declared.tallies.Tally.{Tally}
use Rattle.key_triggers.specs.Changes.{Values, blocks_in, pointers_in}
use Rattle.key_triggers.specs.Positions.{bucket_pos}

-- a tally for each of some buckets
abbrev pub Tallies : Type 0
Tallies = List (Pos × Tally)

-- a sum that stands still at its type's end
abbrev pub capped : ℕ → ℕ → ℕ
capped m n = min (m + n) (2 ^ 64 - 1)

-- the tally with so many blocks more that were given, or taken
abbrev pub tally_more : Bool → ℕ → Tally → Tally
tally_more gives blocks tally =
    if gives then record { taken = tally.taken; given = capped tally.given blocks }
    else record { taken = capped tally.taken blocks; given = tally.given }

-- what was counted for a bucket
abbrev pub tally_at : Pos → Tallies → Tally
tally_at bucket tallies = unwrap_or (value_at pos_cmp bucket tallies) (record { taken = 0; given = 0 })

-- the tallies with so many blocks more behind each of these pointers
abbrev pub counted : Bool → ℕ → List Pointer → Tallies → Tallies
counted gives blocks [] tallies = tallies
counted gives blocks (pointer ∷ pointers) tallies =
    counted gives blocks pointers (with_value pos_cmp (bucket_pos pointer.place) (tally_more gives blocks (tally_at (bucket_pos pointer.place) tallies)) tallies)

-- the tallies with the blocks that values use
abbrev pub counted_values : Bool → Values → Tallies → Tallies
counted_values gives [] tallies = tallies
counted_values gives (entry ∷ values) tallies = counted_values gives values (counted gives (blocks_in entry.1) (pointers_in entry.1) tallies)

-- a bucket that was never used
abbrev pub unused : Live
unused = record { generation = 0; blocks = 0 }

-- how many blocks are used after some were given and some were taken
abbrev pub blocks_after : ℕ → Tally → ℕ
blocks_after blocks tally = min (capped blocks tally.given - tally.taken) bucket_blocks

-- the generation of a bucket after the number of its used blocks changed: the next one where it falls to 0, if there is one
abbrev pub generation_after : Live → ℕ → ℕ
generation_after live blocks = if nat_lt 0 live.blocks && (blocks == 0) then min (live.generation + 1) (2 ^ 32 - 1) else live.generation

-- a bucket's state after so many of its blocks were given and taken
abbrev pub live_after : Option Live → Tally → Live
live_after live tally =
    let before = unwrap_or live unused in
    record { generation = generation_after before (blocks_after before.blocks tally); blocks = blocks_after before.blocks tally }

-- the update after which a bucket has this state
abbrev pub state_update : Pos → Live → Update
state_update bucket live = record { btree = Alloc; level = 0; pos = bucket; value = Some (values.Live live) }

-- the update after which a bucket of the key map has its new state
abbrev pub live_update : KeyMap → Pos × Tally → Update
live_update keys entry = state_update entry.0 (live_after (live_of (value_in keys Alloc entry.0)) entry.1)
