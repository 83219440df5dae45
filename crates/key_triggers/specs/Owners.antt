-- How `expand` finds to which extent the blocks belong at which copies of extents begin. See `Follows`.
use Rattle.std.specs.Prelude.{List, [], ◌∷◌, Option, None, Some, option_map}
use Rattle.vol_types.specs.Maps.{with_value}
use Rattle.vol_types.specs.Positions.{pos_cmp}
use Rattle.vol_types.specs.declared.keys.Update.{Update}
use Rattle.vol_types.specs.declared.pointers.Pointer.{Pointer}
use Rattle.vol_types.specs.declared.positions.Btree.TheVariants.{Backptrs}
use Rattle.vol_types.specs.declared.positions.Pos.{Pos}
use Rattle.vol_types.specs.declared.values.Value.TheVariants as values
use Rattle.key_triggers.specs.Changes.{Values, pointers_in}
use Rattle.key_triggers.specs.Positions.{block_pos}

-- an owner for each of some blocks, or that there is none
abbrev pub Owners : Type 0
Owners = List (Pos × Option Pos)

-- the owners, where the blocks at which these pointers begin have this one
abbrev pub owned : Option Pos → List Pointer → Owners → Owners
owned owner [] owners = owners
owned owner (pointer ∷ pointers) owners = owned owner pointers (with_value pos_cmp (block_pos pointer.place) owner owners)

-- the owners, where the blocks at which pointers of values begin have none
abbrev pub left_by : Values → Owners → Owners
left_by [] owners = owners
left_by (entry ∷ values) owners = left_by values (owned None (pointers_in entry.1) owners)

-- the owners, where the blocks at which pointers of values begin belong to these
abbrev pub held_by : Values → Owners → Owners
held_by [] owners = owners
held_by (entry ∷ values) owners = held_by values (owned (Some entry.0) (pointers_in entry.1) owners)

-- the update after which a block has its owner
abbrev pub owner_update : Pos × Option Pos → Update
owner_update entry = record { btree = Backptrs; level = 0; pos = entry.0; value = option_map values.Back entry.1 }
