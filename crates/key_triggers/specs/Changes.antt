-- Which extents and holes updates change, as `expand` notes it.
use Rattle.std.specs.Prelude.{ℕ, if◌then◌else◌, List, [], ◌∷◌, Option, None, Some}
use Rattle.vol_types.specs.KeyMaps.{KeyMap, is_update_of, value_in}
use Rattle.vol_types.specs.Maps.{with_value}
use Rattle.vol_types.specs.Positions.{pos_cmp}
use Rattle.vol_types.specs.declared.keys.Key.{Key}
use Rattle.vol_types.specs.declared.keys.Update.{Update}
use Rattle.vol_types.specs.declared.pointers.Pointer.{Pointer}
use Rattle.vol_types.specs.declared.positions.Btree.TheVariants.{Extents}
use Rattle.vol_types.specs.declared.positions.Pos.{Pos}
use Rattle.vol_types.specs.declared.values.Value.{Value}
use Rattle.key_meaning.specs.Blocks.{blocks_of}
use Rattle.key_meaning.specs.Checks.{pointers_of}

-- the value of a key, if there is a key
abbrev pub value_in_key : Option Key → Option Value
value_in_key None = None
value_in_key (Some key) = key.value

-- the pointers of a value, if there is one
abbrev pub pointers_in : Option Value → List Pointer
pointers_in None = []
pointers_in (Some value) = pointers_of value

-- how many blocks a value covers, if there is one
abbrev pub blocks_in : Option Value → ℕ
blocks_in None = 0
blocks_in (Some value) = blocks_of value

-- a value for each of some positions, or that there is none
abbrev pub Values : Type 0
Values = List (Pos × Option Value)

-- the values, with this one at the position of an update if it is one of an extent or a hole
abbrev pub noted : Update → Option Value → Values → Values
noted update value values = if is_update_of Extents update then with_value pos_cmp update.pos value values else values

-- at each position at which updates change an extent or a hole, the value before them
abbrev pub values_before : KeyMap → List Update → Values → Values
values_before keys [] values = values
values_before keys (update ∷ updates) values = values_before keys updates (noted update (value_in keys Extents update.pos) values)

-- at each such position the value after them
abbrev pub values_after : List Update → Values → Values
values_after [] values = values
values_after (update ∷ updates) values = values_after updates (noted update update.value values)
