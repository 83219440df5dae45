-- What changes one after another are, what each position had before its change, and how they are made in two steps.
use Rattle.std.specs.Prelude.{Option, Some, List, [], ◌∷◌, All, map, is_none, is_some, ◌&&◌}
use Rattle.std.specs.List.{filter}
use Rattle.std.specs.Map.{keys_of, values_of}
use Rattle.node_mem.specs.Nodes.{with_keys}
use Rattle.tree_keys.specs.Cuts.{Cut, with_entries}
use Rattle.vol_types.specs.KeyMaps.{Entries}
use Rattle.vol_types.specs.Maps.{IsMap, put_at, value_at}
use Rattle.vol_types.specs.Positions.{pos_cmp}
use Rattle.vol_types.specs.Ranges.{IsKeyValue}
use Rattle.vol_types.specs.declared.keys.Key.{Key}
use Rattle.vol_types.specs.declared.positions.Pos.{Pos}
use Rattle.vol_types.specs.declared.values.Value.{Value}
use Rattle.vol_types.specs.declared.values.Value.TheVariants.{White}

-- for each key, put or taken away in turn, the value that its position had before
abbrev pub values_before : List Key → Entries → List (Option Value)
values_before [] entries = []
values_before (key ∷ keys) entries = value_at pos_cmp key.pos entries ∷ values_before keys (put_at pos_cmp key.pos key.value entries)

-- keys of positions that each get a value or lose theirs
abbrev pub keys_of_changed : List (Pos × Option Value) → List Key
keys_of_changed changed = map (λ entry. record { pos = entry.0; value = entry.1 }) changed

-- keys of positions that all get the same value, or lose theirs
abbrev pub keys_with : Option Value → List Pos → List Key
keys_with value positions = map (λ pos. record { pos = pos; value = value }) positions

-- the positions that get a value and have none
abbrev pub fresh_positions : List (Pos × Option Value) → Entries → List Pos
fresh_positions changed entries = keys_of (filter (λ entry. is_some entry.1 && is_none (value_at pos_cmp entry.0 entries)) changed)

-- The last value of each position that changes touch, in the order of positions, each in range.
pub record AreLast (last : List (Pos × Option Value)) : Type 0 where
  pub rises : IsMap pos_cmp last
  pub in_range : All IsKeyValue (values_of last)

-- the keys with a whiteout at each position that gets a value and has none
abbrev pub placed : List (Pos × Option Value) → Cut → Cut
placed last cut = with_entries cut (with_keys (keys_with (Some White) (fresh_positions last cut.entries)) cut.entries)

-- the keys with the last value of each position
abbrev pub made : List (Pos × Option Value) → Cut → Cut
made last cut = with_entries cut (with_keys (keys_of_changed last) cut.entries)
