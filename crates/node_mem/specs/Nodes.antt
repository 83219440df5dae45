-- What a node means: the values of a range of positions, as a finite map, and what is looked up in it.
use Rattle.std.specs.Prelude.{ℕ, ◌-◌, ◌/◌, ◌^◌, min, Option, None, List, [], ◌∷◌, length, All, slice_get, if◌then◌else◌, nat_lt}
use Rattle.std.specs.List.{filter}
use Rattle.std.specs.Map.{keys_of, values_of}
use Rattle.std.specs.Ordering.{is_le, is_lt}
use Rattle.vol_types.specs.KeyMaps.{Entries, keys_in}
use Rattle.vol_types.specs.Maps.{IsMap, put_at}
use Rattle.vol_types.specs.Positions.{pos_cmp, IsWithin}
use Rattle.vol_types.specs.Ranges.{IsValue}
use Rattle.vol_types.specs.Sets.{set_length_of}
use Rattle.vol_types.specs.declared.keys.Key.{Key}
use Rattle.vol_types.specs.declared.positions.Pos.{Pos}
use Rattle.vol_types.specs.declared.values.Value.{Value}

-- the least and the greatest position that a node covers, and its values, each at its position
pub record Node : Type 0 where
  pub least : Pos
  pub greatest : Pos
  pub entries : Entries

-- A node is a finite map from positions that it covers to values in range.
pub record IsNode (node : Node) : Type 0 where
  pub rises : IsMap pos_cmp node.entries
  pub covered : All (IsWithin node.least node.greatest) (keys_of node.entries)
  pub in_range : All IsValue (values_of node.entries)

-- the node with other entries
abbrev pub with_entries : Node → Entries → Node
with_entries node entries = record { least = node.least; greatest = node.greatest; entries = entries }

-- the entries with each key put or taken away in turn, so that a later one of a position counts
abbrev pub with_keys : List Key → Entries → Entries
with_keys [] entries = entries
with_keys (key ∷ keys) entries = with_keys keys (put_at pos_cmp key.pos key.value entries)

-- the entries after a position
abbrev pub entries_after : Pos → Entries → Entries
entries_after pos entries = filter (λ entry. is_lt (pos_cmp pos entry.0)) entries

-- the entries up to a position, which is included
abbrev pub entries_up_to : Pos → Entries → Entries
entries_up_to pos entries = filter (λ entry. is_le (pos_cmp entry.0 pos)) entries

-- the first entry, if there is one
abbrev pub first_of : Entries → Option (Pos × Value)
first_of entries = slice_get entries 0

-- the last entry, if there is one
abbrev pub last_of : Entries → Option (Pos × Value)
last_of entries = slice_get entries (length entries - 1)

-- of two positions or more the middle one, or the lower one of the two in the middle; it isn't the last
abbrev pub middle_of : Entries → Option Pos
middle_of entries = if nat_lt 1 (length entries) then slice_get (keys_of entries) ((length entries - 1) / 2) else None

-- the bytes that a node takes as one set, or 2^32 - 1 where they are more
abbrev pub size_of : Entries → ℕ
size_of entries = min (set_length_of (keys_in entries)) (2 ^ 32 - 1)
