-- How many updates `expand` makes at most, and of how many bytes.
use Rattle.std.specs.Prelude.{ℕ, ◌+◌, ◌*◌, if◌then◌else◌, List, [], ◌∷◌, length}
use Rattle.std.specs.List.{sum_by}
use Rattle.vol_types.specs.KeyMaps.{KeyMap, is_update_of}
use Rattle.vol_types.specs.Lengths.{key_length_of}
use Rattle.vol_types.specs.declared.keys.Update.{Update}
use Rattle.vol_types.specs.declared.positions.Btree.TheVariants.{Extents}
use Rattle.key_triggers.specs.Changes.{Values, pointers_in, values_after, values_before}

-- how many pointers some values have
abbrev pub pointers_in_all : Values → ℕ
pointers_in_all [] = 0
pointers_in_all (entry ∷ values) = length (pointers_in entry.1) + pointers_in_all values

-- how many pointers updates take and give: those of the extents at their positions, before them and after them
abbrev pub pointers_changed : KeyMap → List Update → ℕ
pointers_changed keys updates = pointers_in_all (values_before keys updates []) + pointers_in_all (values_after updates [])

-- how many updates `expand` makes at most: those that are given, and two for each of these pointers, one of its bucket and one of its block
abbrev pub most_expanded : KeyMap → List Update → ℕ
most_expanded keys updates = length updates + 2 * pointers_changed keys updates

-- how many of some updates change an extent or a hole
abbrev pub extents_changed : List Update → ℕ
extents_changed [] = 0
extents_changed (update ∷ updates) = (if is_update_of Extents update then 1 else 0) + extents_changed updates

-- how many bytes an update takes in an entry of the journal: its key's, and two before it
abbrev pub update_bytes : Update → ℕ
update_bytes update = 2 + key_length_of update.value

-- how many bytes some updates take there
abbrev pub bytes_in : List Update → ℕ
bytes_in updates = sum_by update_bytes updates
