-- What `expand` makes of updates: those of a plan, and those of the keys on space. See `Follows`.
use Rattle.std.specs.Prelude.{true, false, List, [], ◌++◌, map}
use Rattle.vol_types.specs.KeyMaps.{KeyMap}
use Rattle.vol_types.specs.declared.keys.Update.{Update}
use Rattle.key_triggers.specs.Changes.{values_after, values_before}
use Rattle.key_triggers.specs.Owners.{Owners, held_by, left_by, owner_update}
use Rattle.key_triggers.specs.Stamps.{stamped}
use Rattle.key_triggers.specs.Tallies.{Tallies, counted_values, live_update}

-- how many blocks of which buckets come and go by updates
abbrev pub tallies_of : KeyMap → List Update → Tallies
tallies_of keys updates = counted_values true (values_after updates []) (counted_values false (values_before keys updates []) [])

-- to which extents blocks belong by updates
abbrev pub owners_of : KeyMap → List Update → Owners
owners_of keys updates = held_by (values_after updates []) (left_by (values_before keys updates []) [])

-- the updates with the present generations, and after them those of the keys on space
abbrev pub expanded : KeyMap → List Update → List Update
expanded keys updates = map (stamped keys) updates ++ map (live_update keys) (tallies_of keys updates) ++ map owner_update (owners_of keys updates)
