-- The trees of snapshot ids that go with a key map.
use Rattle.std.specs.Prelude.{◌==◌, ◌&&◌, ◌^◌, Bool, true, List, [], if◌then◌else◌, nat_lt}
use Rattle.std.specs.List.{list_all, list_any}
use Rattle.key_meaning.specs.Visible.{snaps_of}
use Rattle.snap_tree.specs.Snaps.{Snaps, are_trees, snaps_in}
use Rattle.vol_types.specs.KeyMaps.{Entries, KeyMap, is_update_of}
use Rattle.vol_types.specs.KeyMaps.{keys_in as as_keys}
use Rattle.vol_types.specs.declared.keys.Update.{Update}
use Rattle.vol_types.specs.declared.positions.Btree.TheVariants.{Snapshots}
use Rattle.vol_types.specs.declared.positions.Pos.{Pos}

-- whether the record of an id may stand at the position: at the id's number
abbrev pub is_id_place : Pos → Bool
is_id_place pos = pos.inode == 0 && nat_lt pos.offset (2 ^ 32) && pos.snapshot == 0

-- whether values stand where records of ids may
abbrev pub are_id_places : Entries → Bool
are_id_places entries = list_all (λ entry. is_id_place entry.0) entries

-- the ids of a key map with their records; no ids where they form no trees
abbrev pub id_trees : KeyMap → Snaps
id_trees keys = if are_id_places keys.snapshots && are_trees (snaps_of keys) then snaps_of keys else []

-- the ids of records, each at its position; no ids where they form no trees
abbrev pub trees_of : Entries → Snaps
trees_of entries = if are_id_places entries && are_trees (snaps_in (as_keys entries)) then snaps_in (as_keys entries) else []

-- whether an update changes the record of an id
abbrev pub changes_ids : List Update → Bool
changes_ids updates = list_any (is_update_of Snapshots) updates

-- whether an update is at the place of an id, if it changes the record of one
abbrev pub is_placed : Update → Bool
is_placed update = if is_update_of Snapshots update then is_id_place update.pos else true
