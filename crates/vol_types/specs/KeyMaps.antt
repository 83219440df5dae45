-- The key map: for each btree a finite map from positions to values. What updates make of it, what a query asks of it,
-- and when it gives looks.
use Rattle.std.specs.Prelude.{◌≡◌, ◌==◌, Bool, ◌&&◌, if◌then◌else◌, Option, Some, option_map, List, [], ◌∷◌, map, All, slice_get}
use Rattle.std.specs.List.{filter}
use Rattle.std.specs.Option.{option_to_list}
use Rattle.std.specs.Ordering.{is_le}
use Rattle.vol_types.specs.declared.keys.Key.{Key}
use Rattle.vol_types.specs.declared.keys.Update.{Update}
use Rattle.vol_types.specs.declared.positions.Btree.{Btree}
use Rattle.vol_types.specs.declared.positions.Btree.TheVariants.{Extents, Inodes, Dirents, Subvols, Snapshots, Alloc, Backptrs, Deleted, Counters}
use Rattle.vol_types.specs.declared.positions.Pos.{Pos}
use Rattle.vol_types.specs.declared.queries.Look.{Look}
use Rattle.vol_types.specs.declared.queries.Query.{Query}
use Rattle.vol_types.specs.declared.queries.Query.TheVariants.{At, Starting, Span}
use Rattle.vol_types.specs.declared.values.Value.{Value}
use Rattle.vol_types.specs.Btrees.{btree_code}
use Rattle.vol_types.specs.Maps.{IsMap, value_at, put_at}
use Rattle.vol_types.specs.Positions.{pos_cmp, is_within}

-- values, each at its position, in the order of positions
abbrev pub Entries : Type 0
Entries = List (Pos × Value)

-- the entries of each btree; a record of lists and not a function, so that it can be the model of a type
pub record KeyMap : Type 0 where
  pub extents : Entries
  pub inodes : Entries
  pub dirents : Entries
  pub subvols : Entries
  pub snapshots : Entries
  pub alloc : Entries
  pub backptrs : Entries
  pub deleted : Entries
  pub counters : Entries

-- the entries of a btree
abbrev pub entries_of : KeyMap → Btree → Entries
entries_of keys Extents = keys.extents
entries_of keys Inodes = keys.inodes
entries_of keys Dirents = keys.dirents
entries_of keys Subvols = keys.subvols
entries_of keys Snapshots = keys.snapshots
entries_of keys Alloc = keys.alloc
entries_of keys Backptrs = keys.backptrs
entries_of keys Deleted = keys.deleted
entries_of keys Counters = keys.counters

-- the key map that has these entries in each btree
abbrev pub key_map : (Btree → Entries) → KeyMap
key_map entries = record {
  extents = entries Extents;
  inodes = entries Inodes;
  dirents = entries Dirents;
  subvols = entries Subvols;
  snapshots = entries Snapshots;
  alloc = entries Alloc;
  backptrs = entries Backptrs;
  deleted = entries Deleted;
  counters = entries Counters;
}

-- the value at a position of a btree
abbrev pub value_in : KeyMap → Btree → Pos → Option Value
value_in keys btree pos = value_at pos_cmp pos (entries_of keys btree)

-- The entries of each btree are a finite map.
pub record IsKeyMap (keys : KeyMap) : Type 0 where
  pub rises : (btree : Btree) → IsMap pos_cmp (entries_of keys btree)

-- whether an update is one of the keys of a btree; those above level 0 are of pointers to nodes
abbrev pub is_update_of : Btree → Update → Bool
is_update_of btree update = update.level == 0 && btree_code update.btree == btree_code btree

-- a btree's entries after an update
abbrev pub updated_entries : Btree → Update → Entries → Entries
updated_entries btree update entries = if is_update_of btree update then put_at pos_cmp update.pos update.value entries else entries

-- the key map after an update
unfoldable pub with_update : Update → KeyMap → KeyMap
with_update update keys = key_map (λ btree. updated_entries btree update (entries_of keys btree))

-- the key map after updates, in their order
abbrev pub with_updates : List Update → KeyMap → KeyMap
with_updates [] keys = keys
with_updates (update ∷ updates) keys = with_updates updates (with_update update keys)

-- a position with its value, as a key
abbrev pub key_of : Pos × Value → Key
key_of entry = record { pos = entry.0; value = Some entry.1 }

-- entries as keys
abbrev pub keys_in : Entries → List Key
keys_in entries = map key_of entries

-- the entry at a position, if there is one
abbrev pub entry_at : Pos → Entries → Option (Pos × Value)
entry_at pos entries = option_map (λ value. (pos, value)) (value_at pos_cmp pos entries)

-- the first entry at this position or after it, if there is one
abbrev pub first_from : Pos → Entries → Option (Pos × Value)
first_from pos entries = slice_get (filter (λ entry. is_le (pos_cmp pos entry.0)) entries) 0

-- the entries from the first position to the last one, both included
abbrev pub entries_within : Pos → Pos → Entries → Entries
entries_within first last entries = filter (λ entry. is_within first last entry.0) entries

-- the keys that a query asks for
abbrev pub answer_of : Query → KeyMap → List Key
answer_of (At btree pos) keys = keys_in (option_to_list (entry_at pos (entries_of keys btree)))
answer_of (Starting btree pos) keys = keys_in (option_to_list (first_from pos (entries_of keys btree)))
answer_of (Span btree first last) keys = keys_in (entries_within first last (entries_of keys btree))

-- The look has the keys that its query asks for.
abbrev pub IsLook : KeyMap → Look → Type 0
IsLook keys look = look.answer ≡ answer_of look.query keys

-- The key map gives these looks.
pub record GivesLooks (keys : KeyMap) (looks : List Look) : Type 0 where
  pub each : All (IsLook keys) looks
