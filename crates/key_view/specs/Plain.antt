-- The key map that maps in memory are.
use Rattle.std.specs.Prelude.{[]}
use Rattle.key_view.specs.declared.plain_keys.PlainKeys.{PlainKeys}
use Rattle.vol_types.specs.KeyMaps.{KeyMap, key_map}

-- the key map of nine maps
abbrev pub key_map_of : PlainKeys → KeyMap
key_map_of plain = record {
  extents = plain.extents.entries;
  inodes = plain.inodes.entries;
  dirents = plain.dirents.entries;
  subvols = plain.subvols.entries;
  snapshots = plain.snapshots.entries;
  alloc = plain.alloc.entries;
  backptrs = plain.backptrs.entries;
  deleted = plain.deleted.entries;
  counters = plain.counters.entries;
}

-- the key map without keys
abbrev pub no_keys : KeyMap
no_keys = key_map (λ btree. [])
