-- The key map of a fresh volume.
use Rattle.std.specs.Prelude.{ℕ, false, List, [], ◌∷◌, codes}
use Rattle.plain_forest.specs.Forest.{first_root}
use Rattle.vol_digest.specs.Digests.{slot_of}
use Rattle.vol_types.specs.KeyMaps.{KeyMap}
use Rattle.vol_types.specs.declared.positions.Pos.{Pos}
use Rattle.vol_types.specs.declared.values.FileKind.TheVariants.{Directory}
use Rattle.vol_types.specs.declared.values.Sub.{Sub}
use Rattle.vol_types.specs.declared.values.SnapState.TheVariants.{LiveLeaf}
use Rattle.vol_types.specs.declared.values.Value.{Value}
use Rattle.vol_types.specs.declared.values.Value.TheVariants as values

-- the first snapshot id
abbrev pub first_id : ℕ
first_id = 4294967295

-- the name of the first subvolume
abbrev pub main_name : List ℕ
main_name = codes "main"

-- the first subvolume
abbrev pub main_sub : Sub
main_sub = record { id = first_id; root = first_root; read_only = false; name = main_name }

-- a value at an offset, for keys without inode and id
abbrev pub at_offset : ℕ → Value → Pos × Value
at_offset offset value = (record { inode = 0; offset = offset; snapshot = 0 }, value)

-- a counter that stands at a number
abbrev pub counter_at : ℕ → ℕ → Pos × Value
counter_at counter next = at_offset counter (values.Counter next)

-- the key map of a fresh volume: the root directory of `main` in the first id, which is a live leaf, and the counters
abbrev pub fresh_keys : KeyMap
fresh_keys = record {
  extents = [];
  inodes = (record { inode = 0; offset = first_root; snapshot = first_id }, values.Inode (record { kind = Directory; links = 1; size = 0 })) ∷ [];
  dirents = [];
  subvols = at_offset (slot_of main_name) (values.Subs (main_sub ∷ [])) ∷ [];
  snapshots = at_offset first_id (values.Snap (record { parent = 0; first_child = 0; second_child = 0; state = LiveLeaf })) ∷ [];
  alloc = [];
  backptrs = [];
  deleted = [];
  counters = counter_at 0 2 ∷ counter_at 1 1 ∷ counter_at 2 1 ∷ counter_at 3 1 ∷ counter_at 4 1 ∷ counter_at 5 1 ∷ counter_at 6 1 ∷ counter_at 7 1 ∷ counter_at 8 1
      ∷ counter_at 9 1 ∷ counter_at 10 1 ∷ counter_at 11 1 ∷ counter_at 12 1 ∷ counter_at 13 1 ∷ counter_at 14 1 ∷ counter_at 15 1 ∷ counter_at 16 4294967294 ∷ [];
}
