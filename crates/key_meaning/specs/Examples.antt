-- Small key maps that are wrong, each for one check, and two that show what a whiteout is for.
use Rattle.std.specs.Prelude.{ℕ, [], ◌∷◌, codes}
use Rattle.vol_digest.specs.Digests.{slot_of}
use Rattle.vol_types.specs.KeyMaps.{Entries, KeyMap}
use Rattle.vol_types.specs.declared.pointers.Place.{Place}
use Rattle.vol_types.specs.declared.positions.Pos.{Pos}
use Rattle.vol_types.specs.declared.values.FileKind.{FileKind}
use Rattle.vol_types.specs.declared.values.FileKind.TheVariants.{File, Directory}
use Rattle.vol_types.specs.declared.values.SnapState.{SnapState}
use Rattle.vol_types.specs.declared.values.SnapState.TheVariants.{Interior, LiveLeaf}
use Rattle.vol_types.specs.declared.values.Value.{Value}
use Rattle.vol_types.specs.declared.values.Value.TheVariants as values
use Rattle.key_meaning.specs.Fresh.{at_offset, first_id, fresh_keys, main_name, main_sub}

-- a value of the first id at an inode and an offset
abbrev pub in_first : ℕ → ℕ → Value → Pos × Value
in_first inode offset value = (record { inode = inode; offset = offset; snapshot = first_id }, value)

-- an inode without bytes
abbrev pub empty_inode : FileKind → Value
empty_inode kind = values.Inode (record { kind = kind; links = 1; size = 0 })

-- the record of a snapshot id without a second child
abbrev pub snap_key : ℕ → ℕ → ℕ → SnapState → Pos × Value
snap_key id parent child state = at_offset id (values.Snap (record { parent = parent; first_child = child; second_child = 0; state = state }))

-- one name `a`, of the file 2
abbrev pub name_a : Value
name_a = values.Names (record { number = 2; kind = File; name = codes "a" } ∷ [])

-- an extent of one block, which is the first of a bucket of device 0
abbrev pub one_block : ℕ → Value
one_block bucket = values.Extent (record { pointers = record { place = record { dev = 0; block = bucket }; generation = 0 } ∷ []; digests = 0 ∷ [] })

-- an id whose parent doesn't name it as its child
abbrev pub unnamed_child : KeyMap
unnamed_child = record fresh_keys { snapshots = snap_key 5 first_id 0 LiveLeaf ∷ snap_key first_id 0 0 LiveLeaf ∷ [] }

-- two subvolumes with one id
abbrev pub shared_id : KeyMap
shared_id = record fresh_keys { subvols = at_offset (slot_of main_name) (values.Subs (main_sub ∷ main_sub ∷ [])) ∷ [] }

-- two holes of a file that both cover its block 2
abbrev pub overlapping : KeyMap
overlapping = record fresh_keys { extents = in_first 1 4 (values.Hole 2) ∷ in_first 1 5 (values.Hole 3) ∷ [] }

-- a name that leads to no inode
abbrev pub dangling : KeyMap
dangling = record fresh_keys { dirents = in_first 1 (slot_of (codes "a")) name_a ∷ [] }

-- a file without a name
abbrev pub unnamed_file : KeyMap
unnamed_file = record fresh_keys { inodes = in_first 0 1 (empty_inode Directory) ∷ in_first 0 2 (empty_inode File) ∷ [] }

-- a directory without a name, which isn't the root
abbrev pub unnamed_directory : KeyMap
unnamed_directory = record fresh_keys { inodes = in_first 0 1 (empty_inode Directory) ∷ in_first 0 2 (empty_inode Directory) ∷ [] }

-- an extent in the bucket of a superblock
abbrev pub over_superblock : KeyMap
over_superblock = record fresh_keys { extents = in_first 1 1 (one_block 8) ∷ [] }

-- the bucket of the superblocks of device 0
abbrev pub superblocks : Place
superblocks = record { dev = 0; block = 0 }

-- an extent whose bucket no key counts
abbrev pub uncounted : KeyMap
uncounted = record fresh_keys { extents = in_first 1 1 (one_block 640) ∷ [] }

-- a name `a` in the root of an id, which its child has removed in this way
abbrev pub below_named : Entries → KeyMap
below_named own = record fresh_keys {
  inodes = (record { inode = 0; offset = 1; snapshot = first_id }, empty_inode Directory) ∷ [];
  dirents = own;
  snapshots = snap_key 5 first_id 0 LiveLeaf ∷ snap_key first_id 0 5 Interior ∷ [];
}

-- removed with a whiteout
abbrev pub whited : KeyMap
whited = below_named ((record { inode = 1; offset = slot_of (codes "a"); snapshot = 5 }, values.White) ∷ in_first 1 (slot_of (codes "a")) name_a ∷ [])

-- removed without one
abbrev pub unwhited : KeyMap
unwhited = below_named (in_first 1 (slot_of (codes "a")) name_a ∷ [])
