-- The eight checks of a sound volume.
use Rattle.std.specs.Prelude.{◌≡◌, ◌≢◌, ◌⊎◌, ◌↔◌, ℕ, ◌+◌, ◌/◌, ◌%◌, ◌<◌, zero, suc, ◌≤◌, ⊤, ◌==◌, Bool, true, false, ◌&&◌, nat_lt, if◌then◌else◌, Ok, Option, None, Some, IsSome, List, [], map, flat_map, All, sum_by, count_by, slice_index, option_map, unwrap_or}
use Rattle.std.specs.List.{list_any, range_with_len}
use Rattle.std.specs.Ordering.{nat_cmp}
use Rattle.plain_forest.specs.Forest.{Names, Tree}
use Rattle.plain_forest.specs.Steps.{walk}
use Rattle.vol_digest.specs.Digests.{slot_of}
use Rattle.vol_types.specs.KeyMaps.{KeyMap, Entries, value_in}
use Rattle.vol_types.specs.Limits.{bucket_blocks}
use Rattle.vol_types.specs.Maps.{value_at}
use Rattle.vol_types.specs.declared.layout.Layout.{Layout}
use Rattle.vol_types.specs.declared.pointers.Place.{Place}
use Rattle.vol_types.specs.declared.pointers.Pointer.{Pointer}
use Rattle.vol_types.specs.declared.positions.Btree.TheVariants.{Extents, Alloc, Backptrs}
use Rattle.vol_types.specs.declared.positions.Pos.{Pos}
use Rattle.vol_types.specs.declared.values.FileKind.TheVariants.{File, Directory}
use Rattle.vol_types.specs.declared.values.Inode.{Inode}
use Rattle.vol_types.specs.declared.values.Link.{Link}
use Rattle.vol_types.specs.declared.values.Live.{Live}
use Rattle.vol_types.specs.declared.values.Snap.{Snap}
use Rattle.vol_types.specs.declared.values.SnapState.TheVariants.{LiveLeaf, Interior}
use Rattle.vol_types.specs.declared.values.Sub.{Sub}
use Rattle.vol_types.specs.declared.values.Value.{Value}
use Rattle.vol_types.specs.declared.values.Value.TheVariants as values
use Rattle.snap_tree.specs.Snaps.{Snaps}
use Rattle.key_meaning.specs.Blocks.{blocks_of, covers, place_at}
use Rattle.key_meaning.specs.Forest.{Read, all_subs, directories_in, inode_in, kind_in, links_in, tree_of}
use Rattle.key_meaning.specs.Visible.{own_value, snaps_of}

-- Check 1: the trees of snapshot ids.

-- The id's parent is there, is greater, and names it as a child; 0 names none.
pub record IsUnder (snaps : Snaps) (id parent : ℕ) : Type 0 where
  pub some : id ≢ 0
  pub snap : Snap
  pub found : value_at nat_cmp parent snaps ≡ Some snap
  pub greater : id < parent
  pub named : (snap.first_child ≡ id) ⊎ (snap.second_child ≡ id)

-- The id's child is there, and names it as its parent.
pub record IsOver (snaps : Snaps) (id child : ℕ) : Type 0 where
  pub snap : Snap
  pub found : value_at nat_cmp child snaps ≡ Some snap
  pub named : snap.parent ≡ id

-- The id with this record is joined to its parent and its children, where it has some; two children are two, and a leaf has none.
pub record IsJoined (snaps : Snaps) (id : ℕ) (snap : Snap) : Type 0 where
  pub parent : snap.parent ≢ 0 → IsUnder snaps id snap.parent
  pub first : snap.first_child ≢ 0 → IsOver snaps id snap.first_child
  pub second : snap.second_child ≢ 0 → IsOver snaps id snap.second_child
  pub apart : snap.first_child ≢ 0 → snap.second_child ≢ snap.first_child
  pub leaf : snap.state ≢ Interior → (snap.first_child ≡ 0) × (snap.second_child ≡ 0)

-- The trees of snapshot ids are joined: each id to its parent and its children.
pub record AreTreesJoined (keys : KeyMap) : Type 0 where
  pub each : (id : ℕ) (snap : Snap) → value_at nat_cmp id (snaps_of keys) ≡ Some snap → IsJoined (snaps_of keys) id snap

-- Check 2: subvolumes and live leaves.

-- The id is a live leaf: the current id of a subvolume.
pub record IsLiveLeaf (keys : KeyMap) (id : ℕ) : Type 0 where
  pub snap : Snap
  pub found : value_at nat_cmp id (snaps_of keys) ≡ Some snap
  pub live : snap.state ≡ LiveLeaf

-- The number stands for a directory in the id.
abbrev pub IsDirectory : KeyMap → ℕ → ℕ → Type 0
IsDirectory keys id number = kind_in keys id number ≡ Some Directory

-- The subvolume's id is a live leaf, and its root is a directory there.
pub record IsSubvolume (keys : KeyMap) (sub : Sub) : Type 0 where
  pub leaf : IsLiveLeaf keys sub.id
  pub root : IsDirectory keys sub.id sub.root

-- how many subvolumes have this id
abbrev pub count_with_id : KeyMap → ℕ → ℕ
count_with_id keys id = count_by (λ sub. sub.id == id) (all_subs keys)

-- Subvolumes and live leaves match: each subvolume has a live leaf, and each live leaf one subvolume.
pub record DoLeavesMatch (keys : KeyMap) : Type 0 where
  pub subvolumes : All (IsSubvolume keys) (all_subs keys)
  pub leaves : (id : ℕ) → IsLiveLeaf keys id → count_with_id keys id ≡ 1

-- Check 3: extents don't overlap.

-- The snapshot id of each of these keys is there.
abbrev pub AreIdsThere : KeyMap → Entries → Type 0
AreIdsThere keys entries = All (λ entry. IsSome (value_at nat_cmp entry.0.snapshot (snaps_of keys))) entries

-- The range of blocks that an entry covers begins at 0 or later.
abbrev pub HasRoom : Pos × Value → Type 0
HasRoom entry = blocks_of entry.1 ≤ entry.0.offset

-- Each block of a file is covered in one id itself by one extent or hole at most.
pub record IsCoveredOnce (keys : KeyMap) (file id : ℕ) : Type 0 where
  pub once : (block first second : ℕ) (one other : Value) → own_value keys Extents file first id ≡ Some one → own_value keys Extents file second id ≡ Some other
      → covers first one block ≡ true → covers second other block ≡ true → first ≡ second

-- The ids of all keys that have one are there, and the extents and holes of a file in one id don't overlap.
pub record AreExtentsApart (keys : KeyMap) : Type 0 where
  pub extents : AreIdsThere keys keys.extents
  pub inodes : AreIdsThere keys keys.inodes
  pub dirents : AreIdsThere keys keys.dirents
  pub deleted : AreIdsThere keys keys.deleted
  pub room : All HasRoom keys.extents
  pub apart : (file id : ℕ) → IsCoveredOnce keys file id

-- Check 4: names and inodes.

-- The name stands under its slot in a directory, and leads to an inode of its kind.
pub record IsNameJoined (keys : KeyMap) (id directory slot : ℕ) (link : Link) : Type 0 where
  pub under_slot : slot_of link.name ≡ slot
  pub in_directory : IsDirectory keys id directory
  pub leads_to : kind_in keys id link.number ≡ Some link.kind

-- In each live leaf every name that shows stands under its slot in a directory, and leads to an inode of its kind.
pub record AreNamesJoined (keys : KeyMap) : Type 0 where
  pub each : (id directory slot : ℕ) → IsLiveLeaf keys id → All (IsNameJoined keys id directory slot) (links_in keys id directory slot)

-- Check 5: counts of links.

-- how many names of some directories lead to a number
abbrev pub count_names : List (ℕ × Names) → ℕ → ℕ
count_names directories number = sum_by (λ directory. count_by (λ name. name.1 == number) directory.1) directories

-- how many names that show in an id lead to a number
abbrev pub names_to : KeyMap → ℕ → ℕ → ℕ
names_to keys id number = count_names (directories_in keys id) number

-- In each live leaf the links of every file are the number of its names.
pub record AreLinksCounted (keys : KeyMap) : Type 0 where
  pub each : (id number : ℕ) (inode : Inode) → IsLiveLeaf keys id → inode_in keys id number ≡ Some inode → inode.kind ≡ File → inode.links ≡ names_to keys id number

-- Check 6: the tree of directories.

-- Some names lead to the number from the root.
pub record IsAtPath (tree : Tree) (number : ℕ) : Type 0 where
  pub names : List (List ℕ)
  pub leads : walk tree names tree.root ≡ Ok number

-- The number stands for a directory of the tree.
abbrev pub IsDirectoryOf : Tree → ℕ → Type 0
IsDirectoryOf tree number = IsSome (value_at nat_cmp number tree.directories)

-- The directories form a tree: no name leads to the root, one name to every other directory, and each is below the root.
pub record IsRooted (tree : Tree) : Type 0 where
  pub root : count_names tree.directories tree.root ≡ 0
  pub named : (number : ℕ) → IsDirectoryOf tree number → number ≢ tree.root → count_names tree.directories number ≡ 1
  pub below : (number : ℕ) → IsDirectoryOf tree number → IsAtPath tree number

-- The directories of each subvolume form a tree with its root on top.
pub record AreDirectoriesTrees (keys : KeyMap) : Type 0 where
  pub each : (read : Read) → All (λ sub. IsRooted (tree_of keys read sub)) (all_subs keys)

-- Check 7: where blocks lie.

-- whether a place lies in a bucket of a device
abbrev pub is_in_bucket : ℕ → ℕ → Place → Bool
is_in_bucket dev bucket place = place.dev == dev && place.block / bucket_blocks == bucket

-- how many of some places lie in a bucket
abbrev pub count_in_bucket : List Place → ℕ → ℕ → ℕ
count_in_bucket places dev bucket = count_by (is_in_bucket dev bucket) places

-- how many buckets at the beginning of a device are for the superblock and, on a metadata device, for the journal
abbrev pub kept_buckets : Layout → ℕ → ℕ
kept_buckets layout dev = if nat_lt dev layout.metadata_replicas then 1 + layout.journal / bucket_blocks else 1

-- So many blocks behind a pointer lie in one bucket of its device, which is no superblock, journal or node bucket.
pub record IsWellPlaced (nodes : List Place) (layout : Layout) (blocks : ℕ) (pointer : Pointer) : Type 0 where
  pub one_bucket : pointer.place.block % bucket_blocks + blocks ≤ bucket_blocks
  pub on_device : pointer.place.block + blocks ≤ slice_index layout.blocks pointer.place.dev
  pub for_users : kept_buckets layout pointer.place.dev ≤ pointer.place.block / bucket_blocks
  pub for_no_node : count_in_bucket nodes pointer.place.dev (pointer.place.block / bucket_blocks) ≡ 0

-- the pointers of a value, if it is an extent
abbrev pub pointers_of : Value → List Pointer
pointers_of (values.Extent extent) = extent.pointers
pointers_of other = []

-- The pointers of an entry are well placed.
abbrev pub HasWellPlaced : List Place → Layout → Pos × Value → Type 0
HasWellPlaced nodes layout entry = All (IsWellPlaced nodes layout (blocks_of entry.1)) (pointers_of entry.1)

-- the places of the blocks behind a pointer
abbrev pub places_behind : ℕ → Pointer → List Place
places_behind blocks pointer = map (λ index. place_at index pointer) (range_with_len 0 blocks)

-- the places that a value uses
abbrev pub places_of : Value → List Place
places_of value = flat_map (places_behind (blocks_of value)) (pointers_of value)

-- the places that all extents use, each as often as it is used
abbrev pub used_places : KeyMap → List Place
used_places keys = flat_map (λ entry. places_of entry.1) keys.extents

-- whether it is this place
abbrev pub is_place : Place → Place → Bool
is_place place other = place.dev == other.dev && place.block == other.block

-- A node's bucket is no superblock or journal bucket, and lies inside its device.
pub record IsNodePlaced (layout : Layout) (place : Place) : Type 0 where
  pub behind : kept_buckets layout place.dev ≤ place.block / bucket_blocks
  pub on_device : place.block + bucket_blocks ≤ slice_index layout.blocks place.dev

-- Nodes lie where nodes may, and no two share a bucket.
pub record AreNodesPlaced (nodes : List Place) (layout : Layout) : Type 0 where
  pub each : All (IsNodePlaced layout) nodes
  pub apart : (dev bucket : ℕ) → count_in_bucket nodes dev bucket ≤ 1

-- Pointers' blocks lie in buckets of users, none is used twice, and nodes lie where they may, each in a bucket of its own.
pub record AreBlocksPlaced (keys : KeyMap) (nodes : List Place) (layout : Layout) : Type 0 where
  pub placed : All (HasWellPlaced nodes layout) keys.extents
  pub blocks : (place : Place) → count_by (is_place place) (used_places keys) ≤ 1
  pub nodes_placed : AreNodesPlaced nodes layout

-- Check 8: the keys on space.

-- the state of a bucket that a value holds
abbrev pub live_of : Option Value → Option Live
live_of (Some (values.Live live)) = Some live
live_of other = None

-- the state of a bucket
abbrev pub live_in : KeyMap → ℕ → ℕ → Option Live
live_in keys dev bucket = live_of (value_in keys Alloc (record { inode = dev; offset = bucket; snapshot = 0 }))

-- how many blocks of a bucket are used, as its key says; none where it has no key
abbrev pub live_blocks : KeyMap → ℕ → ℕ → ℕ
live_blocks keys dev bucket = unwrap_or (option_map (λ live. live.blocks) (live_in keys dev bucket)) 0

-- The pointer's generation is that of its bucket.
abbrev pub IsOfGeneration : KeyMap → Pointer → Type 0
IsOfGeneration keys pointer = option_map (λ live. live.generation) (live_in keys pointer.place.dev (pointer.place.block / bucket_blocks)) ≡ Some pointer.generation

-- A key of a bucket in use stands at the bucket's position.
pub record IsBucketKey (entry : Pos × Value) : Type 0 where
  pub in_use : (live : Live) → entry.1 ≡ values.Live live → live.blocks ≢ 0 → entry.0.snapshot ≡ 0

-- the position of an extent that a value holds
abbrev pub back_of : Option Value → Option Pos
back_of (Some (values.Back extent)) = Some extent
back_of other = None

-- the extent of which a copy begins at a block of a device, as the block's key says
abbrev pub back_in : KeyMap → ℕ → ℕ → Option Pos
back_in keys dev block = back_of (value_in keys Backptrs (record { inode = dev; offset = block; snapshot = 0 }))

-- whether a copy of an extent begins at a block of a device
abbrev pub has_pointer_at : ℕ → ℕ → Option Value → Bool
has_pointer_at dev block None = false
has_pointer_at dev block (Some value) = list_any (λ pointer. pointer.place.dev == dev && pointer.place.block == block) (pointers_of value)

-- The keys on space are the inverse of the extents: those of buckets in use have their numbers of used blocks and their
-- pointers' generation, and those of blocks lead back from each pointer to its extent.
pub record IsSpaceCounted (keys : KeyMap) : Type 0 where
  pub blocks : (dev bucket : ℕ) → live_blocks keys dev bucket ≡ count_in_bucket (used_places keys) dev bucket
  pub generations : All (λ entry. All (IsOfGeneration keys) (pointers_of entry.1)) keys.extents
  pub buckets : All IsBucketKey keys.alloc
  pub back : (dev block : ℕ) (extent : Pos) → (back_in keys dev block ≡ Some extent) ↔ (has_pointer_at dev block (value_in keys Extents extent) ≡ true)
  pub back_keys : All (λ entry. entry.0.snapshot ≡ 0) keys.backptrs

-- The key map, with nodes at these places of a volume that lies so, is sound: all eight checks hold.
pub record IsSound (keys : KeyMap) (nodes : List Place) (layout : Layout) : Type 0 where
  pub trees : AreTreesJoined keys
  pub leaves : DoLeavesMatch keys
  pub extents : AreExtentsApart keys
  pub names : AreNamesJoined keys
  pub links : AreLinksCounted keys
  pub directories : AreDirectoriesTrees keys
  pub blocks : AreBlocksPlaced keys nodes layout
  pub space : IsSpaceCounted keys

-- The check with this number, from 1 to 8, holds; there are no others.
abbrev pub Check : ℕ → KeyMap → List Place → Layout → Type 0
Check zero keys nodes layout = ⊤
Check (suc zero) keys nodes layout = AreTreesJoined keys
Check (suc (suc zero)) keys nodes layout = DoLeavesMatch keys
Check (suc (suc (suc zero))) keys nodes layout = AreExtentsApart keys
Check (suc (suc (suc (suc zero)))) keys nodes layout = AreNamesJoined keys
Check (suc (suc (suc (suc (suc zero))))) keys nodes layout = AreLinksCounted keys
Check (suc (suc (suc (suc (suc (suc zero)))))) keys nodes layout = AreDirectoriesTrees keys
Check (suc (suc (suc (suc (suc (suc (suc zero))))))) keys nodes layout = AreBlocksPlaced keys nodes layout
Check (suc (suc (suc (suc (suc (suc (suc (suc zero)))))))) keys nodes layout = IsSpaceCounted keys
Check (suc (suc (suc (suc (suc (suc (suc (suc (suc more))))))))) keys nodes layout = ⊤

-- The check with this number is the first that doesn't hold.
pub record IsFirstFailed (keys : KeyMap) (nodes : List Place) (layout : Layout) (number : ℕ) : Type 0 where
  pub before : (earlier : ℕ) → earlier < number → Check earlier keys nodes layout
  pub fails : ¬ Check number keys nodes layout
