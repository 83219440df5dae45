-- What holds of the key map of a volume that nobody else wrote, besides that it is sound: six further facts.
use Rattle.std.specs.Prelude.{◌≡◌, ◌⊎◌, ℕ, ◌*◌, ◌/◌, ◌%◌, ◌^◌, ◌<◌, ◌≤◌, true, false, None, Some, IsSome, All, ⊤}
use Rattle.std.specs.Int.{IsInRange}
use Rattle.plain_forest.specs.Names.{is_good_name, is_good_subvolume_name}
use Rattle.plain_forest.specs.Steps.{numbers_per_client}
use Rattle.vol_digest.specs.Digests.{slot_of}
use Rattle.vol_types.specs.KeyMaps.{KeyMap, entries_of, value_in}
use Rattle.vol_types.specs.Limits.{block_size}
use Rattle.vol_types.specs.Ranges.{IsValue}
use Rattle.vol_types.specs.Standing.{MayStand}
use Rattle.vol_types.specs.declared.positions.Btree.{Btree}
use Rattle.vol_types.specs.declared.positions.Btree.TheVariants.{Extents, Inodes, Dirents, Subvols, Snapshots, Alloc, Backptrs, Deleted, Counters}
use Rattle.vol_types.specs.declared.positions.Pos.{Pos}
use Rattle.vol_types.specs.declared.values.FileKind.TheVariants.{File}
use Rattle.vol_types.specs.declared.values.Inode.{Inode}
use Rattle.vol_types.specs.declared.values.Link.{Link}
use Rattle.vol_types.specs.declared.values.Sub.{Sub}
use Rattle.vol_types.specs.declared.values.Value.{Value}
use Rattle.vol_types.specs.declared.values.Value.TheVariants as values
use Rattle.snap_tree.specs.Snaps.{is_ancestor_of}
use Rattle.key_meaning.specs.Blocks.{block_in}
use Rattle.key_meaning.specs.Checks.{IsLiveLeaf}
use Rattle.key_meaning.specs.Forest.{counter_in, inode_in, kind_in, links_of, next_in, subs_of}
use Rattle.key_meaning.specs.Visible.{snaps_of}

-- Fact 1: positions, numbers and counters.

-- the counter of the snapshot ids, behind those of the 16 clients
abbrev pub id_counter : ℕ
id_counter = 16

-- The position is of the form that keys of the btree have.
abbrev pub IsPlaceIn : Btree → Pos → Type 0
IsPlaceIn Extents pos = ⊤
IsPlaceIn Inodes pos = pos.inode ≡ 0
IsPlaceIn Dirents pos = ⊤
IsPlaceIn Subvols pos = (pos.inode ≡ 0) × (pos.snapshot ≡ 0)
IsPlaceIn Snapshots pos = (pos.inode ≡ 0) × (pos.snapshot ≡ 0) × (pos.offset < 2 ^ 32)
IsPlaceIn Alloc pos = pos.snapshot ≡ 0
IsPlaceIn Backptrs pos = pos.snapshot ≡ 0
IsPlaceIn Deleted pos = pos.inode ≡ 0
IsPlaceIn Counters pos = (pos.inode ≡ 0) × (pos.snapshot ≡ 0) × (pos.offset ≤ id_counter)

-- The inode number is one that a client has drawn.
pub record IsDrawn (keys : KeyMap) (number : ℕ) : Type 0 where
  pub client : number / numbers_per_client < 16
  pub count : number % numbers_per_client < next_in keys (number / numbers_per_client)

-- The inode numbers that an entry of the btree names are drawn: at its position and in its value.
abbrev pub HasDrawn : KeyMap → Btree → Pos × Value → Type 0
HasDrawn keys Extents entry = IsDrawn keys entry.0.inode
HasDrawn keys Inodes entry = IsDrawn keys entry.0.offset
HasDrawn keys Dirents entry = IsDrawn keys entry.0.inode × All (λ link. IsDrawn keys link.number) (links_of (Some entry.1))
HasDrawn keys Subvols entry = All (λ sub. IsDrawn keys sub.root) (subs_of (Some entry.1))
HasDrawn keys Snapshots entry = ⊤
HasDrawn keys Alloc entry = ⊤
HasDrawn keys Backptrs entry = (extent : Pos) → entry.1 ≡ values.Back extent → IsDrawn keys extent.inode
HasDrawn keys Deleted entry = IsDrawn keys entry.0.offset
HasDrawn keys Counters entry = ⊤

-- The entry is a key of the btree: its value is one of the btree's and in range, at a position of the btree's form,
-- with an id of 32 bits, and the inode numbers that it names are drawn.
pub record IsKeyOf (keys : KeyMap) (btree : Btree) (entry : Pos × Value) : Type 0 where
  pub stands : MayStand btree 0 entry.1
  pub in_range : IsValue entry.1
  pub place : IsPlaceIn btree entry.0
  pub id : entry.0.snapshot < 2 ^ 32
  pub numbers : HasDrawn keys btree entry

-- The counter stands at a number from the first to the last.
pub record IsCounterFrom (keys : KeyMap) (first last counter : ℕ) : Type 0 where
  pub there : IsSome (counter_in keys counter)
  pub in_range : IsInRange first last (next_in keys counter)

-- Each key is one of its btree, each snapshot id was drawn, and all counters are there.
pub record AreKeysDrawn (keys : KeyMap) : Type 0 where
  pub each : (btree : Btree) → All (IsKeyOf keys btree) (entries_of keys btree)
  pub ids : All (λ entry. next_in keys id_counter < entry.0.offset) keys.snapshots
  pub clients : (client : ℕ) → client < 16 → IsCounterFrom keys 1 numbers_per_client client
  pub id_counter_there : IsCounterFrom keys 0 4294967294 id_counter

-- Fact 2: names.

-- The names of the subvolumes in an entry are good, and stand under their slot.
abbrev pub HasGoodSubvolumes : Pos × Value → Type 0
HasGoodSubvolumes entry = All (λ (sub : Sub). (slot_of sub.name ≡ entry.0.offset) × (is_good_subvolume_name sub.name ≡ true)) (subs_of (Some entry.1))

-- The names in an entry are good.
abbrev pub HasGoodNames : Pos × Value → Type 0
HasGoodNames entry = All (λ (link : Link). is_good_name link.name ≡ true) (links_of (Some entry.1))

-- All names are good, and each subvolume's stands under its slot.
pub record AreNamesGood (keys : KeyMap) : Type 0 where
  pub subvolumes : All HasGoodSubvolumes keys.subvols
  pub names : All HasGoodNames keys.dirents

-- Fact 3: inodes that came into being below an id.

-- No extent or hole of the number stands in the id or its ancestors.
abbrev pub HasNoBlocks : KeyMap → ℕ → ℕ → Type 0
HasNoBlocks keys id number = All (λ entry. entry.0.inode ≡ number → is_ancestor_of (snaps_of keys) entry.0.snapshot id ≡ false) keys.extents

-- Where a number shows no inode in an id but does in a descendant, no extent or hole of it stands in the id or its ancestors.
pub record AreBlocksBelow (keys : KeyMap) : Type 0 where
  pub each : (id descendant number : ℕ) → is_ancestor_of (snaps_of keys) id descendant ≡ true → inode_in keys id number ≡ None → IsSome (inode_in keys descendant number) → HasNoBlocks keys id number

-- Fact 4: the ends of files.

-- In a live leaf no block of a file shows at or behind the file's end.
pub record DoFilesEnd (keys : KeyMap) : Type 0 where
  pub each : (id number block : ℕ) (inode : Inode) → IsLiveLeaf keys id → inode_in keys id number ≡ Some inode → inode.size ≤ block * block_size → block_in keys id number block ≡ None

-- Fact 5: files that are gone.

-- The number of a file that is gone shows no inode in its id.
pub record AreGone (keys : KeyMap) : Type 0 where
  pub each : All (λ entry. inode_in keys entry.0.snapshot entry.0.offset ≡ None) keys.deleted

-- Fact 6: owners of blocks.

-- The number is noted as that of a file that is gone in the id.
abbrev pub IsNoted : KeyMap → ℕ → ℕ → Type 0
IsNoted keys id number = IsSome (value_in keys Deleted (record { inode = 0; offset = number; snapshot = id }))

-- The number of an extent or hole shows a file in its id, or is noted as gone there.
abbrev pub HasOwner : KeyMap → Pos × Value → Type 0
HasOwner keys entry = (kind_in keys entry.0.snapshot entry.0.inode ≡ Some File) ⊎ IsNoted keys entry.0.snapshot entry.0.inode

-- All extents and holes have an owner, so that no blocks are lost.
pub record AreBlocksOwned (keys : KeyMap) : Type 0 where
  pub each : All (HasOwner keys) keys.extents

-- The key map is tidy: the six facts hold.
pub record IsTidy (keys : KeyMap) : Type 0 where
  pub drawn : AreKeysDrawn keys
  pub named : AreNamesGood keys
  pub below : AreBlocksBelow keys
  pub ends : DoFilesEnd keys
  pub gone : AreGone keys
  pub owned : AreBlocksOwned keys
