-- The kinds of values, their numbers on disk, and the btrees that they stand in.
use Rattle.std.specs.Prelude.{ℕ, List, [], ◌∷◌, IsTrue, nat_eq}
use Rattle.std.specs.List.{list_any}
use Rattle.vol_types.specs.declared.positions.Btree.{Btree}
use Rattle.vol_types.specs.declared.positions.Btree.TheVariants.{Extents, Inodes, Dirents, Subvols, Snapshots, Alloc, Backptrs, Deleted, Counters}
use Rattle.vol_types.specs.declared.values.FileKind.{FileKind}
use Rattle.vol_types.specs.declared.values.FileKind.TheVariants.{File, Directory}
use Rattle.vol_types.specs.declared.values.SnapState.{SnapState}
use Rattle.vol_types.specs.declared.values.SnapState.TheVariants.{LiveLeaf, Interior, DeadLeaf}
use Rattle.vol_types.specs.declared.values.Value.{Value}
use Rattle.vol_types.specs.declared.values.Value.TheVariants.{Inode, Names, Extent, Hole, White, Subs, Snap, Live, Back, Gone, Counter, Node}

-- the number of a kind of inode
abbrev pub file_kind_code : FileKind → ℕ
file_kind_code File = 1
file_kind_code Directory = 2

-- the number of a state of a snapshot id
abbrev pub snap_state_code : SnapState → ℕ
snap_state_code LiveLeaf = 1
snap_state_code Interior = 2
snap_state_code DeadLeaf = 3

-- the number of a value's kind
abbrev pub kind_of : Value → ℕ
kind_of (Inode inode) = 1
kind_of (Names links) = 2
kind_of (Extent extent) = 3
kind_of (Hole blocks) = 4
kind_of White = 5
kind_of (Subs subs) = 6
kind_of (Snap snap) = 7
kind_of (Live live) = 8
kind_of (Back extent) = 9
kind_of Gone = 10
kind_of (Counter next) = 11
kind_of (Node node) = 12

-- the kinds of the values in a btree's leaves
abbrev pub kinds_in : Btree → List ℕ
kinds_in Extents = 3 ∷ 4 ∷ []
kinds_in Inodes = 1 ∷ 5 ∷ []
kinds_in Dirents = 2 ∷ 5 ∷ []
kinds_in Subvols = 6 ∷ []
kinds_in Snapshots = 7 ∷ []
kinds_in Alloc = 8 ∷ []
kinds_in Backptrs = 9 ∷ []
kinds_in Deleted = 10 ∷ []
kinds_in Counters = 11 ∷ []

-- Values of this kind stand in the btree's leaves.
abbrev pub IsKindOf : Btree → ℕ → Type 0
IsKindOf btree kind = IsTrue (list_any (nat_eq kind) (kinds_in btree))
