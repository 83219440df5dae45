-- The numbers of the btrees on disk.
use Rattle.std.specs.Prelude.{ℕ}
use Rattle.vol_types.specs.declared.positions.Btree.{Btree}
use Rattle.vol_types.specs.declared.positions.Btree.TheVariants.{Extents, Inodes, Dirents, Subvols, Snapshots, Alloc, Backptrs, Deleted, Counters}

-- a btree's number
abbrev pub btree_code : Btree → ℕ
btree_code Extents = 0
btree_code Inodes = 1
btree_code Dirents = 2
btree_code Subvols = 3
btree_code Snapshots = 4
btree_code Alloc = 5
btree_code Backptrs = 6
btree_code Deleted = 7
btree_code Counters = 8
