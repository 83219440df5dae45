-- How large the leaves of btrees are that updates touch, by the births of the leaves.
use Rattle.std.specs.Prelude.{ℕ, List, [], ◌∷◌, map, unwrap_or}
use Rattle.std.specs.List.{filter, flat_map}
use Rattle.birth_index.specs.Births.{birth_of}
use Rattle.btree_map.specs.Trees.{Trees, cut_in}
use Rattle.btree_map.specs.declared.sizes.NodeSize.{NodeSize}
use Rattle.tree_keys.specs.Sizes.{sizes_after}
use Rattle.tree_keys.specs.declared.sizing.LeafSize.{LeafSize}
use Rattle.vol_types.specs.KeyMaps.{is_update_of}
use Rattle.vol_types.specs.declared.keys.Key.{Key}
use Rattle.vol_types.specs.declared.keys.Update.{Update}
use Rattle.vol_types.specs.declared.positions.Btree.{Btree}
use Rattle.vol_types.specs.declared.positions.Btree.TheVariants.{Extents, Inodes, Dirents, Subvols, Snapshots, Alloc, Backptrs, Deleted, Counters}
use Rattle.vol_types.specs.declared.positions.Pos.{Pos}

-- the btrees in the order of their numbers
abbrev pub all_btrees : List Btree
all_btrees = Extents ∷ Inodes ∷ Dirents ∷ Subvols ∷ Snapshots ∷ Alloc ∷ Backptrs ∷ Deleted ∷ Counters ∷ []

-- the change of keys that an update of a leaf is
abbrev pub change_of : Update → Key
change_of update = record { pos = update.pos; value = update.value }

-- the changes that updates make to the keys of a btree; those of levels above the leaves make none
abbrev pub changes_in : Btree → List Update → List Key
changes_in btree updates = map change_of (filter (is_update_of btree) updates)

-- the birth of the leaf of a btree that ends at a position, or 0 where none does
abbrev pub leaf_birth : Trees → Btree → Pos → ℕ
leaf_birth trees btree end = unwrap_or (birth_of trees.nodes (record { btree = btree; level = 0; greatest = end })) 0

-- leaves of a btree with their sizes, by their births
abbrev pub node_sizes : Trees → Btree → List LeafSize → List NodeSize
node_sizes trees btree leaves = map (λ leaf. record { birth = leaf_birth trees btree leaf.end; size = leaf.size }) leaves

-- the leaves of a btree that updates touch, in order, each with the size that it would have with all of them
abbrev pub sizes_in : Trees → List Update → Btree → List NodeSize
sizes_in trees updates btree = node_sizes trees btree (sizes_after (changes_in btree updates) (cut_in trees btree))

-- the leaves that updates touch, btree by btree, each with the size that it would have with all of them
abbrev pub sizes_of_updates : Trees → List Update → List NodeSize
sizes_of_updates trees updates = flat_map (sizes_in trees updates) all_btrees
