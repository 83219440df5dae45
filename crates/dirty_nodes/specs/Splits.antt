-- Which leaf has to be split before updates are made, and where.
use Rattle.std.specs.Prelude.{◌≡◌, ◌<◌, Bool, Option, Some, true, List, nat_lt, slice_get}
use Rattle.std.specs.List.{filter}
use Rattle.birth_index.specs.Births.{birth_of}
use Rattle.birth_index.specs.declared.name.NodeName.{NodeName}
use Rattle.btree_map.specs.Sizes.{changes_in, sizes_of_updates}
use Rattle.btree_map.specs.Trees.{Trees, cut_in}
use Rattle.btree_map.specs.declared.sizes.NodeSize.{NodeSize}
use Rattle.node_mem.specs.Nodes.{middle_of, size_of, with_keys}
use Rattle.tree_keys.specs.Cuts.{is_end, leaf_entries, with_entries}
use Rattle.vol_types.specs.KeyMaps.{Entries}
use Rattle.vol_types.specs.Limits.{node_limit}
use Rattle.vol_types.specs.declared.keys.Update.{Update}
use Rattle.vol_types.specs.declared.positions.Btree.{Btree}
use Rattle.vol_types.specs.declared.positions.Pos.{Pos}
use Rattle.dirty_nodes.specs.declared.splits.NeedSplit.{NeedSplit}

-- whether a node is larger than nodes may be
abbrev pub is_large : NodeSize → Bool
is_large size = nat_lt node_limit size.size

-- the first leaf that updates would make larger than nodes may be, if there is one: btree by btree, in the order of the leaves
abbrev pub first_large : Trees → List Update → Option NodeSize
first_large trees updates = slice_get (filter is_large (sizes_of_updates trees updates)) 0

-- what the leaf of a btree that ends at a position would hold after updates
abbrev pub leaf_after : Trees → List Update → Btree → Pos → Entries
leaf_after trees updates btree end =
    leaf_entries end (with_entries (cut_in trees btree) (with_keys (changes_in btree updates) (cut_in trees btree).entries))

-- The name is that of a leaf with this birth, and the size is what it would take after updates: more than nodes may.
pub record IsLargeLeaf (trees : Trees) (updates : List Update) (large : NodeSize) (name : NodeName) : Type 0 where
  pub birth : birth_of trees.nodes (record { btree = name.btree; level = 0; greatest = name.greatest }) ≡ Some large.birth
  pub there : is_end name.greatest (cut_in trees name.btree).ends ≡ true
  pub size : size_of (leaf_after trees updates name.btree name.greatest) ≡ large.size
  pub over : node_limit < large.size

-- This is the first leaf that updates would make too large, with the size that it would have, and the middle one of the positions
-- that it would hold. A split there halves their number: it isn't the last one.
pub record IsSplitNeed (trees : Trees) (updates : List Update) (need : NeedSplit) : Type 0 where
  pub btree : Btree
  pub end : Pos
  pub first : first_large trees updates ≡ Some (record { birth = need.node; size = need.size })
  pub leaf : birth_of trees.nodes (record { btree = btree; level = 0; greatest = end }) ≡ Some need.node
  pub middle : middle_of (leaf_after trees updates btree end) ≡ Some need.at
