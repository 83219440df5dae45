-- The leaves of an open volume, as what is kept of leaves says of them: the roots of btrees, and those that are frozen.
use Rattle.std.specs.Prelude.{ℕ, Option, Some, None, List, [], ◌∷◌, ◌++◌, map}
use Rattle.std.specs.Ordering.{nat_cmp}
use Rattle.crash_safety.specs.CheckpointLeaves.{FreshLeaf, Leaves}
use Rattle.core_volume.specs.Volumes.{Volume}
use Rattle.node_writeback.specs.Due.{root_in}
use Rattle.node_writeback.specs.NodeWork.{NodeWork}
use Rattle.node_writeback.specs.declared.node.FrozenNode.{FrozenNode}
use Rattle.node_writeback.specs.declared.node.UnfinishedNode.{UnfinishedNode}
use Rattle.vol_types.specs.Limits.{bucket_blocks}
use Rattle.vol_types.specs.Maps.{value_at}

-- a frozen leaf of which so many blocks are written; what changed it since is noted
abbrev pub fresh_leaf : List (ℕ × ℕ) → ℕ → FrozenNode → FreshLeaf
fresh_leaf later written node = record { btree = node.btree; node = node.fresh; blocked = node.blocked; written = written; later = value_at nat_cmp node.birth later }

-- the leaf of which blocks are left, if there is one
abbrev pub leaves_left : List (ℕ × ℕ) → Option UnfinishedNode → List FreshLeaf
leaves_left later None = []
leaves_left later (Some unfinished) = fresh_leaf later unfinished.written unfinished.node ∷ []

-- the leaves that are frozen
abbrev pub fresh_leaves : List (ℕ × ℕ) → NodeWork → List FreshLeaf
fresh_leaves later work = map (fresh_leaf later bucket_blocks) work.finished ++ leaves_left later work.unfinished

-- the leaves of a volume each of whose btrees is one leaf
abbrev pub leaves_in : Volume → Leaves
leaves_in volume = record {
  root = root_in volume.trees.nodes;
  pin = λ btree. value_at nat_cmp (root_in volume.trees.nodes btree).birth volume.pins;
  fresh = fresh_leaves volume.later volume.work;
  space = volume.space;
}
