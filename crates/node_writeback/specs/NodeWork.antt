-- Nodes that are written whole into new buckets: what is frozen of each, and how far they are written.
use Rattle.std.specs.Prelude.{◌≡◌, ℕ, ◌+◌, ◌<◌, ◌≤◌, ◌^◌, ◌==◌, if◌then◌else◌, ⊤, Option, Some, None, IfSome, List, [], ◌∷◌, ◌++◌, All}
use Rattle.node_store.specs.Plans.{AreZerosFrom, HoldsAlone, IsReadAlone, blocks_for, planned_blocks, set_stored}
use Rattle.node_store.specs.declared.planning.Blocked.{Blocked}
use Rattle.record_codec.specs.Sets.{set_format}
use Rattle.record_codec.specs.declared.sets.SetRecord.{SetRecord}
use Rattle.vol_types.specs.Limits.{bucket_blocks}
use Rattle.vol_types.specs.declared.pointers.NodePtr.{NodePtr}
use Rattle.node_writeback.specs.declared.node.FrozenNode.{FrozenNode}
use Rattle.node_writeback.specs.declared.node.UnfinishedNode.{UnfinishedNode}

-- The nodes that are written, in the order in which they were frozen; the one of which blocks are left to be written, if there is one; and how
-- many nodes were born in the session.
pub record NodeWork : Type 0 where
  pub finished : List FrozenNode
  pub unfinished : Option UnfinishedNode
  pub born : ℕ

-- no node is frozen, after so many were born
abbrev pub no_work : ℕ → NodeWork
no_work born = record { finished = []; unfinished = None; born = born }

-- the birth of a node that isn't finished, if there is one
abbrev pub birth_left : Option UnfinishedNode → Option ℕ
birth_left None = None
birth_left (Some unfinished) = Some unfinished.node.birth

-- the birth of the node of which blocks are left to be written: of the one in whose place it comes
abbrev pub first_left : NodeWork → Option ℕ
first_left work = birth_left work.unfinished

-- the frozen nodes of which blocks are left
abbrev pub left_nodes : Option UnfinishedNode → List FrozenNode
left_nodes None = []
left_nodes (Some unfinished) = unfinished.node ∷ []

-- all frozen nodes, in the order in which they were frozen
abbrev pub frozen_nodes : NodeWork → List FrozenNode
frozen_nodes work = work.finished ++ left_nodes work.unfinished

-- The blocks are those of a new node: they fill its bucket, with this set, in whose head this sequence stands, and zero blocks behind it.
pub record IsWholePlan (id : List ℕ) (sequence : ℕ) (fresh : NodePtr) (set : SetRecord) (blocked : Blocked) : Type 0 where
  pub places : blocked.places ≡ fresh.places
  pub first : blocked.block ≡ 0
  pub whole : planned_blocks blocked ≡ bucket_blocks
  pub alone : IsReadAlone id fresh (set_stored 0 sequence (set_format.encode set)) blocked
  pub zeros : AreZerosFrom (blocks_for (set_format.encode set)) blocked
  pub holds : HoldsAlone id fresh set blocked

-- the work with a further frozen node, which was born in it
abbrev pub with_frozen : FrozenNode → NodeWork → NodeWork
with_frozen node work = record { finished = work.finished; unfinished = Some (record { node = node; written = 0 }); born = work.born + 1 }

-- The node with this birth was frozen: the set, with this sequence, is what is written of it.
pub record IsFrozen (id : List ℕ) (sequence birth : ℕ) (fresh : NodePtr) (set : SetRecord) (old new : NodeWork) : Type 0 where
  pub blocked : Blocked
  pub planned : IsWholePlan id sequence fresh set blocked
  pub is : new ≡ with_frozen (record { btree = set.btree; birth = birth; fresh = fresh; blocked = blocked }) old

-- the work with one more block of the unfinished node written, which is finished after its last one
abbrev pub advanced : UnfinishedNode → NodeWork → NodeWork
advanced unfinished work =
    if unfinished.written + 1 == bucket_blocks then record { finished = work.finished ++ unfinished.node ∷ []; unfinished = None; born = work.born }
    else record { finished = work.finished; unfinished = Some (record { node = unfinished.node; written = unfinished.written + 1 }); born = work.born }

-- the work with one more block written
abbrev pub with_part_of : Option UnfinishedNode → NodeWork → NodeWork
with_part_of None work = work
with_part_of (Some unfinished) work = advanced unfinished work

abbrev pub with_part : NodeWork → NodeWork
with_part work = with_part_of work.unfinished work

-- A frozen node fills a bucket on each of its places.
pub record IsWhole (node : FrozenNode) : Type 0 where
  pub places : node.blocked.places ≡ node.fresh.places
  pub first : node.blocked.block ≡ 0
  pub whole : planned_blocks node.blocked ≡ bucket_blocks

-- Blocks are left of an unfinished node.
pub record IsUnfinished (unfinished : UnfinishedNode) : Type 0 where
  pub node : IsWhole unfinished.node
  pub left : unfinished.written < bucket_blocks

-- What is kept of the work: each frozen node fills its bucket, and so many births have a number.
pub record IsWork (work : NodeWork) : Type 0 where
  pub finished : All IsWhole work.finished
  pub unfinished : IfSome work.unfinished IsUnfinished
  pub born : work.born ≤ 2 ^ 32

-- There is room for a node that isn't finished among those that are.
abbrev pub HasPlace : ℕ → ℕ → Option UnfinishedNode → Type 0
HasPlace count room None = ⊤
HasPlace count room (Some unfinished) = count < room

-- What a writer of nodes keeps: the work, with room for the node that isn't finished.
pub record IsKept (count room : ℕ) (work : NodeWork) : Type 0 where
  pub is_work : IsWork work
  pub place : HasPlace count room work.unfinished
