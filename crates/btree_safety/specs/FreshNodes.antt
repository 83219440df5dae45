-- A node of whichever level that is written whole into a bucket of its own, and btrees some of whose nodes are such nodes.
use Rattle.std.specs.Prelude.{◌≡◌, ◌≢◌, ◌⊎◌, ℕ, ◌+◌, ◌*◌, ◌<◌, ◌≤◌, ◌^◌, List, [], length, All, Some, slice_get}
use Rattle.birth_index.specs.Births.{levels_of, node_of}
use Rattle.birth_index.specs.declared.name.NodeName.{NodeName}
use Rattle.btree_laws.specs.Exchanges.{IsBornApart, IsKept}
use Rattle.btree_laws.specs.Standing.{AreOwnEntries, Contents, IsNodeIn, IsUnderRoot, wanted_at}
use Rattle.crash_safety.specs.CheckpointLeaves.{LieApart}
use Rattle.crash_safety.specs.LeafSteps.{PinsAsMuch}
use Rattle.crash_safety.specs.NodeParts.{StandParts}
use Rattle.dev_model.specs.Devices.{DevicesState}
use Rattle.image_view.specs.Found.{IsMirrored}
use Rattle.image_view.specs.Trees.{Wanted}
use Rattle.journal_ring.specs.declared.found.FoundEntry.{FoundEntry}
use Rattle.key_meaning.specs.Checks.{IsNodePlaced}
use Rattle.node_mem.specs.Nodes.{with_keys}
use Rattle.node_store.specs.NodeContents.{NodeContent}
use Rattle.node_store.specs.Plans.{HoldsAlone, blocks_for, planned_blocks}
use Rattle.node_store.specs.declared.planning.Blocked.{Blocked}
use Rattle.record_codec.specs.Sets.{set_format}
use Rattle.record_codec.specs.declared.sets.SetRecord.{SetRecord}
use Rattle.tree_nodes.specs.Levels.{IsTree, Levels, level_of}
use Rattle.vol_types.specs.Btrees.{btree_code}
use Rattle.vol_types.specs.KeyMaps.{KeyMap}
use Rattle.vol_types.specs.Limits.{bucket_blocks}
use Rattle.vol_types.specs.Widths.{PosFits}
use Rattle.vol_types.specs.declared.layout.Layout.{Layout}
use Rattle.vol_types.specs.declared.pointers.NodePtr.{NodePtr}
use Rattle.vol_types.specs.declared.positions.Btree.{Btree}
use Rattle.vol_types.specs.declared.positions.Pos.{Pos}
use Rattle.btree_safety.specs.KeptKeys.{HoldsAt, Inherits, IsLeafAt, Pins}

-- what a node holds that is written whole, as this set
abbrev pub content_of_set : SetRecord → NodeContent
content_of_set set = record { entries = with_keys set.keys []; end = blocks_for (set_format.encode set) }

-- The blocks are those of a new node of this btree that covers these positions, as this set, and they fill its buckets.
pub record AreBlocksPlanned (id : List ℕ) (wanted : Wanted) (set : SetRecord) (blocked : Blocked) : Type 0 where
  pub holds : HoldsAlone id wanted.pointer set blocked
  pub places : blocked.places ≡ wanted.pointer.places
  pub first : blocked.block ≡ 0
  pub whole : planned_blocks blocked ≡ bucket_blocks
  pub of_btree : set.btree ≡ wanted.btree
  pub least : set.least ≡ wanted.least
  pub greatest : set.greatest ≡ wanted.greatest

-- A new node is planned so: its blocks are, its buckets are one on every metadata device, where nodes may lie, and it is born in a session up to this
-- one.
pub record IsNodePlanned (layout : Layout) (session : ℕ) (wanted : Wanted) (set : SetRecord) (blocked : Blocked) : Type 0 where
  pub blocks : AreBlocksPlanned layout.id wanted set blocked
  pub mirrored : IsMirrored layout wanted.pointer
  pub born : wanted.pointer.birth < (session + 1) * 2 ^ 32
  pub placed : All (IsNodePlaced layout) wanted.pointer.places

-- Of a new node whose blocks are planned the first so many are written: they stand on what is read.
pub record IsPartlyWritten (layout : Layout) (session : ℕ) (wanted : Wanted) (set : SetRecord) (blocked : Blocked) (written : ℕ) (state : DevicesState) : Type 0 where
  pub planned : IsNodePlanned layout session wanted set blocked
  pub few : written ≤ bucket_blocks
  pub stand : StandParts blocked written state

-- A node of a btree's levels was written whole: all blocks stand of a set in which it has its content, with the entries of its place in the levels.
pub record IsWrittenAs (layout : Layout) (session : ℕ) (btree : Btree) (levels : Levels) (content : Contents) (state : DevicesState) (level : ℕ) (at : Pos) (node : NodePtr) : Type 0 where
  pub set : SetRecord
  pub blocked : Blocked
  pub whole : IsPartlyWritten layout session (wanted_at btree (level_of levels level) at node) set blocked bucket_blocks state
  pub content_is : content node ≡ content_of_set set
  pub entries : AreOwnEntries levels level at (content node).entries

-- A node of new btrees is fresh: it was written whole, its birth is that of no node of the old btrees and of no other one of the new btrees, and it
-- lies apart from each other one of these.
pub record IsFresh (layout : Layout) (session : ℕ) (old new : List Levels) (content : Btree → Contents) (state : DevicesState) (name : NodeName) (node : NodePtr) : Type 0 where
  pub written : IsWrittenAs layout session name.btree (levels_of new name.btree) (content name.btree) state name.level name.greatest node
  pub born : IsBornApart old new name node
  pub apart : (other : NodeName) (another : NodePtr) → name ≢ other → node_of new other ≡ Some another → LieApart node another

-- A node of new btrees is kept from the old ones, with its content.
pub record IsKeptAs (old new : List Levels) (before after : Btree → Contents) (name : NodeName) (node : NodePtr) : Type 0 where
  pub kept : IsKept (levels_of old name.btree) (levels_of new name.btree) name.level name.greatest node
  pub content_is : after name.btree node ≡ before name.btree node

-- Nodes of btrees gave place to others: there are nine btrees still, each under its root, and each of their nodes is kept or fresh.
pub record AreNodesExchanged (layout : Layout) (session : ℕ) (old new : List Levels) (roots : List NodePtr) (before after : Btree → Contents) (state : DevicesState) : Type 0 where
  pub roots_are : length roots ≡ 9
  pub trees_are : length new ≡ 9
  pub trees : (btree : Btree) → IsTree (levels_of new btree)
  pub tops : (btree : Btree) (root : NodePtr) → slice_get roots (btree_code btree) ≡ Some root → IsUnderRoot root (levels_of new btree)
  pub each : (name : NodeName) (node : NodePtr) → node_of new name ≡ Some node → IsKeptAs old new before after name node ⊎ IsFresh layout session old new after state name node

-- What the leaves of new btrees hold and pin: a leaf that is kept pins as much as it did; and a fresh one, at each position that it covers, inherits
-- from the leaf that covered it, or holds what it has up to an entry of its own, as where it has the durable values.
pub record AreLeavesPinned (layout : Layout) (session : ℕ) (needed : List FoundEntry) (begun : KeyMap) (oldest : ℕ) (old new : List Levels) (pin other : Pins) (before after : Btree → Contents) (state : DevicesState) : Type 0 where
  pub kept : (btree : Btree) (at : Pos) (leaf : NodePtr) → IsNodeIn (levels_of new btree) 0 at leaf → IsKeptAs old new before after (record { btree = btree; level = 0; greatest = at }) leaf → PinsAsMuch (pin leaf.birth) (other leaf.birth)
  pub fresh : (btree : Btree) (pos : Pos) (leaf fresh : Pos × NodePtr) → PosFits pos → IsLeafAt old btree pos leaf → IsLeafAt new btree pos fresh → IsFresh layout session old new after state (record { btree = btree; level = 0; greatest = fresh.0 }) fresh.1
      → Inherits pin other (before btree) (after btree) pos leaf.1 fresh.1 ⊎ HoldsAt needed begun oldest btree (other fresh.1.birth) (after btree fresh.1).entries pos
