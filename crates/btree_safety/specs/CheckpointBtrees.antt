-- A volume whose btrees have any number of levels, while nodes of them are written into new buckets: what happens to it in a checkpoint, and in an
-- entry.
use Rattle.std.specs.Prelude.{◌≡◌, ◌≢◌, ◌⊎◌, ℕ, ◌+◌, Option, Some, List, [], ◌∷◌, ◌++◌, All, Contains, length, map, slice_get}
use Rattle.std.specs.List.{flat_map}
use Rattle.birth_index.specs.Births.{levels_of, node_of}
use Rattle.birth_index.specs.declared.name.NodeName.{NodeName}
use Rattle.bucket_pool.specs.Space.{Space, emptied_all, node_places, noded, settled_space}
use Rattle.btree_laws.specs.Counts.{ChangeKey}
use Rattle.btree_laws.specs.Exchanges.{IsBornApart, IsKept}
use Rattle.btree_laws.specs.Standing.{AreOwnEntries, IsUnderRoot, wanted_at}
use Rattle.crash_safety.specs.Contents.{IsFrom, IsPinnedUpTo}
use Rattle.crash_safety.specs.LeafSteps.{PinsAsMuch}
use Rattle.crash_safety.specs.Writings.{Writing}
use Rattle.image_view.specs.Found.{Found}
use Rattle.image_view.specs.NextEntries.{IsNext}
use Rattle.image_view.specs.Trees.{Wanted}
use Rattle.image_view.specs.UpdatedTrees.{IsOfLeaf}
use Rattle.journal_ring.specs.EntryBlocks.{AreEntryBlocks}
use Rattle.journal_ring.specs.declared.found.FoundEntry.{FoundEntry}
use Rattle.node_store.specs.declared.planning.Blocked.{Blocked}
use Rattle.record_codec.specs.declared.sets.SetRecord.{SetRecord}
use Rattle.tree_nodes.specs.Levels.{IsTree, Levels, level_of}
use Rattle.vol_types.specs.Btrees.{btree_code}
use Rattle.vol_types.specs.Positions.{IsWithin}
use Rattle.vol_types.specs.Widths.{PosFits}
use Rattle.vol_types.specs.declared.pointers.NodePtr.{NodePtr}
use Rattle.vol_types.specs.declared.pointers.Place.{Place}
use Rattle.vol_types.specs.declared.positions.Btree.{Btree}
use Rattle.vol_types.specs.declared.positions.Pos.{Pos}
use Rattle.btree_safety.specs.FreshNodes.{content_of_set}
use Rattle.btree_safety.specs.KeptKeys.{ArePinned, ArePinsFrom, Pins}

-- A node that is written: of which btree it is, the positions that it is to cover and where it lies; its set; its blocks, and how many of these are
-- written; and of a leaf the oldest entry of which it lacks keys, if it lacks any.
pub record FreshNode : Type 0 where
  pub wanted : Wanted
  pub set : SetRecord
  pub blocked : Blocked
  pub written : ℕ
  pub later : Option ℕ

-- The roots of the btrees and their nodes, what the leaves pin, the nodes that are written, the places that are taken for further ones, and the
-- space.
pub record Btrees : Type 0 where
  pub roots : List NodePtr
  pub trees : List Levels
  pub pin : Pins
  pub fresh : List FreshNode
  pub taken : List (List Place)
  pub space : Space

-- the places of the nodes that are written, and then those that are taken
abbrev pub own_places : Btrees → List (List Place)
own_places b = map (λ fresh. fresh.wanted.pointer.places) b.fresh ++ b.taken

-- The position is one of those that a node which is written is to cover, where that is a leaf.
pub record IsOwnPosition (fresh : FreshNode) (pos : Pos) : Type 0 where
  pub leaf : fresh.wanted.pointer.level ≡ 0
  pub fits : PosFits pos
  pub within : IsWithin fresh.wanted.least fresh.wanted.greatest pos

-- ---- entries of the journal

-- the node with what else it lacks
abbrev pub lacking : Option ℕ → FreshNode → FreshNode
lacking later fresh = record fresh { later = later }

-- The second node differs from the first in what it lacks: it notes as much at least.
abbrev pub NotesAsMuch : FreshNode → FreshNode → Type 0
NotesAsMuch one other = (other ≡ lacking other.later one) × PinsAsMuch one.later other.later

-- A next entry names the roots as they are: it is put in flight, and needs the entries from the least pin on.
pub record IsNamed (f : Found) (passed : ℕ) (next : FoundEntry) (blocks : List (List ℕ)) (b : Btrees) : Type 0 where
  pub is_next : IsNext f passed next
  pub sealed : AreEntryBlocks f.layout.id next.number next.entry blocks
  pub roots : next.entry.roots ≡ b.roots
  pub of_leaves : All IsOfLeaf next.entry.updates
  pub pins : ArePinsFrom b.trees b.pin (f.last.entry.oldest + passed)

-- What a node that is written lacks holds the entries back that are needed from this sequence on, and an entry where it changes a position of the
-- node.
pub record HoldsBack (oldest : ℕ) (next : FoundEntry) (fresh : FreshNode) : Type 0 where
  pub later : IsFrom fresh.later oldest
  pub changes : (pos : Pos) → IsOwnPosition fresh pos → ChangeKey fresh.wanted.btree pos next.entry.updates → IsPinnedUpTo fresh.later next.entry.sequence

-- The pins hold the entries back that the one that becomes durable needs, and that one where it changes a key.
pub record HoldBack (f : Found) (w : Writing) (b : Btrees) : Type 0 where
  pub pins : ArePinsFrom b.trees b.pin (f.last.entry.oldest + w.passed)
  pub changes : ArePinned w.next b.trees b.pin w.next.entry.sequence
  pub fresh : All (HoldsBack (f.last.entry.oldest + w.passed) w.next) b.fresh

-- the btrees once an entry of this sequence is durable
abbrev pub settled_btrees : ℕ → Btrees → Btrees
settled_btrees sequence b = record b { space = settled_space sequence b.space }

-- ---- nodes that are written

-- the btrees with places taken for one more node
abbrev pub with_taken : ℕ → Btrees → Btrees
with_taken mirrors b = record b { taken = b.taken ++ node_places mirrors b.space ∷ []; space = noded mirrors b.space }

-- the btrees with one more node that is to be written, and these places taken still
abbrev pub with_fresh : FreshNode → List (List Place) → Btrees → Btrees
with_fresh fresh taken b = record b { fresh = b.fresh ++ fresh ∷ []; taken = taken }

-- the node with so many of its blocks written
abbrev pub with_written : ℕ → FreshNode → FreshNode
with_written written fresh = record fresh { written = written }

-- the btrees, the last of whose nodes that are written has so many of its blocks written
abbrev pub with_last : List FreshNode → FreshNode → ℕ → Btrees → Btrees
with_last earlier fresh written b = record b { fresh = earlier ++ with_written written fresh ∷ [] }

-- A node of new btrees is one of those that were written, for the place where it stands: its set has the entries of that place, it has a birth of its
-- own, and as a leaf it pins what it lacks.
pub record IsPutInPlace (b : Btrees) (new : List Levels) (pin : Pins) (name : NodeName) (node : NodePtr) : Type 0 where
  pub fresh : FreshNode
  pub one : Contains b.fresh fresh
  pub wanted : fresh.wanted ≡ wanted_at name.btree (level_of (levels_of new name.btree) name.level) name.greatest node
  pub entries : AreOwnEntries (levels_of new name.btree) name.level name.greatest (content_of_set fresh.set).entries
  pub born : IsBornApart b.trees new name node
  pub pins : PinsAsMuch fresh.later (pin node.birth)

-- A node of new btrees is kept from the old ones, and pins as much as it did.
pub record IsKeptInPlace (b : Btrees) (new : List Levels) (pin : Pins) (name : NodeName) (node : NodePtr) : Type 0 where
  pub kept : IsKept (levels_of b.trees name.btree) (levels_of new name.btree) name.level name.greatest node
  pub pins : PinsAsMuch (b.pin node.birth) (pin node.birth)

-- The node stood in the old btrees, and doesn't in the new ones.
pub record IsGone (old new : List Levels) (node : NodePtr) : Type 0 where
  pub name : NodeName
  pub stood : node_of old name ≡ Some node
  pub gone : node_of new name ≢ Some node

-- Nodes that were written may be put in place: there are nine btrees then, each under its root, each of their nodes is kept or is put in place, and
-- those nodes are gone whose buckets are emptied.
pub record MayBePut (b : Btrees) (roots : List NodePtr) (new : List Levels) (pin : Pins) (gone : List NodePtr) : Type 0 where
  pub roots_are : length roots ≡ 9
  pub trees_are : length new ≡ 9
  pub trees : (btree : Btree) → IsTree (levels_of new btree)
  pub tops : (btree : Btree) (root : NodePtr) → slice_get roots (btree_code btree) ≡ Some root → IsUnderRoot root (levels_of new btree)
  pub each : (name : NodeName) (node : NodePtr) → node_of new name ≡ Some node → IsKeptInPlace b new pin name node ⊎ IsPutInPlace b new pin name node
  pub are_gone : All (IsGone b.trees new) gone

-- the places of nodes
abbrev pub places_of : List NodePtr → List Place
places_of nodes = flat_map (λ node. node.places) nodes

-- the btrees with the nodes in place that were written: the buckets of those that are gone wait for an entry
abbrev pub put_in_place : List NodePtr → List Levels → Pins → List NodePtr → ℕ → Btrees → Btrees
put_in_place roots new pin gone seq b = record { roots = roots; trees = new; pin = pin; fresh = []; taken = b.taken; space = emptied_all (places_of gone) seq b.space }

-- the btrees where the nodes that were written are given up: their buckets, and those that were taken, are free again
abbrev pub given_up : ℕ → Btrees → Btrees
given_up durable b = record b { fresh = []; taken = []; space = settled_space durable (emptied_all (flat_map (λ places. places) (own_places b)) durable b.space) }
