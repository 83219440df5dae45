-- The laws of the crates below on which it hangs that what format writes is the fresh volume.
use Rattle.std.specs.Prelude.{◌≡◌, ℕ, ◌+◌, ◌-◌, ◌^◌, ◌<◌, List, [], ◌∷◌, ◌++◌, length, Some, Ok, All}
use Rattle.dev_model.specs.Disk.{Image}
use Rattle.vol_types.specs.Sets.{set_length_of}
use Rattle.vol_types.specs.declared.layout.Layout.{Layout}
use Rattle.vol_types.specs.declared.pointers.NodePtr.{NodePtr}
use Rattle.vol_types.specs.declared.pointers.Place.{Place}
use Rattle.vol_types.specs.declared.positions.Btree.{Btree}
use Rattle.sealed_block.specs.Blocks.{Opens}
use Rattle.sealed_block.specs.Opening.{opened}
use Rattle.sealed_block.specs.declared.heads.Head.{Head}
use Rattle.record_codec.specs.Entries.{IsEntry, entry_format, entry_length_of}
use Rattle.record_codec.specs.Sets.{set_format}
use Rattle.record_codec.specs.declared.entries.EntryRecord.{EntryRecord}
use Rattle.record_codec.specs.declared.sets.SetRecord.{SetRecord}
use Rattle.journal_ring.specs.Counting.{needed_by, newest}
use Rattle.journal_ring.specs.Entries.{entry_on}
use Rattle.journal_ring.specs.EntryBlocks.{AreEntryBlocks, HoldBlocks, parts_of}
use Rattle.journal_ring.specs.Leading.{AreFrom, IsGreatest, Leads}
use Rattle.journal_ring.specs.Parts.{Area, area_of}
use Rattle.journal_ring.specs.declared.found.FoundEntry.{FoundEntry}
use Rattle.key_meaning.specs.Checks.{AreNodesPlaced, IsSound}
use Rattle.key_meaning.specs.Forest.{Read, forest_in}
use Rattle.key_meaning.specs.Fresh.{fresh_keys}
use Rattle.plain_forest.specs.Forest.{fresh as fresh_forest}
use Rattle.node_store.specs.NodeContents.{NodeContent}
use Rattle.image_view.specs.Found.{sets_in}
use Rattle.image_view.specs.NewNodes.{AreLeafRoots, leaf_trees}
use Rattle.image_view.specs.Trees.{trees_of}

-- Of entries: sealed blocks open, an entry has its length and is whole where its blocks stand, one that leads is the newest, and
-- those that lead up to it are needed.
pub record EntryLaws : Type 0 where
  pub opens : (block : List ℕ) (head : Head) (payload : List ℕ) → Opens block head payload → opened block ≡ Some head
  pub lengths : (entry : EntryRecord) → length (entry_format.encode entry) ≡ entry_length_of entry.roots entry.updates
  pub whole : (layout : Layout) (image : Image) (number : ℕ) (entry : EntryRecord) (blocks : List (List ℕ)) → IsEntry entry → number + parts_of entry < 2 ^ 64 → AreEntryBlocks layout.id number entry blocks
      → HoldBlocks layout.metadata_replicas layout.journal number blocks (length blocks) image → (dev : ℕ) → dev < layout.metadata_replicas
      → entry_on layout (area_of image) dev number ≡ Some (record { number = number; end = number + parts_of entry; entry = entry })
  pub newest_is : (layout : Layout) (area : Area) (last : FoundEntry) → 0 < layout.journal → Leads layout area last → IsGreatest layout area last.entry.sequence → newest layout area ≡ Some last
  pub needed_are : (layout : Layout) (area : Area) (last : FoundEntry) (entries : List FoundEntry) → 0 < layout.journal → AreFrom last.entry.oldest entries → length entries ≡ last.entry.sequence - last.entry.oldest → All (Leads layout area) entries
      → needed_by layout area last ≡ Ok (entries ++ last ∷ [])

-- And of nodes and keys: a set has its length, roots that are leaves mean what their sets come to, and the fresh keys are sound and mean
-- the fresh forest.
pub record FoundLaws : Type 0 where
  pub entries : EntryLaws
  pub set_lengths : (set : SetRecord) → length (set_format.encode set) ≡ set_length_of set.keys
  pub leaves : (layout : Layout) (image : Image) (roots : List NodePtr) (content : Btree → NodeContent) → AreLeafRoots (sets_in layout image) roots content → trees_of (sets_in layout image) [] roots ≡ Ok (leaf_trees roots content)
  pub means : (read : Read) → forest_in fresh_keys read ≡ fresh_forest
  pub sound : (nodes : List Place) (layout : Layout) → AreNodesPlaced nodes layout → IsSound fresh_keys nodes layout
