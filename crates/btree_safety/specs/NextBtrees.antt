-- A next entry of the journal that names the roots of btrees.
use Rattle.std.specs.Prelude.{ℕ, List}
use Rattle.btree_laws.specs.Standing.{Contents, reads_of}
use Rattle.crash_safety.specs.Writings.{Writing}
use Rattle.image_view.specs.Found.{Found}
use Rattle.image_view.specs.NewNodes.{over_nodes}
use Rattle.image_view.specs.UpdatedTrees.{with_key_updates}
use Rattle.journal_ring.specs.declared.found.FoundEntry.{FoundEntry}
use Rattle.tree_nodes.specs.Levels.{Levels}
use Rattle.vol_types.specs.declared.positions.Btree.{Btree}

-- a next entry that names the roots of btrees with this content, and passes so many needed entries: the keys are those that were found, with its
-- updates, over the nodes of these btrees
abbrev pub writing_of_btrees : Found → List Levels → (Btree → Contents) → ℕ → FoundEntry → List (List ℕ) → Writing
writing_of_btrees f trees content passed next blocks = record {
  passed = passed;
  next = next;
  trees = with_key_updates next.entry.updates (over_nodes f.trees (reads_of content trees));
  blocks = blocks;
}
