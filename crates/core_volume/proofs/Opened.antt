-- What is kept of a volume that was loaded.
use Rattle.std.proofs.Common.{◌≡◌, ℕ, ◌-◌, None, List, [], refl, ap, ◌∙◌, true}
use Rattle.std.proofs.lemmas.List.Elements.{All-nil}
use Rattle.std.proofs.lemmas.Option.{none-some as none_some}
use Rattle.bucket_pool.specs.NodeBuckets.{AreFixed}
use Rattle.bucket_pool.specs.Opening.{space_of}
use Rattle.bucket_pool.specs.Space.{Space}
use Rattle.btree_map.specs.Trees.{Trees, keys_in}
use Rattle.dirty_nodes.specs.Dirty.{AreMarked, changed_nodes, paths_of, with_pins}
use Rattle.journal_writer.specs.Changes.{LeadTo}
use Rattle.journal_writer.specs.Queues.{Queue, empty_queue, waiting}
use Rattle.journal_ring.specs.declared.found.FoundEntry.{FoundEntry}
use Rattle.vol_types.specs.KeyMaps.{IsKeyMap, KeyMap}
use Rattle.vol_types.specs.Layouts.{is_layout}
use Rattle.vol_types.specs.declared.layout.Layout.{Layout}
use Rattle.vol_types.specs.declared.pointers.Place.{Place}
use Rattle.journal_writer.specs.Writers.{Writer, opened_by as writer_opened}
use Rattle.core_volume.specs.Opening.{keys_of_buckets, opened_by, updates_in}
use Rattle.node_writeback.specs.Placing.{AreFrozenLeaves}
use Rattle.node_writeback.specs.NodeWork.{NodeWork, no_work}
use Rattle.core_volume.specs.Volumes.{IsFrozenKept, IsVolume, StandInLeaves}
use Rattle.core_volume.proofs.HeldBack.{opened-held}
use Rattle.core_volume.proofs.Spaces.{length-space_of}

module _ (layout : Layout) (session : ℕ) (trees : Trees) (needed : List FoundEntry) (nodes : List Place) (newest : FoundEntry) where
  -- Nothing waits, so the keys in memory are durable.
  pub opened-kept : is_layout layout ≡ true → IsKeyMap (keys_in trees)
      → AreMarked trees.nodes (with_pins newest.entry.oldest (changed_nodes trees.nodes (updates_in needed)) []) (with_pins newest.entry.oldest (paths_of trees.nodes (updates_in needed)) [])
      → AreFixed layout (space_of layout (keys_of_buckets (keys_in trees)) nodes) → StandInLeaves (keys_in trees)
      → AreFrozenLeaves trees.nodes (with_pins newest.entry.oldest (changed_nodes trees.nodes (updates_in needed)) []) []
      → ((mirrors after behind commits : ℕ) (keys : KeyMap) → LeadTo (waiting (empty_queue mirrors after behind commits)) keys keys)
      → IsVolume (opened_by layout session trees needed nodes newest)
  opened-kept placed keys marked fixed stand leaves leads = record {
    placed = placed;
    mirrors = refl;
    devices = length-space_of layout (keys_of_buckets (keys_in trees)) nodes;
    fixed = fixed;
    ring = record { id = refl; mirrors = refl; journal = refl };
    in_turn = record { flying = tt; waiting_ones = refl };
    marked = marked;
    held_back = opened-held (writer_opened layout needed newest) (changed_nodes trees.nodes (updates_in needed)) refl;
    pinned = λ btree root alone sequence none. absurd (none_some sequence none);
    work = record { leaves = leaves; each = All-nil (IsFrozenKept (opened_by layout session trees needed nodes newest)) };
    durable_keys = keys_in trees;
    are_keys = keys;
    stand = stand;
    lead = leads layout.metadata_replicas newest.entry.sequence (newest.end - 1) newest.entry.commits (keys_in trees);
  }

  -- What the parts make.
  pub opened-same : (kept : Trees) → kept ≡ trees → (behind : ℕ) (queue : Queue) (pins marks later : List (ℕ × ℕ)) (space : Space) (writer : Writer) (work : NodeWork)
      → behind ≡ newest.end - 1 → queue ≡ empty_queue layout.metadata_replicas newest.entry.sequence behind newest.entry.commits
      → pins ≡ with_pins newest.entry.oldest (changed_nodes trees.nodes (updates_in needed)) [] → marks ≡ with_pins newest.entry.oldest (paths_of trees.nodes (updates_in needed)) [] → later ≡ []
      → space ≡ space_of layout (keys_of_buckets (keys_in trees)) nodes → writer ≡ writer_opened layout needed newest → work ≡ no_work 0
      → record {
        layout = layout;
        session = session;
        trees = kept;
        queue = queue;
        pins = pins;
        marks = marks;
        later = later;
        space = space;
        writer = writer;
        work = work;
        emptied = 0;
        halted = None;
        changes = 0;
      } ≡ opened_by layout session trees needed nodes newest
  opened-same kept keeps behind queue pins marks later space writer work ends queue_is pins_are marks_are later_is space_is writer_is work_is = λ i. record {
    layout = layout;
    session = session;
    trees = keeps i;
    queue = (queue_is ∙ ap (λ (b : ℕ). empty_queue layout.metadata_replicas newest.entry.sequence b newest.entry.commits) ends) i;
    pins = pins_are i;
    marks = marks_are i;
    later = later_is i;
    space = space_is i;
    writer = writer_is i;
    work = work_is i;
    emptied = 0;
    halted = None;
    changes = 0;
  }
