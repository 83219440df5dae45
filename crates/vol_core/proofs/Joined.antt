-- The core stays safe where a commit's updates join the entries that wait.
use Rattle.std.proofs.Common.{◌≡◌, ◌+◌, Bool, true, false, List, [], ◌∷◌, ◌++◌, refl, sym, ap, subst}
use Rattle.std.proofs.lemmas.List.Elements.{All-append, All-cons, All-head, All-nil, All-tail}
use Rattle.std.specs.Ordering.{nat_cmp}
use Rattle.std.specs.Prelude.{All, if◌then◌else◌}
use Rattle.birth_index.specs.Exchanges.{HaveOneNode}
use Rattle.btree_map.specs.Trees.{Trees, keys_in}
use Rattle.crash_safety.specs.LeafSteps.{ArePinnedMore, PinsAsMuch}
use Rattle.dirty_nodes.specs.Dirty.{changed_nodes, paths_of, with_pins}
use Rattle.core_volume.specs.Commits.{IsCommitted}
use Rattle.core_volume.specs.Rulings.{entry_of}
use Rattle.core_volume.specs.Volumes.{IsVolume, Volume, changes_in}
use Rattle.dev_model.specs.Devices.{DevicesState}
use Rattle.journal_writer.specs.Changes.{LeadTo, changes_of, changes_then, no_changes}
use Rattle.journal_writer.specs.Queues.{Queue, closed_changes, closes, follower_of, joined, waiting}
use Rattle.journal_writer.specs.declared.changes.KeyChanges.{KeyChanges}
use Rattle.journal_writer.specs.declared.changes.Pending.{Pending}
use Rattle.image_view.specs.Found.{Found}
use Rattle.node_writeback.specs.Due.{root_in}
use Rattle.tree_nodes.specs.Levels.{Levels}
use Rattle.vol_types.specs.KeyMaps.{KeyMap, with_updates}
use Rattle.vol_types.specs.Maps.{value_at}
use Rattle.vol_types.specs.declared.keys.Update.{Update}
use Rattle.vol_core.specs.Entries.{AreInLeaves, IsInLeaf}
use Rattle.vol_core.specs.Safety.{IsCoreSafe}
use Rattle.vol_core.specs.VolumeLeaves.{leaves_in}
use Rattle.vol_core.specs.CoreLaws.{CoreLaws}
use Rattle.vol_core.proofs.KnownParts.{flies_also, known_also}
use Rattle.vol_core.proofs.PinnedLeaves.{PinAsMuch, fresh_count, fresh_more, with_pins-as_much}

abbrev AllInLeaves : KeyChanges → Type 0
AllInLeaves changes = All IsInLeaf changes.updates

-- The open entry's changes are others in leaves.
last_leaves : (closed : List Pending) (old new : KeyChanges) → AreInLeaves (closed_changes closed ++ old ∷ []) → (AllInLeaves old → AllInLeaves new) → AreInLeaves (closed_changes closed ++ new ∷ [])
last_leaves [] old new are more = All-cons AllInLeaves new [] (more (All-head AllInLeaves old [] are)) (All-nil AllInLeaves)
last_leaves (entry ∷ closed) old new are more =
    All-cons AllInLeaves entry.changes (closed_changes closed ++ new ∷ []) (All-head AllInLeaves entry.changes (closed_changes closed ++ old ∷ []) are)
    (last_leaves closed old new (All-tail AllInLeaves entry.changes (closed_changes closed ++ old ∷ []) are) more)

-- The open entry is closed, and another one is open.
closed_leaves : (closed : List Pending) (entry : Pending) (new : KeyChanges) → AreInLeaves (closed_changes closed ++ entry.changes ∷ []) → AllInLeaves new → AreInLeaves (closed_changes (closed ++ entry ∷ []) ++ new ∷ [])
closed_leaves [] entry new are here = All-cons AllInLeaves entry.changes (new ∷ []) (All-head AllInLeaves entry.changes [] are) (All-cons AllInLeaves new [] here (All-nil AllInLeaves))
closed_leaves (other ∷ closed) entry new are here =
    All-cons AllInLeaves other.changes (closed_changes (closed ++ entry ∷ []) ++ new ∷ []) (All-head AllInLeaves other.changes (closed_changes closed ++ entry.changes ∷ []) are)
    (closed_leaves closed entry new (All-tail AllInLeaves other.changes (closed_changes closed ++ entry.changes ∷ []) are) here)

-- the queue, with the open entry closed or not
abbrev readied_by : Bool → Queue → Queue
readied_by close queue = if close then record { mirrors = queue.mirrors; closed = queue.closed ++ queue.open_entry ∷ []; open_entry = follower_of queue.mirrors queue.open_entry } else queue

-- Updates in leaves join those that wait.
joined_by : (close : Bool) (changes : KeyChanges) (queue : Queue) → AllInLeaves changes → AreInLeaves (waiting queue) → AreInLeaves (closed_changes (readied_by close queue).closed ++ changes_then (readied_by close queue).open_entry.changes changes ∷ [])
joined_by true changes queue new are = closed_leaves queue.closed queue.open_entry (changes_then no_changes changes) are new
joined_by false changes queue new are = last_leaves queue.closed queue.open_entry.changes (changes_then queue.open_entry.changes changes) are (λ old. All-append IsInLeaf queue.open_entry.changes.updates changes.updates old new)

joined_leaves : (changes : KeyChanges) (counted : Bool) (queue : Queue) → AllInLeaves changes → AreInLeaves (waiting queue) → AreInLeaves (waiting (joined changes counted queue))
joined_leaves changes counted queue new are = joined_by (closes changes.updates queue) changes queue new are

module _ (laws : CoreLaws) (begun : Found) (start : DevicesState) (volume : Volume) (is : IsVolume volume) (state : DevicesState) (kept : IsCoreSafe begun start state volume) (updates : List Update) (counted : Bool) (leaves : All IsInLeaf updates) where
  abbrev made_with : Trees → Volume
  made_with trees = record volume {
    trees = trees;
    queue = joined (changes_of updates (keys_in volume.trees)) counted volume.queue;
    pins = with_pins (entry_of volume updates) (changed_nodes volume.trees.nodes updates) volume.pins;
    marks = with_pins (entry_of volume updates) (paths_of volume.trees.nodes updates) volume.marks;
    later = with_pins (entry_of volume updates) (changed_nodes volume.trees.nodes updates) volume.later;
    changes = volume.changes + 1;
  }

  -- Each root pins as much as before, and as much is noted of each frozen leaf.
  pinned_more : (trees : Trees) → trees.nodes ≡ volume.trees.nodes → ArePinnedMore (leaves_in volume) (leaves_in (made_with trees))
  pinned_more trees nodes = record {
    root = λ btree. ap (λ (levels : List Levels). root_in levels btree) nodes;
    space = refl;
    pins = λ btree. subst (λ (levels : List Levels). PinsAsMuch (value_at nat_cmp (root_in volume.trees.nodes btree).birth volume.pins) (value_at nat_cmp (root_in levels btree).birth (made_with trees).pins)) (sym nodes)
        (with_pins-as_much laws.pins (entry_of volume updates) (changed_nodes volume.trees.nodes updates) volume.pins (root_in volume.trees.nodes btree).birth);
    count = fresh_count volume.later (made_with trees).later later_more volume.work;
    fresh = fresh_more volume.later (made_with trees).later later_more volume.work;
  }
    where
      later_more : PinAsMuch volume.later (made_with trees).later
      later_more = with_pins-as_much laws.pins (entry_of volume updates) (changed_nodes volume.trees.nodes updates) volume.later

  made_one : (trees : Trees) → keys_in trees ≡ with_updates updates (keys_in volume.trees) → trees.nodes ≡ volume.trees.nodes → IsCoreSafe begun start state (made_with trees)
  made_one trees keys nodes = record {
    f = kept.f;
    image = kept.image;
    writing = kept.writing;
    asked = kept.asked;
    written = kept.written;
    bases = kept.bases;
    durable = kept.durable;
    safe = kept.safe;
    begins = kept.begins;
    chain = kept.chain;
    past = kept.past;
    flushed = kept.flushed;
    flags = kept.flags;
    known = known_also kept.f volume (made_with trees) kept.known refl refl refl;
    starts = kept.starts;
    first = kept.first;
    lead = subst (λ (to : KeyMap). LeadTo (changes_in volume.writer.flight ++ waiting (joined (changes_of updates (keys_in volume.trees)) counted volume.queue)) kept.f.trees.keys to) (sym keys)
        (laws.keys.joined (changes_in volume.writer.flight) volume.queue updates counted kept.f.trees.keys (keys_in volume.trees) kept.lead);
    leaves = joined_leaves (changes_of updates (keys_in volume.trees)) counted volume.queue leaves kept.leaves;
    one = subst HaveOneNode (sym nodes) kept.one;
    kept = laws.entries.pins kept.f kept.writing state (leaves_in volume) (leaves_in (made_with trees)) kept.kept (pinned_more trees nodes);
    flying = flies_also kept.f volume.writer.flight kept.writing kept.asked kept.written volume (made_with trees) kept.flying refl refl;
  }

  -- A commit makes these updates.
  pub committed_on : (new : Volume) → IsCommitted updates counted volume new → IsCoreSafe begun start state new
  committed_on new made = subst (IsCoreSafe begun start state) (sym made.rest) (made_one new.trees made.keys made.nodes)
