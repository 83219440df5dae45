-- What is kept of a volume stays so where a commit is made.
use Rattle.std.proofs.Common.{◌≡◌, ℕ, ◌+◌, Bool, true, false, cond, List, [], ◌∷◌, ◌++◌, refl, sym, ◌∙◌, subst}
use Rattle.btree_map.specs.Trees.{Trees, keys_in}
use Rattle.dirty_nodes.specs.Dirty.{AreMarked, changed_nodes, paths_of, with_pins}
use Rattle.journal_writer.specs.Changes.{LeadTo, changes_of}
use Rattle.journal_writer.specs.Queues.{AreFollowed, Queue, closes, follower_of, joined, oldest, waiting}
use Rattle.journal_writer.specs.declared.changes.KeyChanges.{KeyChanges}
use Rattle.node_writeback.specs.Durable.{undurable}
use Rattle.vol_types.specs.KeyMaps.{KeyMap, with_updates}
use Rattle.vol_types.specs.declared.keys.Update.{Update}
use Rattle.tree_nodes.specs.Levels.{Levels}
use Rattle.core_volume.specs.Commits.{IsCommitted}
use Rattle.core_volume.specs.Rulings.{entry_of}
use Rattle.core_volume.specs.Volumes.{ArePinnedByRoots, IsVolume, Volume, changes_in, in_flight}
use Rattle.core_volume.proofs.HeldBack.{joined-held}
use Rattle.core_volume.proofs.Pinned.{PinRoots, roots-committed, work-committed}

-- A queue has the same metadata devices after a commit.
mirrors-joined : (changes : KeyChanges) (counted : Bool) (queue : Queue) → (joined changes counted queue).mirrors ≡ queue.mirrors
mirrors-joined changes counted queue = by (closes changes.updates queue)
  where
    by : (b : Bool) → (cond b (record { mirrors = queue.mirrors; closed = queue.closed ++ queue.open_entry ∷ []; open_entry = follower_of queue.mirrors queue.open_entry }) queue).mirrors ≡ queue.mirrors
    by true = refl
    by false = refl

-- Updates lead from the durable keys to the keys with them.
abbrev pub LeadsOn : List Update → Bool → Volume → Type 0
LeadsOn updates counted old =
    (durable keys : KeyMap) → LeadTo (changes_in old.writer.flight ++ waiting old.queue) durable keys → LeadTo (changes_in old.writer.flight ++ waiting (joined (changes_of updates keys) counted old.queue)) durable (with_updates updates keys)

-- The entry that is written next follows the same one as before.
abbrev pub KeepsTurn : List Update → Bool → Volume → Type 0
KeepsTurn updates counted old = (oldest (joined (changes_of updates (keys_in old.trees)) counted old.queue)).after ≡ (oldest old.queue).after

-- A commit keeps a volume.
pub committed-volume : (updates : List Update) (counted : Bool) (old new : Volume) → IsVolume old → IsCommitted updates counted old new
    → AreMarked old.trees.nodes (with_pins (entry_of old updates) (changed_nodes old.trees.nodes updates) old.pins) (with_pins (entry_of old updates) (paths_of old.trees.nodes updates) old.marks)
    → AreFollowed old.queue.mirrors old.queue.closed old.queue.open_entry → PinRoots old.trees.nodes updates (entry_of old updates) → KeepsTurn updates counted old → LeadsOn updates counted old → IsVolume new
committed-volume updates counted old new is made marked followed pin turn leads =
    subst IsVolume (sym made.rest) (record {
      placed = is.placed;
      mirrors = mirrors-joined (changes_of updates (keys_in old.trees)) counted old.queue ∙ is.mirrors;
      devices = is.devices;
      fixed = is.fixed;
      ring = is.ring;
      in_turn = record { flying = is.in_turn.flying; waiting_ones = turn ∙ is.in_turn.waiting_ones };
      marked = subst (λ (nodes : List Levels). AreMarked nodes (with_pins (entry_of old updates) (changed_nodes old.trees.nodes updates) old.pins) (with_pins (entry_of old updates) (paths_of old.trees.nodes updates) old.marks)) (sym made.nodes) marked;
      held_back = joined-held old.writer old.queue old.pins (changed_nodes old.trees.nodes updates) updates is.held_back is.in_turn followed (entry_of old updates) refl;
      pinned = subst (λ (nodes : List Levels). ArePinnedByRoots nodes (undurable (in_flight old.writer.flight) (joined (changes_of updates (keys_in old.trees)) counted old.queue)) (with_pins (entry_of old updates) (changed_nodes old.trees.nodes updates) old.pins)) (sym made.nodes)
          (roots-committed old updates counted (keys_in old.trees) pin is.pinned);
      work = work-committed old updates counted (keys_in old.trees) pin new.trees made.nodes (with_pins (entry_of old updates) (paths_of old.trees.nodes updates) old.marks) is.work;
      durable_keys = is.durable_keys;
      are_keys = is.are_keys;
      stand = is.stand;
      lead = subst (λ (keys : KeyMap). LeadTo (changes_in old.writer.flight ++ waiting (joined (changes_of updates (keys_in old.trees)) counted old.queue)) is.durable_keys keys) (sym made.keys) (leads is.durable_keys (keys_in old.trees) is.lead);
    })

-- What a commit makes, part by part.
made-told : (old : Volume) (updates : List Update) (counted : Bool) (trees : Trees) (queue : Queue) (pins marks later : List (ℕ × ℕ)) → keys_in trees ≡ with_updates updates (keys_in old.trees) → trees.nodes ≡ old.trees.nodes
    → queue ≡ joined (changes_of updates (keys_in old.trees)) counted old.queue
    → pins ≡ with_pins (entry_of old updates) (changed_nodes old.trees.nodes updates) old.pins → marks ≡ with_pins (entry_of old updates) (paths_of old.trees.nodes updates) old.marks
    → later ≡ with_pins (entry_of old updates) (changed_nodes old.trees.nodes updates) old.later
    → IsCommitted updates counted old (record old { trees = trees; queue = queue; pins = pins; marks = marks; later = later; changes = old.changes + 1 })
made-told old updates counted trees queue pins marks later keys nodes joins pinned marks_are later_is = record {
  keys = keys;
  nodes = nodes;
  rest = λ i. record old { trees = trees; queue = joins i; pins = pinned i; marks = marks_are i; later = later_is i; changes = old.changes + 1 };
}

module _ (old : Volume) (is : IsVolume old) (updates : List Update) (counted : Bool) (trees : Trees) (queue : Queue) (pins marks later : List (ℕ × ℕ)) where
  -- What a commit makes, part by part, is kept.
  pub made-kept : keys_in trees ≡ with_updates updates (keys_in old.trees) → trees.nodes ≡ old.trees.nodes
      → queue ≡ joined (changes_of updates (keys_in old.trees)) counted old.queue
      → pins ≡ with_pins (entry_of old updates) (changed_nodes old.trees.nodes updates) old.pins → marks ≡ with_pins (entry_of old updates) (paths_of old.trees.nodes updates) old.marks
      → later ≡ with_pins (entry_of old updates) (changed_nodes old.trees.nodes updates) old.later
      → AreMarked old.trees.nodes (with_pins (entry_of old updates) (changed_nodes old.trees.nodes updates) old.pins) (with_pins (entry_of old updates) (paths_of old.trees.nodes updates) old.marks)
      → AreFollowed old.queue.mirrors old.queue.closed old.queue.open_entry → PinRoots old.trees.nodes updates (entry_of old updates) → KeepsTurn updates counted old → LeadsOn updates counted old
      → IsVolume (record old { trees = trees; queue = queue; pins = pins; marks = marks; later = later; changes = old.changes + 1 })
  made-kept keys nodes joins pinned marks_are later_is marked followed pin turn leads =
      committed-volume updates counted old (record old { trees = trees; queue = queue; pins = pins; marks = marks; later = later; changes = old.changes + 1 }) is
      (made-told old updates counted trees queue pins marks later keys nodes joins pinned marks_are later_is) marked followed pin turn leads
