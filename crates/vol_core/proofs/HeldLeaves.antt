-- What leaves hold back where the entry in flight becomes the last durable one: none lacks an older entry than it needs, and each lacks that one where it
-- changes its btree.
use Rattle.std.proofs.Common.{◌≡◌, ◌+◌, ℕ, Bool, true, List, [], ◌∷◌, ◌++◌, cond, map, Option, Some, None, refl, sym, ap, subst, ◌∙◌, arith}
use Rattle.std.proofs.lemmas.Bool.{true≢false}
use Rattle.std.proofs.lemmas.List.Elements.{All-cons, All-head, All-nil, All-tail}
use Rattle.std.proofs.lemmas.List.Folds.{list_any_at}
use Rattle.std.specs.Ordering.{nat_cmp}
use Rattle.std.specs.Prelude.{All, IfSome, IsSome}
use Rattle.birth_index.specs.Births.{levels_of}
use Rattle.birth_index.specs.Exchanges.{HaveOneNode, one_node}
use Rattle.crash_safety.specs.CheckpointLeaves.{FreshLeaf}
use Rattle.crash_safety.specs.LeafSteps.{HoldBack}
use Rattle.core_volume.specs.HoldLaws.{pinned-each}
use Rattle.core_volume.specs.Volumes.{IsFlightHeld, IsFrozenKept, IsVolume, Volume, in_flight, undurable_in}
use Rattle.journal_writer.specs.Changes.{changes_btree}
use Rattle.journal_writer.specs.Queues.{first_with, waiting_entries}
use Rattle.journal_writer.specs.declared.changes.Pending.{Pending}
use Rattle.journal_writer.specs.declared.writer.Flight.{Flight}
use Rattle.image_view.specs.Found.{Found}
use Rattle.crash_safety.specs.Writings.{Writing}
use Rattle.crash_safety.specs.Contents.{ChangesBtree, IsFrom, IsPinnedUpTo}
use Rattle.node_writeback.specs.Due.{root_in, root_of}
use Rattle.node_writeback.specs.Durable.{undurable}
use Rattle.node_writeback.specs.Placing.{IsFrozenLeaf}
use Rattle.node_writeback.specs.NodeWork.{NodeWork, frozen_nodes, left_nodes}
use Rattle.node_writeback.specs.declared.node.FrozenNode.{FrozenNode}
use Rattle.node_writeback.specs.declared.node.UnfinishedNode.{UnfinishedNode}
use Rattle.tree_nodes.specs.Levels.{Levels}
use Rattle.vol_types.specs.KeyMaps.{is_update_of}
use Rattle.vol_types.specs.Limits.{bucket_blocks}
use Rattle.vol_types.specs.Maps.{value_at}
use Rattle.vol_types.specs.declared.positions.Btree.{Btree}
use Rattle.vol_core.specs.VolumeLeaves.{fresh_leaf, fresh_leaves, leaves_in, leaves_left}

-- The only node of a btree is its root.
pub root_alone_in : (nodes : List Levels) → HaveOneNode nodes → (btree : Btree) → levels_of nodes btree ≡ one_node (root_in nodes btree)
root_alone_in nodes one btree = let alone = one btree in alone.1 ∙ ap one_node (sym (ap root_of alone.1))

-- What holds of a frozen node however much of it is written holds of all leaves that are frozen.
module _ (P : FreshLeaf → Type 0) (later : List (ℕ × ℕ)) where
  abbrev Holds : FrozenNode → Type 0
  Holds node = (written : ℕ) → P (fresh_leaf later written node)

  each_by : (finished : List FrozenNode) (unfinished : Option UnfinishedNode) → All Holds (finished ++ left_nodes unfinished) → All P (map (fresh_leaf later bucket_blocks) finished ++ leaves_left later unfinished)
  each_by [] None all = All-nil P
  each_by [] (Some left) all = All-cons P (fresh_leaf later left.written left.node) [] (All-head Holds left.node [] all left.written) (All-nil P)
  each_by (node ∷ finished) unfinished all =
      All-cons P (fresh_leaf later bucket_blocks node) (map (fresh_leaf later bucket_blocks) finished ++ leaves_left later unfinished) (All-head Holds node (finished ++ left_nodes unfinished) all bucket_blocks)
      (each_by finished unfinished (All-tail Holds node (finished ++ left_nodes unfinished) all))

  pub each_fresh : (work : NodeWork) → All Holds (frozen_nodes work) → All P (fresh_leaves later work)
  each_fresh work all = each_by work.finished work.unfinished all

some_is : (o : Option ℕ) → IsSome o → (p : ℕ) × (o ≡ Some p)
some_is None some = absurd (true≢false (sym some))
some_is (Some p) some = (p, refl)

-- An entry that changes a btree is the first of those that wait that does, where it is the first of these.
first_is : (btree : Btree) (entry : Pending) (later : List Pending) → ChangesBtree btree entry.changes.updates → first_with btree (entry ∷ later) ≡ Some (entry.after + 1)
first_is btree entry later changes = by (changes_btree btree entry.changes.updates) (list_any_at (is_update_of btree) entry.changes.updates changes.1.0 changes.0 changes.1.1 (ap (is_update_of btree) changes.1.2 ∙ changes.2))
  where
    by : (changed : Bool) → changed ≡ true → cond changed (Some (entry.after + 1)) (first_with btree later) ≡ Some (entry.after + 1)
    by changed is = ap (λ (b : Bool). cond b (Some (entry.after + 1)) (first_with btree later)) is

module _ (volume : Volume) (is : IsVolume volume) (one : HaveOneNode volume.trees.nodes) (flight : Flight) (flies : volume.writer.flight ≡ Some flight) where
  held : IsFlightHeld volume.writer.durable volume.pins flight
  held = subst (λ (o : Option Flight). IfSome o (IsFlightHeld volume.writer.durable volume.pins)) flies is.held_back.flight

  -- The entry in flight is the first of those that aren't durable.
  first_in : (btree : Btree) → ChangesBtree btree flight.entry.changes.updates → first_with btree (undurable_in volume) ≡ Some (flight.entry.after + 1)
  first_in btree changes = ap (λ (o : Option Flight). first_with btree (undurable (in_flight o) volume.queue)) flies ∙ first_is btree flight.entry (waiting_entries volume.queue) changes

  roots_from : (btree : Btree) → IsFrom (value_at nat_cmp (root_in volume.trees.nodes btree).birth volume.pins) flight.oldest
  roots_from btree p pinned = pinned-each flight.oldest (root_in volume.trees.nodes btree).birth p volume.pins held.pinned pinned

  roots_lack : (btree : Btree) → ChangesBtree btree flight.entry.changes.updates → IsPinnedUpTo (value_at nat_cmp (root_in volume.trees.nodes btree).birth volume.pins) (flight.entry.after + 1)
  roots_lack btree changes = is.pinned btree (root_in volume.trees.nodes btree) (root_alone_in volume.trees.nodes one btree) (flight.entry.after + 1) (first_in btree changes)

  -- A frozen leaf lacks no older entry than its root pins.
  frozen_from : (node : FrozenNode) → IsFrozenLeaf volume.trees.nodes volume.pins node → IsFrozenKept volume node → IsFrom (value_at nat_cmp node.birth volume.later) flight.oldest
  frozen_from node leaf kept l noted =
      let pin = some_is (value_at nat_cmp node.birth volume.pins) leaf.pinned in
      let newer = kept.since pin.0 l pin.1 noted in
      let from = pinned-each flight.oldest node.birth pin.0 volume.pins held.pinned pin.1 in
      omega (arith, newer, from)

  frozen_lack : (node : FrozenNode) → IsFrozenKept volume node → ChangesBtree node.btree flight.entry.changes.updates → IsPinnedUpTo (value_at nat_cmp node.birth volume.later) (flight.entry.after + 1)
  frozen_lack node kept changes = kept.later (flight.entry.after + 1) (first_in node.btree changes)

  -- The pins hold back what the entry in flight needs, and it.
  pub holds_back : (f : Found) (w : Writing) → f.last.entry.oldest + w.passed ≡ flight.oldest → w.next.entry.sequence ≡ flight.entry.after + 1 → w.next.entry.updates ≡ flight.entry.changes.updates → HoldBack f w (leaves_in volume)
  holds_back f w oldest sequence updates = record {
    pins = λ btree. from_there _ (roots_from btree);
    changes = λ btree changes. up_to_it _ (roots_lack btree (changes_it btree changes));
    later = each_fresh (λ (fresh : FreshLeaf). IsFrom fresh.later (f.last.entry.oldest + w.passed)) volume.later volume.work (λ k d within written. from_there _ (frozen_from _ (is.work.leaves.each k d within) (is.work.each k d within)));
    later_changes = each_fresh (λ (fresh : FreshLeaf). ChangesBtree fresh.btree w.next.entry.updates → IsPinnedUpTo fresh.later w.next.entry.sequence) volume.later volume.work
        (λ k d within written changes. up_to_it _ (frozen_lack _ (is.work.each k d within) (changes_it _ changes)));
  }
    where
      from_there : (pin : Option ℕ) → IsFrom pin flight.oldest → IsFrom pin (f.last.entry.oldest + w.passed)
      from_there pin from = subst (IsFrom pin) (sym oldest) from

      up_to_it : (pin : Option ℕ) → IsPinnedUpTo pin (flight.entry.after + 1) → IsPinnedUpTo pin w.next.entry.sequence
      up_to_it pin pinned = subst (IsPinnedUpTo pin) (sym sequence) pinned

      changes_it : (btree : Btree) → ChangesBtree btree w.next.entry.updates → ChangesBtree btree flight.entry.changes.updates
      changes_it btree changes = subst (ChangesBtree btree) updates changes
