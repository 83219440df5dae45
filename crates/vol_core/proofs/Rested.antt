-- At rest after a checkpoint no node is dirty and the ring is free: what is kept of the ring says that whatever is pinned is the root of a btree and would
-- be due, and that the one entry that is needed takes at most 64 blocks.
use Rattle.std.proofs.Common.{◌≡◌, ◌≤◌, ◌<◌, ◌+◌, ◌-◌, ⊎_elim, ℕ, Bool, true, false, cond, not, List, [], ◌∷◌, ◌++◌, length, Option, Some, None, refl, sym, ap, subst, take, ◌∙◌, arith}
use Rattle.std.proofs.lemmas.Bool.{and_from, cases_lt, eq-eqb, eqb-true, le-leb, lt-ltb, true≢false}
use Rattle.std.proofs.lemmas.List.Elements.{All-cons, All-contains, All-nil}
use Rattle.std.specs.List.{filter}
use Rattle.std.specs.Ordering.{nat_cmp}
use Rattle.std.specs.Prelude.{◌&&◌, ◌||◌, ◌==◌, nat_le, nat_lt, All, Contains, option_map, slice_get, slice_index_or}
use Rattle.birth_index.specs.Births.{levels_of}
use Rattle.birth_index.specs.NameLaws.{birth_itself}
use Rattle.btree_map.specs.Sizes.{all_btrees}
use Rattle.core_volume.specs.Commits.{AreIntended}
use Rattle.core_volume.specs.Rulings.{IsFull}
use Rattle.core_volume.specs.Sealing.{oldest_needed}
use Rattle.core_volume.specs.Volumes.{IsVolume, Volume, birth_due, can_let_go, is_idle, last_sealed, needs_entry, node_stage_by}
use Rattle.journal_writer.specs.Queues.{blocks_with, first_of, growth, last_block, oldest}
use Rattle.journal_writer.specs.declared.changes.Pending.{Pending}
use Rattle.journal_writer.specs.Writers.{Writer, first_flag, flush_before, stage_by, step_of}
use Rattle.journal_writer.specs.declared.stage.Stage.{Stage}
use Rattle.journal_writer.specs.declared.stage.Stage.TheVariants.{CommitNodes, Freeze, Rest, Seal, Settle, WriteEntry, WriteSet}
use Rattle.journal_writer.specs.declared.writer.Flight.{Flight}
use Rattle.node_writeback.specs.Due.{is_due, is_pinned_up_to, leaf_due, root_in}
use Rattle.node_writeback.specs.NodeWork.{first_left, frozen_nodes}
use Rattle.node_writeback.specs.declared.node.FrozenNode.{FrozenNode}
use Rattle.pin_list.specs.Pins.{least_pin, smaller}
use Rattle.tree_nodes.specs.Levels.{Levels}
use Rattle.vol_types.specs.LayoutLaws.{layout_found}
use Rattle.vol_types.specs.Maps.{value_at}
use Rattle.vol_types.specs.declared.keys.Update.{Update}
use Rattle.vol_types.specs.declared.positions.Btree.{Btree}
use Rattle.vol_types.specs.declared.positions.Btree.TheVariants.{Extents, Inodes, Dirents, Subvols, Snapshots, Alloc, Backptrs, Deleted, Counters}
use Rattle.vol_core.specs.Rested.{HasRoomAfterCheckpoint, IsRested, KeepsRing, last_start, newest_changed}
use Rattle.vol_core.proofs.HeldLeaves.{root_alone_in}
use Rattle.vol_core.proofs.RingKept.{all_finished}

-- ---- tests

none_of : (one other : Bool) → (one || other) ≡ false → (one ≡ false) × (other ≡ false)
none_of true true is = absurd (true≢false is)
none_of true false is = absurd (true≢false is)
none_of false true is = absurd (true≢false is)
none_of false false is = (refl, refl)

is_so : (test : Bool) → not test ≡ false → test ≡ true
is_so true is = refl
is_so false is = absurd (true≢false is)

alone_false : (test : Bool) → (test && true) ≡ false → test ≡ false
alone_false true is = absurd (true≢false is)
alone_false false is = refl

-- A number that isn't below another one is at least that.
at_least : (one other : ℕ) → nat_lt one other ≡ false → other ≤ one
at_least one other is = ⊎_elim (λ (less : one < other). absurd (true≢false (sym (lt-ltb one other less) ∙ is))) (λ (most : other ≤ one). most) (cases_lt one other)

nil_of : {X : Type 0} (xs : List X) → length xs ≡ 0 → xs ≡ []
nil_of [] none = refl
nil_of (x ∷ xs) none = absurd (omega (arith, none))

-- Where the first of those that pass a test isn't there, none passes it.
pub none_passes : {X : Type 0} (test : X → Bool) (xs : List X) → slice_get (filter test xs) 0 ≡ None → All (λ x. test x ≡ false) xs
none_passes test [] none = All-nil (λ x. test x ≡ false)
none_passes {X} test (x ∷ xs) none = by (test x) refl none (none_passes test xs)
  where
    by : (b : Bool) → test x ≡ b → slice_get (cond b (x ∷ filter test xs) (filter test xs)) 0 ≡ None → (slice_get (filter test xs) 0 ≡ None → All (λ x. test x ≡ false) xs) → All (λ x. test x ≡ false) (x ∷ xs)
    by true is none rest = absurd cc
    by false is none rest = All-cons (λ x. test x ≡ false) x xs is (rest none)

pub each_is_one : (btree : Btree) → Contains all_btrees btree
each_is_one Extents = (0, omega arith, refl)
each_is_one Inodes = (1, omega arith, refl)
each_is_one Dirents = (2, omega arith, refl)
each_is_one Subvols = (3, omega arith, refl)
each_is_one Snapshots = (4, omega arith, refl)
each_is_one Alloc = (5, omega arith, refl)
each_is_one Backptrs = (6, omega arith, refl)
each_is_one Deleted = (7, omega arith, refl)
each_is_one Counters = (8, omega arith, refl)

-- ---- stages

flush_rests_nothing : (dev : Option ℕ) (stage : Stage) → (stage ≡ Rest → ⊥) → flush_before dev stage ≡ Rest → ⊥
flush_rests_nothing None stage other is = other is
flush_rests_nothing (Some dev) stage other is = cc

write_is_no_rest : WriteEntry ≡ Rest → ⊥
write_is_no_rest is = cc

settle_is_no_rest : Settle ≡ Rest → ⊥
settle_is_no_rest is = cc

seal_is_no_rest : Seal ≡ Rest → ⊥
seal_is_no_rest is = cc

place_is_no_rest : CommitNodes ≡ Rest → ⊥
place_is_no_rest is = cc

set_is_no_rest : (node : ℕ) → WriteSet node ≡ Rest → ⊥
set_is_no_rest node is = cc

freeze_is_no_rest : (node : ℕ) → Freeze node ≡ Rest → ⊥
freeze_is_no_rest node is = cc

stepping_rests_nothing : (writer : Writer) → step_of writer ≡ Rest → ⊥
stepping_rests_nothing writer is = by (writer.ring.written == 0) (writer.ring.written == length writer.ring.blocks) is
  where
    by : (none all : Bool) → cond none (flush_before (first_flag 0 writer.unsettled) WriteEntry) (cond all (flush_before (first_flag 0 (take writer.ring.mirrors writer.unsettled)) Settle) WriteEntry) ≡ Rest → ⊥
    by true all is = flush_rests_nothing (first_flag 0 writer.unsettled) WriteEntry write_is_no_rest is
    by false true is = flush_rests_nothing (first_flag 0 (take writer.ring.mirrors writer.unsettled)) Settle settle_is_no_rest is
    by false false is = write_is_no_rest is

-- At rest no entry is in flight, and none is needed.
resting : (flight : Option Flight) (needed : Bool) (writer : Writer) → stage_by flight needed writer ≡ Rest → (flight ≡ None) × (needed ≡ false)
resting None true writer is = absurd (seal_is_no_rest is)
resting None false writer is = (refl, refl)
resting (Some flight) needed writer is = absurd (stepping_rests_nothing writer is)

-- And no node is frozen, and none is to be.
nodes_resting : (left due : Option ℕ) (volume : Volume) → node_stage_by left due volume ≡ Rest → (left ≡ None) × (due ≡ None) × (volume.work.finished ≡ [])
nodes_resting (Some left) due volume is = absurd (set_is_no_rest left is)
nodes_resting None (Some due) volume is = absurd (freeze_is_no_rest due is)
nodes_resting None None volume is = (refl, refl, nil_of volume.work.finished (by (length volume.work.finished == 0) refl is))
  where
    by : (b : Bool) → (length volume.work.finished == 0) ≡ b → cond b Rest (flush_before (first_flag 0 (take volume.writer.ring.mirrors volume.writer.unsettled)) CommitNodes) ≡ Rest → length volume.work.finished ≡ 0
    by true none is = eqb-true (length volume.work.finished) 0 none
    by false some is = absurd (flush_rests_nothing (first_flag 0 (take volume.writer.ring.mirrors volume.writer.unsettled)) CommitNodes place_is_no_rest is)

pub map_none : {X Y : Type 0} (f : X → Y) (o : Option X) → option_map f o ≡ None → o ≡ None
map_none f None is = refl
map_none f (Some x) is = absurd cc

-- ---- what a volume at rest is

-- An entry without updates takes one block.
one_block : (mirrors : ℕ) → mirrors ≤ 3 → blocks_with mirrors [] ≤ 1
one_block mirrors few = omega (arith, few)

-- The open entry grows by at most 64 blocks.
few_grown : (close : Bool) (alone all before : ℕ) → nat_lt 64 all ≡ close → alone ≤ 64 → cond close alone (all - before) ≤ 64
few_grown true alone all before is few = few
few_grown false alone all before is few = let most = at_least 64 all is in omega (arith, most)

module _ (volume : Volume) (is : IsVolume volume) (ring : KeepsRing volume) (rests : IsRested volume) where
  journal_rests : (volume.writer.flight ≡ None) × (needs_entry volume ≡ false)
  journal_rests = resting volume.writer.flight (needs_entry volume) volume.writer rests.journal

  nodes_rest : (first_left volume.work ≡ None) × (birth_due volume ≡ None) × (volume.work.finished ≡ [])
  nodes_rest = nodes_resting (first_left volume.work) (birth_due volume) volume rests.nodes

  -- Nothing needs a further entry: none is closed, the open one has no updates, no bucket waits for it, and the last durable one lets none go.
  unneeded : (volume.queue.closed ≡ []) × (volume.queue.open_entry.changes.updates ≡ []) × (can_let_go volume.writer.durable volume.pins ≡ false) × (volume.emptied ≤ volume.queue.open_entry.after)
  unneeded =
      let last = none_of _ _ journal_rests.1 in
      let fourth = none_of _ _ last.0 in
      let third = none_of _ _ fourth.0 in
      let second = none_of _ _ third.0 in (
        nil_of volume.queue.closed (eqb-true (length volume.queue.closed) 0 (is_so (length volume.queue.closed == 0) second.0)),
        nil_of volume.queue.open_entry.changes.updates (eqb-true (length volume.queue.open_entry.changes.updates) 0 (is_so (length volume.queue.open_entry.changes.updates == 0) second.1)),
        last.1,
        at_least volume.queue.open_entry.after volume.emptied fourth.1,
      )

  -- The open entry is the next one to be written, and follows the last durable one.
  open_next : (oldest volume.queue) ≡ volume.queue.open_entry
  open_next = ap (λ (closed : List Pending). first_of closed volume.queue.open_entry) unneeded.0

  follows : volume.queue.open_entry.after ≡ volume.writer.durable.sequence
  follows = ap (λ (entry : Pending). entry.after) (sym open_next) ∙ is.in_turn.waiting_ones ∙ ap (λ (flight : Option Flight). last_sealed flight volume.writer.durable.sequence) journal_rests.0

  newest_is : newest_changed volume.queue ≡ volume.writer.durable.sequence
  newest_is = ap (λ (updates : List Update). cond (length updates == 0) volume.queue.open_entry.after (volume.queue.open_entry.after + 1)) unneeded.1 ∙ follows

  none_due : (btree : Btree) → is_due volume.writer.durable.sequence volume.trees.nodes volume.pins volume.work.finished btree ≡ false
  none_due btree =
      All-contains (λ (b : Btree). is_due volume.writer.durable.sequence volume.trees.nodes volume.pins volume.work.finished b ≡ false) all_btrees btree
      (none_passes (is_due volume.writer.durable.sequence volume.trees.nodes volume.pins volume.work.finished) all_btrees
      (map_none (λ (btree : Btree). (root_in volume.trees.nodes btree).birth) (leaf_due volume.writer.durable.sequence volume.trees.nodes volume.pins volume.work.finished) nodes_rest.1))
      (each_is_one btree)

  -- What is pinned would be due.
  pinned_due : (birth number : ℕ) → value_at nat_cmp birth volume.pins ≡ Some number → ⊥
  pinned_due birth number pinned =
      let root = ring.nodes birth number pinned in
      let most : number ≤ volume.writer.durable.sequence = subst (λ (n : ℕ). number ≤ n) newest_is (ring.pins birth number pinned) in
      let alone : (length (levels_of volume.trees.nodes root.0) == 1) ≡ true = eq-eqb (length (levels_of volume.trees.nodes root.0)) 1 (ap (λ (levels : Levels). length levels) (root_alone_in volume.trees.nodes ring.one root.0)) in
      let up_to : is_pinned_up_to volume.writer.durable.sequence (value_at nat_cmp (root_in volume.trees.nodes root.0).birth volume.pins) ≡ true =
      ap (is_pinned_up_to volume.writer.durable.sequence) (ap (λ (b : ℕ). value_at nat_cmp b volume.pins) root.1 ∙ pinned) ∙ le-leb number volume.writer.durable.sequence most in
      let due : is_due volume.writer.durable.sequence volume.trees.nodes volume.pins [] root.0 ≡ true = and_from _ _ alone up_to in
      let none : is_due volume.writer.durable.sequence volume.trees.nodes volume.pins [] root.0 ≡ false =
      ap (λ (finished : List FrozenNode). is_due volume.writer.durable.sequence volume.trees.nodes volume.pins finished root.0) (sym nodes_rest.2) ∙ none_due root.0 in
      true≢false (sym due ∙ none)

  -- So no node is dirty.
  clean : volume.pins ≡ []
  clean = by volume.pins refl
    where
      by : (numbers : List (ℕ × ℕ)) → volume.pins ≡ numbers → numbers ≡ []
      by [] same = refl
      by (pin ∷ rest) same = absurd (pinned_due pin.0 pin.1 (ap (value_at nat_cmp pin.0) same ∙ ap (λ (b : Bool). cond b (Some pin.1) (value_at nat_cmp pin.0 rest)) (birth_itself pin.0)))

  -- The last durable entry would let an older one go.
  needs_none : volume.writer.durable.sequence ≤ volume.writer.durable.oldest
  needs_none = at_least volume.writer.durable.oldest volume.writer.durable.sequence (alone_false (nat_lt volume.writer.durable.oldest volume.writer.durable.sequence) (ap (can_let_go volume.writer.durable) (sym clean) ∙ unneeded.2))

  -- No node is dirty, no bucket waits, and no node is frozen.
  idle : is_idle volume ≡ true
  idle =
      let none_waits : nat_le volume.emptied volume.writer.durable.sequence ≡ true = le-leb volume.emptied volume.writer.durable.sequence (let most = unneeded.3 in let same = follows in omega (arith, most, same)) in
      let none_frozen : (length (frozen_nodes volume.work) == 0) ≡ true = ap (λ (nodes : List FrozenNode). length nodes == 0) (all_finished volume.work.finished volume.work.unfinished nodes_rest.0 ∙ nodes_rest.2) in
      and_from _ _ (ap (λ (pins : List (ℕ × ℕ)). length pins == 0) clean) (and_from _ _ none_waits none_frozen)

  next_needs_none : oldest_needed volume ≡ (oldest volume.queue).after + 1
  next_needs_none = ap (λ (pins : List (ℕ × ℕ)). smaller ((oldest volume.queue).after + 1) (least_pin pins)) clean

  -- It alone is needed, and begins at the first number that is known.
  first_is : volume.writer.durable.first ≡ last_start volume.writer.starts
  first_is =
      let count : volume.writer.durable.oldest + length volume.writer.starts ≡ volume.writer.durable.sequence + 1 = ring.count ∙ ap (λ (flight : Option Flight). last_sealed flight volume.writer.durable.sequence + 1) journal_rests.0 in
      let needs = ring.needs in
      let least = needs_none in
      let zero_is : 0 ≡ length volume.writer.starts - 1 = omega (arith, count, needs, least) in
      ring.first ∙ ap (λ (n : ℕ). slice_index_or volume.writer.starts n 0) zero_is

  -- The journal has room for each commit.
  has_room : (updates : List Update) → AreIntended volume.layout.metadata_replicas updates → ¬ IsFull volume updates
  has_room updates are full =
      let layout = layout_found volume.layout is.placed in
      let least : 256 ≤ volume.layout.journal = layout.journal_range.0 in
      let most = layout.metadata.1 in
      let same = is.mirrors in
      let alone : blocks_with volume.queue.mirrors updates ≤ 64 = subst (λ (n : ℕ). blocks_with n updates ≤ 64) (sym is.mirrors) are.few in
      let grows : growth updates volume.queue ≤ 64 =
      few_grown (nat_lt 64 (blocks_with volume.queue.mirrors (volume.queue.open_entry.changes.updates ++ updates))) (blocks_with volume.queue.mirrors updates)
      (blocks_with volume.queue.mirrors (volume.queue.open_entry.changes.updates ++ updates)) (blocks_with volume.queue.mirrors volume.queue.open_entry.changes.updates) refl alone in
      let one : blocks_with volume.queue.mirrors volume.queue.open_entry.changes.updates ≤ 1 =
      subst (λ (us : List Update). blocks_with volume.queue.mirrors us ≤ 1) (sym unneeded.1) (one_block volume.queue.mirrors (omega (arith, most, same))) in
      let behind : volume.queue.open_entry.behind ≤ volume.writer.ring.next = subst (λ (entry : Pending). entry.behind ≤ volume.writer.ring.next) open_next ring.behind in
      let few = ring.few in
      let first = first_is in
      let last : last_block volume.queue ≤ volume.queue.open_entry.behind + 1 = omega (arith, one) in
      room_for (last_block volume.queue) volume.writer.durable.first volume.layout.journal (growth updates volume.queue) volume.queue.open_entry.behind volume.writer.ring.next (last_start volume.writer.starts) least grows last behind few first full
    where
      room_for : (last first journal grown behind next start : ℕ) → 256 ≤ journal → grown ≤ 64 → last ≤ behind + 1 → behind ≤ next → next ≤ start + 64 → first ≡ start → journal - (last + 1 - first) < grown + 64 → ⊥
      room_for last first journal grown behind next start least grows few_last few_behind few_next same full = omega (arith, least, grows, few_last, few_behind, few_next, same, full)

  -- At rest the ring is free.
  pub rested : HasRoomAfterCheckpoint volume
  rested = record { clean = clean; durable = needs_none; next = next_needs_none; idle = idle; room = has_room }
