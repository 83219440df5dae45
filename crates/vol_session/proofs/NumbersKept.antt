-- The numbers that a session draws rise no faster than its commits and the moments that pass, whatever an event does.
use Rattle.std.proofs.Common.{◌≡◌, ◌+◌, ◌*◌, ◌≤◌, ℕ, zero, suc, Bool, true, false, cond, Option, Some, None, List, [], ◌∷◌, ◌++◌, length, take, refl, sym, ap, ◌∙◌, subst, ⊎_elim, arith}
use Rattle.std.specs.Prelude.{◌≢◌, ◌==◌, ◌||◌, IfSome, slice_index_or}
use Rattle.std.proofs.lemmas.Bool.Decides.{eqb_tells}
use Rattle.std.proofs.lemmas.List.{length-append}
use Rattle.core_volume.specs.Checkpoints.{AreInPlace, IsFreezeRefused, IsLeafFrozen, after_refused, given_up}
use Rattle.core_volume.specs.Commits.{IsCommitted}
use Rattle.core_volume.specs.Sealing.{IsFlown, next_record, settled_volume, with_writer}
use Rattle.core_volume.specs.Volumes.{IsVolume, KeepParts, Volume, needs_entry, node_stage_by, stage_of, undurable_in}
use Rattle.vol_types.specs.declared.failure.Halt.{Halt}
use Rattle.core_actors.specs.declared.answer.Refusal.{Refusal}
use Rattle.core_actors.specs.declared.answer.Refusal.TheVariants as refusals
use Rattle.btree_map.specs.Trees.{keys_in}
use Rattle.journal_writer.specs.Changes.{changes_of}
use Rattle.journal_writer.specs.Queues.{AreFollowed, Queue, blocks_with, closes, first_of, first_with, follower_of, left_by, oldest, with_commit, without_oldest}
use Rattle.journal_writer.specs.declared.changes.KeyChanges.{KeyChanges}
use Rattle.journal_writer.specs.declared.changes.Pending.{Pending}
use Rattle.journal_writer.specs.Writers.{Writer, first_flag, flush_before, settled, settled_by, stage_by, unsettled_by, with_flags, with_flushed}
use Rattle.journal_writer.specs.declared.stage.Stage.{Stage}
use Rattle.journal_writer.specs.declared.stage.Stage.TheVariants.{CommitNodes, Freeze, Rest, Settle, WriteEntry, WriteSet}
use Rattle.journal_writer.specs.declared.writer.Flight.{Flight}
use Rattle.image_view.specs.Found.{Found}
use Rattle.journal_ring.specs.EntryBlocks.{parts_of}
use Rattle.node_writeback.specs.Freezing.{next_birth}
use Rattle.node_writeback.specs.NodeWork.{NodeWork, birth_left, first_left, frozen_nodes, left_nodes, with_frozen, with_part_of}
use Rattle.node_writeback.specs.declared.node.FrozenNode.{FrozenNode}
use Rattle.node_writeback.specs.declared.node.UnfinishedNode.{UnfinishedNode}
use Rattle.std.specs.Ordering.{nat_cmp}
use Rattle.tree_nodes.specs.Levels.{Levels}
use Rattle.bucket_pool.specs.Space.{Space, noded}
use Rattle.vol_types.specs.Maps.{put_at}
use Rattle.vol_types.specs.Limits.{bucket_blocks}
use Rattle.vol_types.specs.declared.keys.Update.{Update}
use Rattle.vol_session.specs.Numbers.{AreBornBefore, AreNumbersLow, flush_owed, write_owed}
use Rattle.vol_session.proofs.BornBefore.{MayBeExchanged, born-placed}
use Rattle.vol_session.proofs.UncommittingEvents.{flown_free}

-- ---- what is owed

-- It is at most one.
one_bit : (b : Bool) → cond {A = ℕ} b 1 0 ≤ 1
one_bit true = omega arith
one_bit false = omega arith

pub flush_owed-most : (flight : Option Flight) (writer : Writer) → flush_owed flight writer ≤ 1
flush_owed-most None writer = omega arith
flush_owed-most (Some flight) writer = one_bit ((writer.ring.written == 0) || slice_index_or writer.unsettled 0 false)

pub write_owed-most : (unfinished : Option UnfinishedNode) → write_owed unfinished ≤ 1
write_owed-most None = omega arith
write_owed-most (Some unfinished) = one_bit (unfinished.written == 0)

one_by_flag : (b flag : Bool) → flag ≡ true → cond {A = ℕ} (b || flag) 1 0 ≡ 1
one_by_flag true flag set = refl
one_by_flag false flag set = ap (λ (f : Bool). cond {A = ℕ} f 1 0) set

-- Where the first metadata device is to be flushed, no less is owed than before.
owed-raised : (flight : Option Flight) (old new : Writer) → slice_index_or new.unsettled 0 false ≡ true → flush_owed flight old ≤ flush_owed flight new
owed-raised None old new set = omega arith
owed-raised (Some flight) old new set =
    let most = flush_owed-most (Some flight) old in
    let one : flush_owed (Some flight) new ≡ 1 = one_by_flag (new.ring.written == 0) (slice_index_or new.unsettled 0 false) set in
    omega (arith, most, one)

pub first_raised : (mirrors : ℕ) (flags : List Bool) → 1 ≤ mirrors → slice_index_or (with_flags mirrors flags) 0 false ≡ true
first_raised zero flags some = absurd (omega (arith, some))
first_raised (suc mirrors) flags some = refl

-- Where the first devices are all flushed, the first one is.
first_settled : (mirrors : ℕ) (flags : List Bool) → 1 ≤ mirrors → first_flag 0 (take mirrors flags) ≡ None → slice_index_or flags 0 false ≡ false
first_settled zero flags some none = absurd (omega (arith, some))
first_settled (suc mirrors) [] some none = refl
first_settled (suc mirrors) (true ∷ flags) some none = absurd cc
first_settled (suc mirrors) (false ∷ flags) some none = refl

write_is_no_settling : WriteEntry ≡ Settle → ⊥
write_is_no_settling is = cc

no_step_settles : (dev : Option ℕ) → flush_before dev WriteEntry ≡ Settle → ⊥
no_step_settles None is = write_is_no_settling is
no_step_settles (Some dev) is = cc

flush_settles : (dev : Option ℕ) → flush_before dev Settle ≡ Settle → dev ≡ None
flush_settles None is = refl
flush_settles (Some dev) is = absurd cc

settles_by : (none all : Bool) (first last : Option ℕ) → cond none (flush_before first WriteEntry) (cond all (flush_before last Settle) WriteEntry) ≡ Settle → (none ≡ false) × (last ≡ None)
settles_by true all first last is = absurd (no_step_settles first is)
settles_by false true first last is = (refl, flush_settles last is)
settles_by false false first last is = absurd (write_is_no_settling is)

none_by : (b flag : Bool) → b ≡ false → flag ≡ false → cond {A = ℕ} (b || flag) 1 0 ≡ 0
none_by true flag is clear = absurd cc
none_by false flag is clear = ap (λ (f : Bool). cond {A = ℕ} f 1 0) clear

-- Where the entry in flight is to become durable, nothing is owed.
settling_owes_nothing : (flight : Option Flight) (needed : Bool) (writer : Writer) → 1 ≤ writer.ring.mirrors → stage_by flight needed writer ≡ Settle → flush_owed flight writer ≡ 0
settling_owes_nothing None needed writer some is = refl
settling_owes_nothing (Some flight) needed writer some is =
    let steps = settles_by (writer.ring.written == 0) (writer.ring.written == length writer.ring.blocks) (first_flag 0 writer.unsettled) (first_flag 0 (take writer.ring.mirrors writer.unsettled)) is in
    none_by (writer.ring.written == 0) (slice_index_or writer.unsettled 0 false) steps.0 (first_settled writer.ring.mirrors writer.unsettled some steps.1)

-- ---- stages of the nodes

freezing_begins : (left due : Option ℕ) (volume : Volume) (node : ℕ) → node_stage_by left due volume ≡ Freeze node → left ≡ None
freezing_begins None due volume node is = refl
freezing_begins (Some birth) due volume node is = absurd cc

write_is_no_placing : (node : ℕ) → WriteSet node ≡ CommitNodes → ⊥
write_is_no_placing node is = cc

freeze_is_no_placing : (node : ℕ) → Freeze node ≡ CommitNodes → ⊥
freeze_is_no_placing node is = cc

-- Nodes are put in place where none is left to be written, and some were frozen.
some_finished : (none : Bool) (stage : Stage) → cond none Rest stage ≡ CommitNodes → none ≡ false
some_finished true stage is = absurd cc
some_finished false stage is = refl

placing_begins : (left due : Option ℕ) (volume : Volume) → node_stage_by left due volume ≡ CommitNodes → (left ≡ None) × (1 ≤ length volume.work.finished)
placing_begins (Some birth) due volume is = absurd (write_is_no_placing birth is)
placing_begins None (Some birth) volume is = absurd (freeze_is_no_placing birth is)
placing_begins None None volume is = (
  refl,
  ⊎_elim (λ empty. absurd (true_is_not_false (sym empty.0 ∙ some_finished (length volume.work.finished == 0) _ is))) (λ some. let apart : length volume.work.finished ≢ 0 = some.1 in omega (arith, apart)) (eqb_tells (length volume.work.finished) 0),
)
  where
    true_is_not_false : true ≡ false → ⊥
    true_is_not_false is = cc

none_left : (unfinished : Option UnfinishedNode) → birth_left unfinished ≡ None → unfinished ≡ None
none_left None is = refl
none_left (Some unfinished) is = absurd cc

-- ---- entries that wait

-- The next one of the entries that wait is behind the one that is put in flight.
next_after : (mirrors : ℕ) (closed : List Pending) (open_entry : Pending) → AreFollowed mirrors closed open_entry
    → (oldest (left_by closed (record { mirrors = mirrors; closed = closed; open_entry = open_entry }))).after ≡ (first_of closed open_entry).after + 1
next_after mirrors [] open_entry followed = refl
next_after mirrors (entry ∷ later) open_entry followed = followed.0.sequence

-- The open entry is the same, or one that follows it.
open_after : (closed : List Pending) (queue : Queue) → ((left_by closed queue).open_entry.after ≤ queue.open_entry.after + 1) × (queue.open_entry.after ≤ (left_by closed queue).open_entry.after)
open_after [] queue = (omega arith, omega arith)
open_after (entry ∷ later) queue = (omega arith, omega arith)

open_behind : (closed : List Pending) (queue : Queue) (first end : ℕ) → blocks_with queue.mirrors queue.open_entry.changes.updates ≤ 64 → queue.open_entry.behind + 64 * first ≤ end + 64 * queue.open_entry.after
    → (left_by closed queue).open_entry.behind + 64 * first ≤ end + 64 * (left_by closed queue).open_entry.after
open_behind [] queue first end few low = omega (arith, few, low)
open_behind (entry ∷ later) queue first end few low = low

-- the queue with a commit's changes, where the open entry is closed before they join, or isn't
abbrev ready_by : Queue → Bool → Queue
ready_by queue close = cond close (record { mirrors = queue.mirrors; closed = queue.closed ++ queue.open_entry ∷ []; open_entry = follower_of queue.mirrors queue.open_entry }) queue

abbrev joined_by : KeyChanges → Queue → Bool → Queue
joined_by changes queue close = let ready = ready_by queue close in record { mirrors = ready.mirrors; closed = ready.closed; open_entry = with_commit changes true ready.open_entry }

first_pushed : (closed : List Pending) (open_entry next : Pending) → (first_of (closed ++ open_entry ∷ []) next).after ≡ (first_of closed open_entry).after
first_pushed [] open_entry next = refl
first_pushed (entry ∷ later) open_entry next = refl

first_changed : (closed : List Pending) (open_entry next : Pending) → next.after ≡ open_entry.after → (first_of closed next).after ≡ (first_of closed open_entry).after
first_changed [] open_entry next same = same
first_changed (entry ∷ later) open_entry next same = refl

-- What a commit makes of the sequence of the open entry, of its blocks, and of the sequence of the oldest one.
pub record JoinsSlowly (first end : ℕ) (old new : Queue) : Type 0 where
  pub sequence : new.open_entry.after ≤ old.open_entry.after + 1
  pub blocks : new.open_entry.behind + 64 * first ≤ end + 64 * new.open_entry.after
  pub oldest_one : (oldest new).after ≡ (oldest old).after

joins_by : (changes : KeyChanges) (queue : Queue) (close : Bool) (first end : ℕ) → blocks_with queue.mirrors queue.open_entry.changes.updates ≤ 64 → queue.open_entry.behind + 64 * first ≤ end + 64 * queue.open_entry.after
    → JoinsSlowly first end queue (joined_by changes queue close)
joins_by changes queue true first end few low = record {
  sequence = omega arith;
  blocks = omega (arith, few, low);
  oldest_one = first_pushed queue.closed queue.open_entry (with_commit changes true (follower_of queue.mirrors queue.open_entry));
}
joins_by changes queue false first end few low = record {
  sequence = omega arith;
  blocks = low;
  oldest_one = first_changed queue.closed queue.open_entry (with_commit changes true queue.open_entry) refl;
}

-- ---- what an event makes of the numbers

-- A node that is born later has a later birth.
born-later : (session born more : ℕ) (nodes : List Levels) → born ≤ more → AreBornBefore nodes (next_birth session born) → AreBornBefore nodes (next_birth session more)
born-later session born more nodes to before name birth has = let early = before name birth has in omega (arith, to, early)

module _ (begun : Found) (commits time later : ℕ) (passes : time ≤ later) (old : Volume) (low : AreNumbersLow begun commits time old) where
  -- Nothing has changed.
  pub low-later : AreNumbersLow begun commits later old
  low-later = record {
    session = low.session;
    sequence = let s = low.sequence in omega (arith, s, passes);
    blocks = low.blocks;
    ring = low.ring;
    births = let b = low.births in omega (arith, b, passes);
    changes = low.changes;
    nodes = low.nodes;
  }

  pub at-same : (new : Volume) → new ≡ old → AreNumbersLow begun commits later new
  at-same new same = subst (AreNumbersLow begun commits later) (sym same) low-later

  -- There is another writer, whose next block is the same, and no less is owed, or some time has passed.
  pub low-written : (writer : Writer) (space : Space) (halted : Option Halt) → writer.ring.next ≡ old.writer.ring.next → time + flush_owed old.writer.flight old.writer ≤ later + flush_owed writer.flight writer
      → AreNumbersLow begun commits later (record old { writer = writer; space = space; halted = halted })
  low-written writer space halted same owed = record {
    session = low.session;
    sequence = let s = low.sequence in omega (arith, s, owed);
    blocks = low.blocks;
    ring = let r = low.ring in omega (arith, r, same);
    births = let b = low.births in omega (arith, b, passes);
    changes = low.changes;
    nodes = low.nodes;
  }

  -- The metadata devices are to be flushed.
  pub low-raised : (writer : Writer) (halted : Option Halt) → writer.flight ≡ old.writer.flight → writer.ring.next ≡ old.writer.ring.next → slice_index_or writer.unsettled 0 false ≡ true
      → AreNumbersLow begun commits later (record old { writer = writer; halted = halted })
  low-raised writer halted flies same set =
      let owes : flush_owed old.writer.flight old.writer ≤ flush_owed writer.flight writer = subst (λ (f : Option Flight). flush_owed old.writer.flight old.writer ≤ flush_owed f writer) (sym flies) (owed-raised old.writer.flight old.writer writer set) in
      low-written writer old.space halted same (omega (arith, owes, passes))

  -- A device was flushed, which took time.
  pub low-flushed : time + 1 ≤ later → (dev : ℕ) → AreNumbersLow begun commits later (with_writer (with_flushed dev old.writer) old)
  low-flushed takes dev =
      let most = flush_owed-most old.writer.flight old.writer in
      low-written (with_flushed dev old.writer) old.space old.halted refl (omega (arith, most, takes))

  -- The entry in flight became durable.
  pub low-settled : 1 ≤ old.writer.ring.mirrors → stage_of old ≡ Settle → AreNumbersLow begun commits later (settled_volume old)
  low-settled some stage =
      let none : flush_owed old.writer.flight old.writer ≡ 0 = settling_owes_nothing old.writer.flight (needs_entry old) old.writer some stage in
      low-written (settled old.writer) (settled_volume old).space old.halted (next_same old.writer.flight) (omega (arith, none, passes))
    where
      next_same : (flight : Option Flight) → (settled_by flight old.writer).ring.next ≡ old.writer.ring.next
      next_same None = refl
      next_same (Some flight) = refl

  -- An entry was put in flight.
  pub low-flown : KeepParts old → (new : Volume) → IsFlown old new → AreNumbersLow begun commits later new
  low-flown parts new flown =
      subst (AreNumbersLow begun commits later) (sym (flown.rest ∙ ap (λ (w : Writer). record old { queue = without_oldest old.queue; writer = w }) flown.sealed.is))
      (record {
        session = low.session;
        sequence =
            let s = low.sequence in
            let owed : flush_owed old.writer.flight old.writer ≡ 0 = ap (λ (f : Option Flight). flush_owed f old.writer) (flown_free old new flown) in
            let after = (open_after old.queue.closed old.queue).0 in
            omega (arith, s, owed, after, passes);
        blocks = open_behind old.queue.closed old.queue begun.last.entry.sequence begun.last.end parts.queue.open_changes.few low.blocks;
        ring =
            let r = low.ring in
            let count : length new.writer.ring.blocks ≡ parts_of (next_record old) = flown.sealed.blocks.count in
            let few : parts_of (next_record old) ≤ 64 = flown.sealed.room.few in
            let next = next_after old.queue.mirrors old.queue.closed old.queue.open_entry parts.queue.followed in
            omega (arith, r, count, few, next);
        births = let b = low.births in omega (arith, b, passes);
        changes = low.changes;
        nodes = low.nodes;
      })

  -- ---- nodes

  -- A leaf was frozen.
  low-with_frozen : (node : FrozenNode) (noted : List (ℕ × ℕ)) (space : Space) → old.work.unfinished ≡ None → AreNumbersLow begun commits later (record old { later = noted; space = space; work = with_frozen node old.work })
  low-with_frozen node noted space none = record {
    session = low.session;
    sequence = let s = low.sequence in omega (arith, s, passes);
    blocks = low.blocks;
    ring = low.ring;
    births =
        let b = low.births in
        let owed : write_owed old.work.unfinished ≡ 0 = ap write_owed none in
        omega (arith, b, owed, passes);
    changes =
        let c = low.changes in
        let before : length (frozen_nodes old.work) ≡ length old.work.finished + 0 = ap (λ (u : Option UnfinishedNode). length (old.work.finished ++ left_nodes u)) none ∙ length-append old.work.finished [] in
        let now = length-append old.work.finished (node ∷ []) in
        omega (arith, c, before, now);
    nodes = λ early. born-later old.session old.work.born (old.work.born + 1) old.trees.nodes (omega arith) (low.nodes early);
  }

  pub low-frozen : (node : ℕ) (new : Volume) → IsLeafFrozen node old new → AreNumbersLow begun commits later new
  low-frozen node new frozen =
      let none : old.work.unfinished ≡ None = none_left old.work.unfinished (freezing_begins (first_left old.work) _ old node frozen.stage.stage_is) in
      subst (AreNumbersLow begun commits later) (sym (frozen.rest ∙ ap (λ (w : NodeWork). record old { later = put_at nat_cmp node (first_with frozen.btree (undurable_in old)) old.later; space = noded old.layout.metadata_replicas old.space; work = w }) frozen.frozen.is))
      (low-with_frozen _ _ _ none)

  -- The work on nodes was given up.
  low-given_up : old.work.unfinished ≡ None → AreNumbersLow begun commits later (given_up old)
  low-given_up none = record {
    session = low.session;
    sequence = let s = low.sequence in omega (arith, s, passes);
    blocks = low.blocks;
    ring = low.ring;
    births =
        let b = low.births in
        let owed : write_owed old.work.unfinished ≡ 0 = ap write_owed none in
        omega (arith, b, owed, passes);
    changes = let c = low.changes in omega (arith, c);
    nodes = low.nodes;
  }

  pub low-refused : (node : ℕ) (refusal : Refusal) → IsFreezeRefused node old refusal → AreNumbersLow begun commits later (after_refused refusal old)
  low-refused node (refusals.NoSpace none) refused = low-given_up (none_left old.work.unfinished (freezing_begins (first_left old.work) _ old node refused.0.stage_is))
  low-refused node (refusals.Halted halt) refused = low-later
  low-refused node refusals.Spent refused = low-later
  low-refused node (refusals.NeedSplit need) refused = low-later
  low-refused node (refusals.RingFull full) refused = low-later

  -- A block of a frozen node was written, which took time.
  pub low-block : (unfinished : Option UnfinishedNode) → old.work.unfinished ≡ unfinished → IfSome unfinished (λ _. time + 1 ≤ later) → slice_index_or (unsettled_by old.writer).unsettled 0 false ≡ true
      → AreNumbersLow begun commits later (record old { writer = unsettled_by old.writer; work = with_part_of unfinished old.work })
  low-block None is takes set = low-raised (unsettled_by old.writer) old.halted refl refl set
  low-block (Some unfinished) is takes set = by (unfinished.written + 1 == bucket_blocks)
    where
      raised : AreNumbersLow begun commits later (record old { writer = unsettled_by old.writer; halted = old.halted })
      raised = low-raised (unsettled_by old.writer) old.halted refl refl set

      frozen_before : length (frozen_nodes old.work) ≡ length old.work.finished + 1
      frozen_before = ap (λ (u : Option UnfinishedNode). length (old.work.finished ++ left_nodes u)) is ∙ length-append old.work.finished (unfinished.node ∷ [])

      born : old.work.born ≤ later
      born = let b = low.births in let most = write_owed-most old.work.unfinished in omega (arith, b, most, takes)

      by : (last : Bool)
          → AreNumbersLow begun commits later
          (record old {
            writer = unsettled_by old.writer;
            work = cond last (record { finished = old.work.finished ++ unfinished.node ∷ []; unfinished = None; born = old.work.born }) (record { finished = old.work.finished; unfinished = Some (record { node = unfinished.node; written = unfinished.written + 1 }); born = old.work.born });
          })
      by true = record {
        session = raised.session;
        sequence = raised.sequence;
        blocks = raised.blocks;
        ring = raised.ring;
        births = let b = born in omega (arith, b);
        changes =
            let c = low.changes in
            let before = frozen_before in
            let now = length-append (old.work.finished ++ unfinished.node ∷ []) [] in
            let one = length-append old.work.finished (unfinished.node ∷ []) in
            omega (arith, c, before, now, one);
        nodes = raised.nodes;
      }
      by false = record {
        session = raised.session;
        sequence = raised.sequence;
        blocks = raised.blocks;
        ring = raised.ring;
        births = let b = born in omega (arith, b);
        changes =
            let c = low.changes in
            let before = frozen_before in
            let one = length-append old.work.finished (unfinished.node ∷ []) in
            omega (arith, c, before, one);
        nodes = raised.nodes;
      }

  -- Frozen leaves were put in place.
  pub low-placed : MayBeExchanged → IsVolume old → (new : Volume) → AreInPlace old new → AreNumbersLow begun commits later new
  low-placed laws is new placed =
      let begins = placing_begins (first_left old.work) _ old placed.stage.stage_is in
      let none : old.work.unfinished ≡ None = none_left old.work.unfinished begins.0 in
      subst (AreNumbersLow begun commits later) (sym placed.rest)
      (record {
        session = low.session;
        sequence = let s = low.sequence in omega (arith, s, passes);
        blocks = low.blocks;
        ring = low.ring;
        births =
            let b = low.births in
            let owed : write_owed old.work.unfinished ≡ 0 = ap write_owed none in
            omega (arith, b, owed, passes);
        changes =
            let c = low.changes in
            let some = begins.1 in
            let before : length (frozen_nodes old.work) ≡ length old.work.finished + 0 = ap (λ (u : Option UnfinishedNode). length (old.work.finished ++ left_nodes u)) none ∙ length-append old.work.finished [] in
            omega (arith, c, some, before);
        nodes = λ early. born-placed laws old is.work none (low.nodes early);
      })

-- A commit joined.
pub low-committed : (begun : Found) (commits time : ℕ) (updates : List Update) (old new : Volume) → KeepParts old → IsCommitted updates true old new → AreNumbersLow begun commits time old → AreNumbersLow begun (commits + 1) time new
low-committed begun commits time updates old new parts made low =
    let changes = changes_of updates (keys_in old.trees) in
    let joins = joins_by changes old.queue (closes updates old.queue) begun.last.entry.sequence begun.last.end parts.queue.open_changes.few low.blocks in
    subst (AreNumbersLow begun (commits + 1) time) (sym made.rest)
    (record {
      session = low.session;
      sequence = let s = low.sequence in let more = joins.sequence in omega (arith, s, more);
      blocks = joins.blocks;
      ring = let r = low.ring in let same = joins.oldest_one in omega (arith, r, same);
      births = low.births;
      changes = let c = low.changes in omega (arith, c);
      nodes = λ early. subst (λ (nodes : List Levels). AreBornBefore nodes (next_birth old.session old.work.born)) (sym made.nodes) (low.nodes early);
    })
