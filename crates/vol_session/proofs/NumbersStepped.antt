-- The numbers that a session draws rise no faster than its commits and the moments that pass: at its opening, over each event that commits nothing, and over a commit.
use Rattle.std.proofs.Common.{◌≡◌, ◌+◌, ◌-◌, ◌^◌, ◌<◌, ◌≤◌, ℕ, true, false, Option, Some, None, List, [], ◌∷◌, ◌++◌, length, refl, sym, ap, subst, ⊎_elim, arith}
use Rattle.std.specs.Prelude.{All, IfSome, slice_index_or}
use Rattle.core_state.specs.Devices.{FlushesDevice, WritesNode}
use Rattle.core_state.specs.Events.{CommitNodesGives, FlushGives, FreezeGives, SealGives, SettleGives, WriteGives, WriteSetGives}
use Rattle.core_volume.specs.Opening.{opened_by}
use Rattle.core_state.specs.States.{State, other_holder}
use Rattle.core_volume.specs.Volumes.{IsVolume, KeepParts, Volume}
use Rattle.core_actors.specs.declared.answer.Answer.{Answer}
use Rattle.core_actors.specs.declared.answer.Answer.TheVariants as answers
use Rattle.vol_types.specs.declared.failure.Halt.{Halt}
use Rattle.core_actors.specs.declared.event.Event.{Event}
use Rattle.core_actors.specs.declared.event.Event.TheVariants as events
use Rattle.btree_map.specs.Trees.{Trees}
use Rattle.dev_model.specs.Devices.{DevicesState}
use Rattle.dev_model.specs.Frames.{GoOn}
use Rattle.journal_writer.specs.Writers.{unsettled_by, with_flags, with_next_part}
use Rattle.image_view.specs.Found.{Found}
use Rattle.journal_ring.specs.declared.found.FoundEntry.{FoundEntry}
use Rattle.node_writeback.specs.Freezing.{next_birth}
use Rattle.node_writeback.specs.Placing.{IsFrozenLeaf}
use Rattle.node_writeback.specs.NodeWork.{IsUnfinished, frozen_nodes, left_nodes}
use Rattle.node_writeback.specs.declared.node.FrozenNode.{FrozenNode}
use Rattle.node_writeback.specs.declared.node.UnfinishedNode.{UnfinishedNode}
use Rattle.birth_index.specs.Births.{birth_of}
use Rattle.std.proofs.lemmas.List.Elements.{All-head, All-tail}
use Rattle.tree_nodes.specs.Levels.{Levels}
use Rattle.vol_core.specs.Cores.{CoreState, StepGives}
use Rattle.vol_types.specs.Faults.{RoseBy}
use Rattle.vol_types.specs.declared.layout.Layout.{Layout}
use Rattle.vol_types.specs.declared.pointers.Place.{Place}
use Rattle.vol_session.specs.Numbers.{AreNumbersCounted, AreNumbersLow}
use Rattle.vol_session.specs.Sessions.{IsNoCommit}
use Rattle.vol_session.proofs.BornBefore.{MayBeExchanged}
use Rattle.vol_session.proofs.UncommittingEvents.{waits_same}
use Rattle.vol_session.proofs.NumbersKept.{at-same, first_raised, low-block, low-flown, low-flushed, low-frozen, low-later, low-placed, low-raised, low-refused, low-settled}

-- What holds of all holds of the last one.
All-last : (P : FrozenNode → Type 0) (nodes : List FrozenNode) (node : FrozenNode) → All P (nodes ++ node ∷ []) → P node
All-last P [] node all = All-head P node [] all
All-last P (other ∷ nodes) node all = All-last P nodes node (All-tail P other (nodes ++ node ∷ []) all)

-- A node that is frozen lies somewhere.
lies_somewhere : (volume : Volume) → IsVolume volume → KeepParts volume → IfSome volume.work.unfinished (λ (unfinished : UnfinishedNode). 0 < length unfinished.node.blocked.places)
lies_somewhere volume is parts = by volume.work.unfinished refl parts.work.unfinished
  where
    by : (unfinished : Option UnfinishedNode) → volume.work.unfinished ≡ unfinished → IfSome unfinished IsUnfinished → IfSome unfinished (λ (some : UnfinishedNode). 0 < length some.node.blocked.places)
    by None same kept = tt
    by (Some unfinished) same kept =
        let all : frozen_nodes volume.work ≡ volume.work.finished ++ unfinished.node ∷ [] = ap (λ (u : Option UnfinishedNode). volume.work.finished ++ left_nodes u) same in
        let leaf : IsFrozenLeaf volume.trees.nodes volume.pins unfinished.node =
        All-last (IsFrozenLeaf volume.trees.nodes volume.pins) volume.work.finished unfinished.node (subst (All (IsFrozenLeaf volume.trees.nodes volume.pins)) all is.work.leaves.each) in
        let copies = leaf.leaf.in_range.copies in
        let places : length unfinished.node.blocked.places ≡ length unfinished.node.fresh.places = ap (λ (places : List Place). length places) kept.node.places in
        omega (arith, copies.0, places)

module _ (laws : MayBeExchanged) (begun : Found) (commits time later : ℕ) (passes : time ≤ later) (old : State) (is : IsVolume old.volume) (parts : KeepParts old.volume) (low : AreNumbersLow begun commits time old.volume) (new : State) where
  abbrev AreLow : Type 0
  AreLow = AreNumbersLow begun commits later new.volume

  at_same : new.volume ≡ old.volume → AreLow
  at_same same = at-same begun commits time later passes old.volume low new.volume same

  at : (state : State) → new ≡ state → AreNumbersLow begun commits later state.volume → AreLow
  at state same low = subst (λ (s : State). AreNumbersLow begun commits later s.volume) (sym same) low

  some_mirror : 1 ≤ old.volume.writer.ring.mirrors
  some_mirror = let one = parts.queue.mirrored in let queue = is.mirrors in let ring = is.ring.mirrors in omega (arith, one, queue, ring)

  flag_set : slice_index_or (with_flags old.volume.writer.ring.mirrors old.volume.writer.unsettled) 0 false ≡ true
  flag_set = first_raised old.volume.writer.ring.mirrors old.volume.writer.unsettled some_mirror

  module _ (actor : ℕ) where
    low-seal : (answer : Answer) → SealGives old actor answer new → AreLow
    low-seal answers.Done gives = low-flown begun commits time later passes old.volume low parts new.volume gives.0
    low-seal (answers.At stage durable) gives = at_same (ap (λ (s : State). s.volume) gives.1.1)
    low-seal (answers.Refused refusal) gives = at_same (ap (λ (s : State). s.volume) gives.1)
    low-seal answers.NoMemory gives = at_same (ap (λ (s : State). s.volume) gives)
    low-seal (answers.Found keys) gives = absurd gives
    low-seal (answers.Ids tree) gives = absurd gives
    low-seal (answers.Wait holder) gives = absurd gives
    low-seal (answers.DeviceFault dev) gives = absurd gives

    low-part : (tick : ℕ) (answer : Answer) → WriteGives tick old actor answer new → AreLow
    low-part tick answers.Done gives = at _ gives.1 (low-raised begun commits time later passes old.volume low (with_next_part old.volume.writer) old.volume.halted refl refl flag_set)
    low-part tick (answers.DeviceFault dev) gives = at _ gives.1 (low-raised begun commits time later passes old.volume low (unsettled_by old.volume.writer) _ refl refl flag_set)
    low-part tick (answers.At stage durable) gives = at_same (ap (λ (s : State). s.volume) gives.1.1)
    low-part tick (answers.Refused refusal) gives = at_same (ap (λ (s : State). s.volume) gives.1)
    low-part tick answers.NoMemory gives = absurd gives
    low-part tick (answers.Found keys) gives = absurd gives
    low-part tick (answers.Ids tree) gives = absurd gives
    low-part tick (answers.Wait holder) gives = absurd gives

    low-flush : (dev tick : ℕ) (answer : Answer) → (answer ≡ answers.Done → time + 1 ≤ later) → FlushGives dev tick old actor answer new → AreLow
    low-flush dev tick answers.Done takes gives = at _ gives.1 (low-flushed begun commits time later passes old.volume low (takes refl) dev)
    low-flush dev tick (answers.DeviceFault failed) takes gives = at _ gives.2 (low-halted _)
      where
        low-halted : (halted : Option Halt) → AreNumbersLow begun commits later (record old.volume { halted = halted })
        low-halted halted = let same = low-later begun commits time later passes old.volume low in record {
          session = same.session;
          sequence = same.sequence;
          blocks = same.blocks;
          ring = same.ring;
          births = same.births;
          changes = same.changes;
          nodes = same.nodes;
        }
    low-flush dev tick (answers.Refused refusal) takes gives = at_same (ap (λ (s : State). s.volume) gives.1)
    low-flush dev tick (answers.At stage durable) takes gives = absurd gives
    low-flush dev tick answers.NoMemory takes gives = absurd gives
    low-flush dev tick (answers.Found keys) takes gives = absurd gives
    low-flush dev tick (answers.Ids tree) takes gives = absurd gives
    low-flush dev tick (answers.Wait holder) takes gives = absurd gives

    low-settle : (answer : Answer) → SettleGives old actor answer new → AreLow
    low-settle answers.Done gives = at _ gives.1 (low-settled begun commits time later passes old.volume low some_mirror gives.0.stage_is)
    low-settle (answers.At stage durable) gives = at_same (ap (λ (s : State). s.volume) gives.1.1)
    low-settle (answers.Refused refusal) gives = at_same (ap (λ (s : State). s.volume) gives.1)
    low-settle answers.NoMemory gives = absurd gives
    low-settle (answers.Found keys) gives = absurd gives
    low-settle (answers.Ids tree) gives = absurd gives
    low-settle (answers.Wait holder) gives = absurd gives
    low-settle (answers.DeviceFault dev) gives = absurd gives

    low-freeze : (node : ℕ) (answer : Answer) → FreezeGives node old actor answer new → AreLow
    low-freeze node answers.Done gives = low-frozen begun commits time later passes old.volume low node new.volume gives.0
    low-freeze node (answers.At stage durable) gives = at_same (ap (λ (s : State). s.volume) gives.1.1)
    low-freeze node (answers.Refused refusal) gives = at _ gives.1 (low-refused begun commits time later passes old.volume low node refusal gives.0)
    low-freeze node answers.NoMemory gives = at_same (ap (λ (s : State). s.volume) gives)
    low-freeze node (answers.Found keys) gives = absurd gives
    low-freeze node (answers.Ids tree) gives = absurd gives
    low-freeze node (answers.Wait holder) gives = absurd gives
    low-freeze node (answers.DeviceFault dev) gives = absurd gives

    low-set : (node tick : ℕ) (answer : Answer) → (answer ≡ answers.Done → IfSome old.volume.work.unfinished (λ (_ : UnfinishedNode). time + 1 ≤ later)) → WriteSetGives node tick old actor answer new → AreLow
    low-set node tick answers.Done takes gives = at _ gives.1 (low-block begun commits time later passes old.volume low old.volume.work.unfinished refl (takes refl) flag_set)
    low-set node tick (answers.DeviceFault dev) takes gives = at _ gives.1 (low-raised begun commits time later passes old.volume low (unsettled_by old.volume.writer) _ refl refl flag_set)
    low-set node tick (answers.At stage durable) takes gives = at_same (ap (λ (s : State). s.volume) gives.1.1)
    low-set node tick (answers.Refused refusal) takes gives = at_same (ap (λ (s : State). s.volume) gives.1)
    low-set node tick answers.NoMemory takes gives = absurd gives
    low-set node tick (answers.Found keys) takes gives = absurd gives
    low-set node tick (answers.Ids tree) takes gives = absurd gives
    low-set node tick (answers.Wait holder) takes gives = absurd gives

    low-place : (answer : Answer) → CommitNodesGives old actor answer new → AreLow
    low-place answers.Done gives = low-placed begun commits time later passes old.volume low laws is new.volume gives.0
    low-place (answers.At stage durable) gives = at_same (ap (λ (s : State). s.volume) gives.1.1)
    low-place (answers.Refused refusal) gives = at_same (ap (λ (s : State). s.volume) gives.1)
    low-place answers.NoMemory gives = at_same (ap (λ (s : State). s.volume) gives)
    low-place (answers.Found keys) gives = absurd gives
    low-place (answers.Ids tree) gives = absurd gives
    low-place (answers.Wait holder) gives = absurd gives
    low-place (answers.DeviceFault dev) gives = absurd gives

-- ---- time

-- A device that was flushed took time.
flush_takes : (tells : Type 0) (dev : ℕ) (answer : Answer) (old new : DevicesState) → FlushesDevice tells dev answer old new → answer ≡ answers.Done → RoseBy 1 old.moment new.moment
flush_takes tells dev answers.Done old new flushes done = flushes.takes_time
flush_takes tells dev (answers.DeviceFault failed) old new flushes done = absurd cc
flush_takes tells dev (answers.Refused refusal) old new flushes done = absurd cc
flush_takes tells dev (answers.At stage durable) old new flushes done = absurd cc
flush_takes tells dev answers.NoMemory old new flushes done = absurd cc
flush_takes tells dev (answers.Found keys) old new flushes done = absurd cc
flush_takes tells dev (answers.Ids tree) old new flushes done = absurd cc
flush_takes tells dev (answers.Wait holder) old new flushes done = absurd cc

-- A block of a node that was written took time.
block_takes : (tells : Type 0) (unfinished : Option UnfinishedNode) (answer : Answer) (old new : DevicesState) → IfSome unfinished (λ (some : UnfinishedNode). 0 < length some.node.blocked.places) → WritesNode tells unfinished answer old new
    → answer ≡ answers.Done → IfSome unfinished (λ (_ : UnfinishedNode). RoseBy 1 old.moment new.moment)
block_takes tells None answer old new places writes done = tt
block_takes tells (Some unfinished) answer old new places writes done = (subst (λ (a : Answer). WritesNode tells (Some unfinished) a old new) done writes).takes_time refl places

if_some : {X : Type 0} (P Q : Type 0) (o : Option X) → (P → Q) → IfSome o (λ _. P) → IfSome o (λ _. Q)
if_some P Q None to is = tt
if_some P Q (Some x) to is = to is

-- ---- whatever an event does

module _ {D : Type 0} (laws : MayBeExchanged) (tells : Type 0) (state : D → DevicesState) (begun : Found) (commits : ℕ) (start : DevicesState) (old new : CoreState D) (is : IsVolume old.memory.volume) (parts : KeepParts old.memory.volume)
    (began : GoOn start (state old.devices)) (goes : GoOn (state old.devices) (state new.devices)) (low : AreNumbersCounted begun start (state old.devices) commits old.memory.volume) (counted : (state new.devices).moment + 1 < 2 ^ 64) where
  abbrev time : ℕ
  time = (state old.devices).moment - start.moment

  abbrev later : ℕ
  later = (state new.devices).moment - start.moment

  passes : time ≤ later
  passes = let on = goes.later in let from = began.later in omega (arith, on, from)

  before : AreNumbersLow begun commits time old.memory.volume
  before = low (let on = goes.later in omega (arith, on, counted))

  -- While moments are counted, what takes time is counted.
  rises : RoseBy 1 (state old.devices).moment (state new.devices).moment → time + 1 ≤ later
  rises rose = let on = goes.later in let from = began.later in omega (arith, rose, counted, on, from)

  abbrev AreLowThen : Type 0
  AreLowThen = AreNumbersLow begun commits later new.memory.volume

  same : new.memory.volume ≡ old.memory.volume → AreLowThen
  same is_same = at_same laws begun commits time later passes old.memory is parts before new.memory is_same

  numbers-after : (actor : ℕ) (event : Event) (answer : Answer) → IsNoCommit event → StepGives tells state old actor event answer new → AreLowThen
  numbers-after actor (events.Commit counts) answer own gives = absurd own
  numbers-after actor (events.Begin first) answer own gives = same (ap (λ (s : State). s.volume) gives.0.1)
  numbers-after actor (events.Look query) answer own gives =
      same (waits_same _ (other_holder actor old.memory.turn) old.memory answer new.memory gives.0 (λ either. ⊎_elim (λ none. ap (λ (s : State). s.volume) none.1) (λ found. ap (λ (s : State). s.volume) found.1) either))
  numbers-after actor events.LookIds answer own gives =
      same (waits_same _ (other_holder actor old.memory.turn) old.memory answer new.memory gives.0 (λ either. ⊎_elim (λ none. ap (λ (s : State). s.volume) none.1) (λ found. ap (λ (s : State). s.volume) found.1) either))
  numbers-after actor (events.Intend updates) answer own gives = same (waits_same _ (other_holder actor old.memory.turn) old.memory answer new.memory gives.0 (λ done. ap (λ (s : State). s.volume) done.1))
  numbers-after actor events.Finish answer own gives = same (ap (λ (s : State). s.volume) gives.0.1)
  numbers-after actor events.Drop answer own gives = same (ap (λ (s : State). s.volume) gives.0.1)
  numbers-after actor (events.Next work) answer own gives = same (ap (λ (s : State). s.volume) gives.0.1)
  numbers-after actor events.Seal answer own gives = low-seal laws begun commits time later passes old.memory is parts before new.memory actor answer gives.0
  numbers-after actor events.WriteEntry answer own gives = low-part laws begun commits time later passes old.memory is parts before new.memory actor (state new.devices).moment answer gives.0
  numbers-after actor (events.Flush dev) answer own gives =
      low-flush laws begun commits time later passes old.memory is parts before new.memory actor dev (state new.devices).moment answer (λ done. rises (flush_takes tells dev answer (state old.devices) (state new.devices) gives.1 done)) gives.0
  numbers-after actor events.Settle answer own gives = low-settle laws begun commits time later passes old.memory is parts before new.memory actor answer gives.0
  numbers-after actor (events.Freeze node) answer own gives = low-freeze laws begun commits time later passes old.memory is parts before new.memory actor node answer gives.0
  numbers-after actor (events.WriteSet node) answer own gives =
      low-set laws begun commits time later passes old.memory is parts before new.memory actor node (state new.devices).moment answer
      (λ done. if_some (RoseBy 1 (state old.devices).moment (state new.devices).moment) (time + 1 ≤ later) old.memory.volume.work.unfinished rises
      (block_takes tells old.memory.volume.work.unfinished answer (state old.devices) (state new.devices) (lies_somewhere old.memory.volume is parts) gives.1 done))
      gives.0
  numbers-after actor events.CommitNodes answer own gives = low-place laws begun commits time later passes old.memory is parts before new.memory actor answer gives.0

-- Whatever an event of an actor is answered that commits nothing, they rise no faster.
pub numbers-stepped : {D : Type 0} (laws : MayBeExchanged) (tells : Type 0) (state : D → DevicesState) (begun : Found) (commits : ℕ) (start : DevicesState) (old new : CoreState D) → IsVolume old.memory.volume → KeepParts old.memory.volume
    → GoOn start (state old.devices) → GoOn (state old.devices) (state new.devices) → AreNumbersCounted begun start (state old.devices) commits old.memory.volume
    → (actor : ℕ) (event : Event) (answer : Answer) → IsNoCommit event → StepGives tells state old actor event answer new → AreNumbersCounted begun start (state new.devices) commits new.memory.volume
numbers-stepped laws tells state begun commits start old new is parts began goes low actor event answer own gives counted =
    numbers-after laws tells state begun commits start old new is parts began goes low counted actor event answer own gives

-- At the opening no number is drawn.
pub numbers-opened : (layout : Layout) (session : ℕ) (trees : Trees) (needed : List FoundEntry) (nodes : List Place) (newest : FoundEntry) (begun : Found) (start : DevicesState) → begun.last ≡ newest → begun.session ≡ session → begun.trees.nodes ≡ trees.nodes
    → AreNumbersCounted begun start start 0 (opened_by layout session trees needed nodes newest)
numbers-opened layout session trees needed nodes newest begun start last same_session same_nodes counted =
    let sequence : begun.last.entry.sequence ≡ newest.entry.sequence = ap (λ (e : FoundEntry). e.entry.sequence) last in
    let end : begun.last.end ≡ newest.end = ap (λ (e : FoundEntry). e.end) last in
    record {
      session = sym same_session;
      sequence = omega (arith, sequence);
      blocks = omega (arith, sequence, end);
      ring = omega (arith, sequence, end);
      births = omega arith;
      changes = omega arith;
      nodes = λ early name birth has.
          subst (λ (s : ℕ). birth < next_birth s 0) same_session
          (early name birth (subst (λ (levels : List Levels). birth_of levels name ≡ Some birth) (sym same_nodes) has));
    }
