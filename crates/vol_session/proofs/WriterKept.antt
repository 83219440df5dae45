-- What a session keeps of the entry in flight and of the devices that are to be flushed is so at its opening, and stays so whatever an event does.
use Rattle.std.proofs.Common.{◌≡◌, ◌⊎◌, ◌+◌, ◌-◌, ◌<◌, ◌≤◌, ℕ, Bool, true, false, cond, Option, Some, None, List, length, take, drop, refl, sym, ap, ◌∙◌, subst, inl, inr, ⊎_elim, arith}
use Rattle.std.specs.Prelude.{◌≢◌, ◌==◌, IfSome, replicate, slice_index_or, slice_set}
use Rattle.std.proofs.lemmas.Bool.{cases_eq, cases_lt, false≢true}
use Rattle.std.proofs.lemmas.Bool.Decides.{eqb_tells}
use Rattle.std.proofs.lemmas.List.{get_or-append_right, get_or-drop, get_or-replicate, get_or-set_other, get_or-set_same, get_or_past, length-append, length-drop, length-replicate, length-set}
use Rattle.core_state.specs.Events.{CommitGives, CommitNodesGives, FlushGives, FreezeGives, IsMade, SealGives, SettleGives, Waits, WriteGives, WriteSetGives}
use Rattle.core_volume.specs.Checkpoints.{after_refused}
use Rattle.core_volume.specs.Sealing.{IsFlown, next_record, settled_volume, with_writer}
use Rattle.core_state.specs.States.{State, other_holder}
use Rattle.core_volume.specs.Volumes.{IsVolume, Volume, needs_entry, stage_of}
use Rattle.core_volume.specs.Opening.{IsVolumeOpened}
use Rattle.core_actors.specs.declared.answer.Answer.{Answer}
use Rattle.core_actors.specs.declared.answer.Answer.TheVariants as answers
use Rattle.core_actors.specs.declared.answer.Refusal.{Refusal}
use Rattle.core_actors.specs.declared.answer.Refusal.TheVariants as refusals
use Rattle.core_actors.specs.declared.event.Event.{Event}
use Rattle.core_actors.specs.declared.event.Event.TheVariants as events
use Rattle.dev_model.specs.Devices.{DevicesState}
use Rattle.journal_writer.specs.Queues.{without_oldest}
use Rattle.journal_writer.specs.Writers.{Writer, first_flag, flush_before, most_devices, settled_by, stage_by, step_of, unsettled_by, with_flags, with_flushed, with_next_part}
use Rattle.journal_writer.specs.declared.stage.Stage.TheVariants.{Rest, Seal, Settle, WriteEntry}
use Rattle.journal_writer.specs.declared.writer.Flight.{Flight}
use Rattle.btree_map.specs.Trees.{Trees}
use Rattle.journal_ring.specs.EntryBlocks.{parts_of}
use Rattle.journal_ring.specs.declared.found.FoundEntry.{FoundEntry}
use Rattle.vol_core.specs.Cores.{CoreState, StepGives}
use Rattle.vol_types.specs.LayoutLaws.{layout_found}
use Rattle.vol_types.specs.declared.layout.Layout.{Layout}
use Rattle.vol_types.specs.declared.pointers.Place.{Place}
use Rattle.vol_session.specs.Writing.{AreFlagsOf, HasParts, KeepsWriter}

-- ---- flags

-- A flag that is set where the first so many were set is one of these, or was set before.
set_before : (count : ℕ) (flags : List Bool) (dev : ℕ) → slice_index_or (with_flags count flags) dev false ≡ true → (dev < count) ⊎ (slice_index_or flags dev false ≡ true)
set_before count flags dev set = ⊎_elim
    (λ (less : dev < count). inl less)
    (λ (most : count ≤ dev).
    let place : count + (dev - count) ≡ dev = omega (arith, most) in
    inr (
    ap (λ (n : ℕ). slice_index_or flags n false) (sym place)
    ∙ sym (get_or-drop count flags (dev - count) false)
    ∙ sym (get_or-append_right (replicate count true) (drop count flags) count dev false (length-replicate count true) most)
    ∙ set
    ))
    (cases_lt dev count)

length-with_flags : (count : ℕ) (flags : List Bool) → length (with_flags count flags) ≡ count + (length flags - count)
length-with_flags count flags =
    length-append (replicate count true) (drop count flags) ∙ ap (λ (n : ℕ). n + length (drop count flags)) (length-replicate count true) ∙ ap (λ (n : ℕ). count + n) (length-drop count flags)

module _ (devices : ℕ) (flags : List Bool) (are : AreFlagsOf devices flags) where
  -- The first of the devices are to be flushed, or one was.
  flags-set : (count : ℕ) → count ≤ devices → count ≤ most_devices → AreFlagsOf devices (with_flags count flags)
  flags-set count few most = record {
    count = let all = are.count in length-with_flags count flags ∙ (omega (arith, all, most));
    there = λ dev set. ⊎_elim (λ (less : dev < count). omega (arith, less, few)) (λ before. are.there dev before) (set_before count flags dev set);
  }

  flags-flushed : (dev : ℕ) → AreFlagsOf devices (slice_set flags dev false)
  flags-flushed dev = record {
    count = length-set flags dev false ∙ are.count;
    there = λ other set. ⊎_elim (λ same. absurd (cleared other same set)) (λ apart. are.there other (sym (get_or-set_other flags dev other false false apart) ∙ set)) (cases_eq other dev);
  }
    where
      cleared : (other : ℕ) → other ≡ dev → slice_index_or (slice_set flags dev false) other false ≡ true → ⊥
      cleared other same set = ⊎_elim
          (λ (less : dev < length flags). false≢true (sym (get_or-set_same flags dev false false less) ∙ ap (λ (n : ℕ). slice_index_or (slice_set flags dev false) n false) (sym same) ∙ set))
          (λ (most : length flags ≤ dev).
          let past : length (slice_set flags dev false) ≤ other = let all = length-set flags dev false in omega (arith, most, all, same) in
          false≢true (sym (get_or_past (slice_set flags dev false) other false past) ∙ set))
          (cases_lt dev (length flags))

-- None of the devices that may be there is to be flushed.
none_set : (dev : ℕ) → slice_index_or (replicate most_devices false) dev false ≡ false
none_set dev = ⊎_elim
    (λ (less : dev < most_devices). get_or-replicate most_devices dev false false less)
    (λ (most : most_devices ≤ dev). get_or_past (replicate most_devices false) dev false (let all = length-replicate most_devices false in omega (arith, most, all)))
    (cases_lt dev most_devices)

flags-opened : (devices : ℕ) → devices ≤ most_devices → AreFlagsOf devices (with_flags devices (replicate most_devices false))
flags-opened devices few = record {
  count = length-with_flags devices (replicate most_devices false) ∙ (let all = length-replicate most_devices false in omega (arith, all, few));
  there = λ dev set. ⊎_elim (λ (less : dev < devices). less) (λ before. absurd (false≢true (sym (none_set dev) ∙ before))) (set_before devices (replicate most_devices false) dev set);
}

-- ---- stages

settle_is_no_writing : Settle ≡ WriteEntry → ⊥
settle_is_no_writing is = cc

no_settling_writes : (dev : Option ℕ) → flush_before dev Settle ≡ WriteEntry → ⊥
no_settling_writes None is = settle_is_no_writing is
no_settling_writes (Some dev) is = cc

resting_writes_nothing : (needed : Bool) → cond needed Seal Rest ≡ WriteEntry → ⊥
resting_writes_nothing true is = cc
resting_writes_nothing false is = cc

-- Where a part is to be written, one is left.
part_left : (writer : Writer) → step_of writer ≡ WriteEntry → HasParts writer.ring → writer.ring.written < length writer.ring.blocks
part_left writer stage has = by (writer.ring.written == 0) (writer.ring.written == length writer.ring.blocks) (eqb_tells writer.ring.written 0) (eqb_tells writer.ring.written (length writer.ring.blocks)) stage
  where
    by : (none all : Bool) → ((none ≡ true) × (writer.ring.written ≡ 0)) ⊎ ((none ≡ false) × (writer.ring.written ≢ 0))
        → ((all ≡ true) × (writer.ring.written ≡ length writer.ring.blocks)) ⊎ ((all ≡ false) × (writer.ring.written ≢ length writer.ring.blocks))
        → cond none (flush_before (first_flag 0 writer.unsettled) WriteEntry) (cond all (flush_before (first_flag 0 (take writer.ring.mirrors writer.unsettled)) Settle) WriteEntry) ≡ WriteEntry
        → writer.ring.written < length writer.ring.blocks
    by true all begun whole is = ⊎_elim (λ first. let zero_is : writer.ring.written ≡ 0 = first.1 in let some = has.some in omega (arith, zero_is, some)) (λ later. absurd (false≢true (sym later.0))) begun
    by false true begun whole is = absurd (no_settling_writes (first_flag 0 (take writer.ring.mirrors writer.unsettled)) is)
    by false false begun whole is = ⊎_elim (λ every. absurd (false≢true every.0)) (λ part. let other : writer.ring.written ≢ length writer.ring.blocks = part.1 in let few = has.written in omega (arith, other, few)) whole

-- An entry has parts.
some_parts : (volume : Volume) → 0 < parts_of (next_record volume)
some_parts volume = omega arith

-- ---- volumes

module _ (old : Volume) (is : IsVolume old) (kept : KeepsWriter old) where
  mirrors_few : (old.writer.ring.mirrors ≤ length old.layout.blocks) × (old.writer.ring.mirrors ≤ most_devices)
  mirrors_few = let layout = layout_found old.layout is.placed in let most = layout.metadata.1 in let same = is.ring.mirrors in (omega (arith, most, same), omega (arith, most, same))

  flags_raised : AreFlagsOf (length old.layout.blocks) (with_flags old.writer.ring.mirrors old.writer.unsettled)
  flags_raised = flags-set (length old.layout.blocks) old.writer.unsettled kept.flags old.writer.ring.mirrors mirrors_few.0 mirrors_few.1

  -- An entry is put in flight.
  writer-flown : (new : Volume) → IsFlown old new → KeepsWriter new
  writer-flown new flown =
      subst KeepsWriter (sym (flown.rest ∙ ap (λ (w : Writer). record old { queue = without_oldest old.queue; writer = w }) flown.sealed.is))
      (record {
        parts = record { some = let count = flown.sealed.blocks.count in subst (λ (n : ℕ). 0 < n) (sym count) (some_parts old); written = omega arith };
        flags = kept.flags;
      })

  -- A part of it is written.
  writer-written : stage_of old ≡ WriteEntry → KeepsWriter (with_writer (with_next_part old.writer) old)
  writer-written stage = record { parts = by old.writer.flight kept.parts stage; flags = flags_raised }
    where
      by : (flight : Option Flight) → IfSome flight (λ f. HasParts old.writer.ring) → stage_by flight (needs_entry old) old.writer ≡ WriteEntry → IfSome flight (λ f. HasParts (with_next_part old.writer).ring)
      by None parts is = tt
      by (Some flight) parts is = let left = part_left old.writer is parts in record { some = parts.some; written = omega (arith, left) }

  writer-raised : (volume : Volume) → volume.writer ≡ unsettled_by old.writer → volume.layout ≡ old.layout → KeepsWriter volume
  writer-raised volume writer layout =
      subst (λ (w : Writer). KeepsWriter (record volume { writer = w })) (sym writer)
      (subst (λ (l : Layout). KeepsWriter (record volume { layout = l; writer = unsettled_by old.writer })) (sym layout) (record { parts = kept.parts; flags = flags_raised }))

  writer-flushed : (dev : ℕ) → KeepsWriter (with_writer (with_flushed dev old.writer) old)
  writer-flushed dev = record { parts = kept.parts; flags = flags-flushed (length old.layout.blocks) old.writer.unsettled kept.flags dev }

  -- It is the last durable one.
  writer-settled : KeepsWriter (settled_volume old)
  writer-settled = by old.writer.flight kept.parts
    where
      by : (flight : Option Flight) → IfSome flight (λ f. HasParts old.writer.ring) → KeepsWriter (record old { writer = settled_by flight old.writer; space = (settled_volume old).space })
      by None parts = record { parts = kept.parts; flags = kept.flags }
      by (Some flight) parts = record { parts = tt; flags = kept.flags }

  -- Neither the writer nor the layout changes.
  writer-same : (volume : Volume) → volume.writer ≡ old.writer → volume.layout ≡ old.layout → KeepsWriter volume
  writer-same volume writer layout =
      subst (λ (w : Writer). KeepsWriter (record volume { writer = w })) (sym writer)
      (subst (λ (l : Layout). KeepsWriter (record volume { layout = l; writer = old.writer })) (sym layout) (record { parts = kept.parts; flags = kept.flags }))

-- At the opening no entry is in flight, and each device is to be flushed.
pub writer-opened : (layout : Layout) (session : ℕ) (trees : Trees) (needed : List FoundEntry) (nodes : List Place) (volume : Volume) → IsVolume volume → IsVolumeOpened layout session trees needed nodes volume → KeepsWriter volume
writer-opened layout session trees needed nodes volume is opened =
    let few : length layout.blocks ≤ 8 = subst (λ (l : Layout). length l.blocks ≤ 8) (ap (λ (v : Volume). v.layout) opened.is) (layout_found volume.layout is.placed).devices.1 in
    subst KeepsWriter (sym opened.is) (record { parts = tt; flags = flags-opened (length layout.blocks) few })

-- ---- events

-- Where an actor waits for another one, the volume is as it was; so it is where what comes else leaves it.
waits_same : (OrElse : Type 0) (holder : Option ℕ) (old : State) (answer : Answer) (new : State) → Waits holder old answer new OrElse → (OrElse → new.volume ≡ old.volume) → new.volume ≡ old.volume
waits_same OrElse None old answer new waits same = same waits
waits_same OrElse (Some holder) old answer new waits same = ap (λ (s : State). s.volume) waits.1

refused_writer : (refusal : Refusal) (volume : Volume) → ((after_refused refusal volume).writer ≡ volume.writer) × ((after_refused refusal volume).layout ≡ volume.layout)
refused_writer (refusals.NoSpace none) volume = (refl, refl)
refused_writer (refusals.Halted halt) volume = (refl, refl)
refused_writer refusals.Spent volume = (refl, refl)
refused_writer (refusals.NeedSplit need) volume = (refl, refl)
refused_writer (refusals.RingFull full) volume = (refl, refl)

module _ (old : State) (is : IsVolume old.volume) (kept : KeepsWriter old.volume) (new : State) where
  at_same : new.volume ≡ old.volume → KeepsWriter new.volume
  at_same same = subst KeepsWriter (sym same) kept

  at : (state : State) → new ≡ state → KeepsWriter state.volume → KeepsWriter new.volume
  at state same keeps = subst (λ (s : State). KeepsWriter s.volume) (sym same) keeps

  unchanged : (state : State) → new ≡ state → state.volume.writer ≡ old.volume.writer → state.volume.layout ≡ old.volume.layout → KeepsWriter new.volume
  unchanged state same writer layout = at state same (writer-same old.volume is kept state.volume writer layout)

  raised : (state : State) → new ≡ state → state.volume.writer ≡ unsettled_by old.volume.writer → state.volume.layout ≡ old.volume.layout → KeepsWriter new.volume
  raised state same writer layout = at state same (writer-raised old.volume is kept state.volume writer layout)

  module _ (actor : ℕ) where
    sealed-any : (answer : Answer) → SealGives old actor answer new → KeepsWriter new.volume
    sealed-any answers.Done gives = writer-flown old.volume is kept new.volume gives.0
    sealed-any (answers.At stage durable) gives = at_same (ap (λ (s : State). s.volume) gives.1.1)
    sealed-any (answers.Refused refusal) gives = at_same (ap (λ (s : State). s.volume) gives.1)
    sealed-any answers.NoMemory gives = at_same (ap (λ (s : State). s.volume) gives)
    sealed-any (answers.Found keys) gives = absurd gives
    sealed-any (answers.Ids tree) gives = absurd gives
    sealed-any (answers.Wait holder) gives = absurd gives
    sealed-any (answers.DeviceFault dev) gives = absurd gives

    written-any : (tick : ℕ) (answer : Answer) → WriteGives tick old actor answer new → KeepsWriter new.volume
    written-any tick answers.Done gives = at _ gives.1 (writer-written old.volume is kept gives.0.stage_is)
    written-any tick (answers.DeviceFault dev) gives = raised _ gives.1 refl refl
    written-any tick (answers.At stage durable) gives = at_same (ap (λ (s : State). s.volume) gives.1.1)
    written-any tick (answers.Refused refusal) gives = at_same (ap (λ (s : State). s.volume) gives.1)
    written-any tick answers.NoMemory gives = absurd gives
    written-any tick (answers.Found keys) gives = absurd gives
    written-any tick (answers.Ids tree) gives = absurd gives
    written-any tick (answers.Wait holder) gives = absurd gives

    flushed-any : (dev tick : ℕ) (answer : Answer) → FlushGives dev tick old actor answer new → KeepsWriter new.volume
    flushed-any dev tick answers.Done gives = at _ gives.1 (writer-flushed old.volume is kept dev)
    flushed-any dev tick (answers.DeviceFault failed) gives = unchanged _ gives.2 refl refl
    flushed-any dev tick (answers.Refused refusal) gives = at_same (ap (λ (s : State). s.volume) gives.1)
    flushed-any dev tick (answers.At stage durable) gives = absurd gives
    flushed-any dev tick answers.NoMemory gives = absurd gives
    flushed-any dev tick (answers.Found keys) gives = absurd gives
    flushed-any dev tick (answers.Ids tree) gives = absurd gives
    flushed-any dev tick (answers.Wait holder) gives = absurd gives

    settled-any : (answer : Answer) → SettleGives old actor answer new → KeepsWriter new.volume
    settled-any answers.Done gives = at _ gives.1 (writer-settled old.volume is kept)
    settled-any (answers.At stage durable) gives = at_same (ap (λ (s : State). s.volume) gives.1.1)
    settled-any (answers.Refused refusal) gives = at_same (ap (λ (s : State). s.volume) gives.1)
    settled-any answers.NoMemory gives = absurd gives
    settled-any (answers.Found keys) gives = absurd gives
    settled-any (answers.Ids tree) gives = absurd gives
    settled-any (answers.Wait holder) gives = absurd gives
    settled-any (answers.DeviceFault dev) gives = absurd gives

    frozen-any : (node : ℕ) (answer : Answer) → FreezeGives node old actor answer new → KeepsWriter new.volume
    frozen-any node answers.Done gives =
        writer-same old.volume is kept new.volume (ap (λ (v : Volume). v.writer) gives.0.rest) (ap (λ (v : Volume). v.layout) gives.0.rest)
    frozen-any node (answers.At stage durable) gives = at_same (ap (λ (s : State). s.volume) gives.1.1)
    frozen-any node (answers.Refused refusal) gives = unchanged _ gives.1 (refused_writer refusal old.volume).0 (refused_writer refusal old.volume).1
    frozen-any node answers.NoMemory gives = at_same (ap (λ (s : State). s.volume) gives)
    frozen-any node (answers.Found keys) gives = absurd gives
    frozen-any node (answers.Ids tree) gives = absurd gives
    frozen-any node (answers.Wait holder) gives = absurd gives
    frozen-any node (answers.DeviceFault dev) gives = absurd gives

    block-any : (node tick : ℕ) (answer : Answer) → WriteSetGives node tick old actor answer new → KeepsWriter new.volume
    block-any node tick answers.Done gives = raised _ gives.1 refl refl
    block-any node tick (answers.DeviceFault dev) gives = raised _ gives.1 refl refl
    block-any node tick (answers.At stage durable) gives = at_same (ap (λ (s : State). s.volume) gives.1.1)
    block-any node tick (answers.Refused refusal) gives = at_same (ap (λ (s : State). s.volume) gives.1)
    block-any node tick answers.NoMemory gives = absurd gives
    block-any node tick (answers.Found keys) gives = absurd gives
    block-any node tick (answers.Ids tree) gives = absurd gives
    block-any node tick (answers.Wait holder) gives = absurd gives

    placed-any : (answer : Answer) → CommitNodesGives old actor answer new → KeepsWriter new.volume
    placed-any answers.Done gives =
        writer-same old.volume is kept new.volume (ap (λ (v : Volume). v.writer) gives.0.rest) (ap (λ (v : Volume). v.layout) gives.0.rest)
    placed-any (answers.At stage durable) gives = at_same (ap (λ (s : State). s.volume) gives.1.1)
    placed-any (answers.Refused refusal) gives = at_same (ap (λ (s : State). s.volume) gives.1)
    placed-any answers.NoMemory gives = at_same (ap (λ (s : State). s.volume) gives)
    placed-any (answers.Found keys) gives = absurd gives
    placed-any (answers.Ids tree) gives = absurd gives
    placed-any (answers.Wait holder) gives = absurd gives
    placed-any (answers.DeviceFault dev) gives = absurd gives

    committed-any : (counted : Bool) (answer : Answer) → CommitGives old actor counted answer new → KeepsWriter new.volume
    committed-any counted answers.Done gives =
        writer-same old.volume is kept new.volume (ap (λ (v : Volume). v.writer) gives.made.rest) (ap (λ (v : Volume). v.layout) gives.made.rest)
    committed-any counted (answers.Refused refusal) gives = at_same (ap (λ (s : State). s.volume) gives.1)
    committed-any counted answers.NoMemory gives = at_same (ap (λ (s : State). s.volume) gives)
    committed-any counted (answers.At stage durable) gives = absurd gives
    committed-any counted (answers.Found keys) gives = absurd gives
    committed-any counted (answers.Ids tree) gives = absurd gives
    committed-any counted (answers.Wait holder) gives = absurd gives
    committed-any counted (answers.DeviceFault dev) gives = absurd gives

-- Whatever an event of an actor is answered, it stays so.
pub writer-stepped : {D : Type 0} (tells : Type 0) (state : D → DevicesState) (old new : CoreState D) → IsVolume old.memory.volume → KeepsWriter old.memory.volume
    → (actor : ℕ) (event : Event) (answer : Answer) → StepGives tells state old actor event answer new → KeepsWriter new.memory.volume
writer-stepped tells state old new is kept actor (events.Begin first) answer gives = at_same old.memory is kept new.memory (ap (λ (s : State). s.volume) gives.0.1)
writer-stepped tells state old new is kept actor (events.Look query) answer gives =
    at_same old.memory is kept new.memory
    (waits_same _ (other_holder actor old.memory.turn) old.memory answer new.memory gives.0 (λ either. ⊎_elim (λ none. ap (λ (s : State). s.volume) none.1) (λ found. ap (λ (s : State). s.volume) found.1) either))
writer-stepped tells state old new is kept actor events.LookIds answer gives =
    at_same old.memory is kept new.memory
    (waits_same _ (other_holder actor old.memory.turn) old.memory answer new.memory gives.0 (λ either. ⊎_elim (λ none. ap (λ (s : State). s.volume) none.1) (λ found. ap (λ (s : State). s.volume) found.1) either))
writer-stepped tells state old new is kept actor (events.Intend updates) answer gives =
    at_same old.memory is kept new.memory (waits_same _ (other_holder actor old.memory.turn) old.memory answer new.memory gives.0 (λ done. ap (λ (s : State). s.volume) done.1))
writer-stepped tells state old new is kept actor (events.Commit counted) answer gives = committed-any old.memory is kept new.memory actor counted answer gives.0
writer-stepped tells state old new is kept actor events.Finish answer gives = at_same old.memory is kept new.memory (ap (λ (s : State). s.volume) gives.0.1)
writer-stepped tells state old new is kept actor events.Drop answer gives = at_same old.memory is kept new.memory (ap (λ (s : State). s.volume) gives.0.1)
writer-stepped tells state old new is kept actor (events.Next work) answer gives = at_same old.memory is kept new.memory (ap (λ (s : State). s.volume) gives.0.1)
writer-stepped tells state old new is kept actor events.Seal answer gives = sealed-any old.memory is kept new.memory actor answer gives.0
writer-stepped tells state old new is kept actor events.WriteEntry answer gives = written-any old.memory is kept new.memory actor (state new.devices).moment answer gives.0
writer-stepped tells state old new is kept actor (events.Flush dev) answer gives = flushed-any old.memory is kept new.memory actor dev (state new.devices).moment answer gives.0
writer-stepped tells state old new is kept actor events.Settle answer gives = settled-any old.memory is kept new.memory actor answer gives.0
writer-stepped tells state old new is kept actor (events.Freeze node) answer gives = frozen-any old.memory is kept new.memory actor node answer gives.0
writer-stepped tells state old new is kept actor (events.WriteSet node) answer gives = block-any old.memory is kept new.memory actor node (state new.devices).moment answer gives.0
writer-stepped tells state old new is kept actor events.CommitNodes answer gives = placed-any old.memory is kept new.memory actor answer gives.0

-- So it does where updates are committed.
pub writer-committed : (old new : State) (actor : ℕ) (counted : Bool) → IsVolume old.volume → KeepsWriter old.volume → IsMade old actor counted new → KeepsWriter new.volume
writer-committed old new actor counted is kept made = committed-any old is kept new actor counted answers.Done made
