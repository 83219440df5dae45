-- What an event that commits nothing makes of the entries of a volume: it leaves them, puts the oldest in flight, or makes that one durable.
use Rattle.std.proofs.Common.{◌≡◌, ◌⊎◌, inl, inr, ℕ, Bool, true, false, cond, Option, Some, None, refl, sym, ap, subst, ⊎_elim}
use Rattle.std.specs.Prelude.{◌==◌, length, take}
use Rattle.btree_map.specs.Trees.{keys_in}
use Rattle.core_volume.specs.Checkpoints.{after_refused}
use Rattle.core_state.specs.Events.{CommitNodesGives, EventGives, FlushGives, FreezeGives, SealGives, SettleGives, Waits, WriteGives, WriteSetGives}
use Rattle.core_volume.specs.Sealing.{IsFlown, settled_volume, with_writer}
use Rattle.core_state.specs.States.{State, other_holder}
use Rattle.core_volume.specs.Volumes.{Volume, halted_at, needs_entry}
use Rattle.core_actors.specs.declared.answer.Answer.{Answer}
use Rattle.core_actors.specs.declared.answer.Answer.TheVariants as answers
use Rattle.vol_types.specs.declared.failure.Halt.{Halt}
use Rattle.core_actors.specs.declared.answer.Refusal.{Refusal}
use Rattle.core_actors.specs.declared.answer.Refusal.TheVariants as refusals
use Rattle.core_actors.specs.declared.event.Event.{Event}
use Rattle.core_actors.specs.declared.event.Event.TheVariants as events
use Rattle.dev_model.specs.Devices.{DevicesState}
use Rattle.journal_writer.specs.Writers.{Writer, first_flag, flush_before, stage_by, unsettled_by}
use Rattle.journal_writer.specs.declared.stage.Stage.{Stage}
use Rattle.journal_writer.specs.declared.stage.Stage.TheVariants.{Seal, Settle, WriteEntry}
use Rattle.journal_writer.specs.declared.writer.Flight.{Flight}
use Rattle.vol_core.specs.Cores.{CoreState, StepGives}
use Rattle.vol_session.specs.Sessions.{IsNoCommit}

-- ---- an entry is put in flight only where none is

no_step_seals : (dev : Option ℕ) (stage : Stage) → (stage ≡ Seal → ⊥) → flush_before dev stage ≡ Seal → ⊥
no_step_seals None stage other is = other is
no_step_seals (Some dev) stage other is = cc

write_is_no_sealing : WriteEntry ≡ Seal → ⊥
write_is_no_sealing is = cc

settle_is_no_sealing : Settle ≡ Seal → ⊥
settle_is_no_sealing is = cc

step_seals_nothing : (first last : Option ℕ) (none all : Bool) → cond none (flush_before first WriteEntry) (cond all (flush_before last Settle) WriteEntry) ≡ Seal → ⊥
step_seals_nothing first last true all is = no_step_seals first WriteEntry write_is_no_sealing is
step_seals_nothing first last false true is = no_step_seals last Settle settle_is_no_sealing is
step_seals_nothing first last false false is = write_is_no_sealing is

sealing_is_free : (flight : Option Flight) (needed : Bool) (writer : Writer) → stage_by flight needed writer ≡ Seal → flight ≡ None
sealing_is_free None needed writer is = refl
sealing_is_free (Some flight) needed writer is =
    absurd (step_seals_nothing (first_flag 0 writer.unsettled) (first_flag 0 (take writer.ring.mirrors writer.unsettled)) (writer.ring.written == 0) (writer.ring.written == length writer.ring.blocks) is)

-- Nothing was in flight where an entry is put there.
pub flown_free : (old new : Volume) → IsFlown old new → old.writer.flight ≡ None
flown_free old new flown = sealing_is_free old.writer.flight (needs_entry old) old.writer flown.stage.stage_is

-- ---- what events make

-- The entries stay as they are, and the keys and the layout.
pub record KeepsEntries (old new : Volume) : Type 0 where
  pub flight : new.writer.flight ≡ old.writer.flight
  pub durable : new.writer.durable.commits ≡ old.writer.durable.commits
  pub queue : new.queue ≡ old.queue
  pub keys : keys_in new.trees ≡ keys_in old.trees
  pub layout : new.layout ≡ old.layout

-- They do, or the oldest of them is put in flight, or that one is durable.
abbrev pub Moves : Volume → Volume → Type 0
Moves old new = KeepsEntries old new ⊎ (IsFlown old new ⊎ (new ≡ settled_volume old))

keeps_all : (volume : Volume) → KeepsEntries volume volume
keeps_all volume = record { flight = refl; durable = refl; queue = refl; keys = refl; layout = refl }

-- Where a leaf isn't frozen, the entries stay.
keeps_refused : (refusal : Refusal) (volume : Volume) → KeepsEntries volume (after_refused refusal volume)
keeps_refused (refusals.NoSpace none) volume = record { flight = refl; durable = refl; queue = refl; keys = refl; layout = refl }
keeps_refused (refusals.Halted halt) volume = keeps_all volume
keeps_refused (refusals.NeedSplit need) volume = keeps_all volume
keeps_refused refusals.Spent volume = keeps_all volume
keeps_refused (refusals.RingFull full) volume = keeps_all volume

-- Where the session stops writing, and what was written isn't settled, they stay.
keeps_halted : (halt : Halt) (volume : Volume) → KeepsEntries volume (halted_at halt (with_writer (unsettled_by volume.writer) volume))
keeps_halted halt volume = record { flight = refl; durable = refl; queue = refl; keys = refl; layout = refl }

-- Where an actor waits for another one, nothing changes.
pub waits_same : (OrElse : Type 0) (holder : Option ℕ) (old : State) (answer : Answer) (new : State) → Waits holder old answer new OrElse → (OrElse → new.volume ≡ old.volume) → new.volume ≡ old.volume
waits_same OrElse None old answer new waits same = same waits
waits_same OrElse (Some holder) old answer new waits same = ap (λ (s : State). s.volume) waits.1

module _ (memory : State) (actor : ℕ) (after : State) where
  abbrev AreMoved : Type 0
  AreMoved = Moves memory.volume after.volume

  -- Nothing of the volume changes.
  same_moves : after.volume ≡ memory.volume → AreMoved
  same_moves same = inl (subst (KeepsEntries memory.volume) (sym same) (keeps_all memory.volume))

  -- The state is this one, in which the entries are as before.
  kept_moves : (other : State) → after ≡ other → KeepsEntries memory.volume other.volume → AreMoved
  kept_moves other is keeps = inl (subst (λ (s : State). KeepsEntries memory.volume s.volume) (sym is) keeps)

  seal_moves : (answer : Answer) → SealGives memory actor answer after → AreMoved
  seal_moves answers.Done gives = inr (inl gives.0)
  seal_moves (answers.At stage durable) gives = kept_moves _ gives.1.1 (keeps_all memory.volume)
  seal_moves (answers.Refused refusal) gives = kept_moves _ gives.1 (keeps_all memory.volume)
  seal_moves answers.NoMemory gives = kept_moves _ gives (keeps_all memory.volume)
  seal_moves (answers.Found keys) gives = absurd gives
  seal_moves (answers.Ids tree) gives = absurd gives
  seal_moves (answers.Wait holder) gives = absurd gives
  seal_moves (answers.DeviceFault dev) gives = absurd gives

  settle_moves : (answer : Answer) → SettleGives memory actor answer after → AreMoved
  settle_moves answers.Done gives = inr (inr (ap (λ (s : State). s.volume) gives.1))
  settle_moves (answers.At stage durable) gives = kept_moves _ gives.1.1 (keeps_all memory.volume)
  settle_moves (answers.Refused refusal) gives = kept_moves _ gives.1 (keeps_all memory.volume)
  settle_moves answers.NoMemory gives = absurd gives
  settle_moves (answers.Found keys) gives = absurd gives
  settle_moves (answers.Ids tree) gives = absurd gives
  settle_moves (answers.Wait holder) gives = absurd gives
  settle_moves (answers.DeviceFault dev) gives = absurd gives

  write_moves : (tick : ℕ) (answer : Answer) → WriteGives tick memory actor answer after → AreMoved
  write_moves tick answers.Done gives = kept_moves _ gives.1 (record { flight = refl; durable = refl; queue = refl; keys = refl; layout = refl })
  write_moves tick (answers.DeviceFault dev) gives = kept_moves _ gives.1 (keeps_halted (record { dev = dev; tick = tick }) memory.volume)
  write_moves tick (answers.At stage durable) gives = kept_moves _ gives.1.1 (keeps_all memory.volume)
  write_moves tick (answers.Refused refusal) gives = kept_moves _ gives.1 (keeps_all memory.volume)
  write_moves tick answers.NoMemory gives = absurd gives
  write_moves tick (answers.Found keys) gives = absurd gives
  write_moves tick (answers.Ids tree) gives = absurd gives
  write_moves tick (answers.Wait holder) gives = absurd gives

  flush_moves : (dev tick : ℕ) (answer : Answer) → FlushGives dev tick memory actor answer after → AreMoved
  flush_moves dev tick answers.Done gives = kept_moves _ gives.1 (record { flight = refl; durable = refl; queue = refl; keys = refl; layout = refl })
  flush_moves dev tick (answers.DeviceFault failed) gives = kept_moves _ gives.2 (record { flight = refl; durable = refl; queue = refl; keys = refl; layout = refl })
  flush_moves dev tick (answers.Refused refusal) gives = kept_moves _ gives.1 (keeps_all memory.volume)
  flush_moves dev tick (answers.At stage durable) gives = absurd gives
  flush_moves dev tick answers.NoMemory gives = absurd gives
  flush_moves dev tick (answers.Found keys) gives = absurd gives
  flush_moves dev tick (answers.Ids tree) gives = absurd gives
  flush_moves dev tick (answers.Wait holder) gives = absurd gives

  freeze_moves : (node : ℕ) (answer : Answer) → FreezeGives node memory actor answer after → AreMoved
  freeze_moves node answers.Done gives = inl (subst (KeepsEntries memory.volume) (sym gives.0.rest) (record { flight = refl; durable = refl; queue = refl; keys = refl; layout = refl }))
  freeze_moves node (answers.At stage durable) gives = kept_moves _ gives.1.1 (keeps_all memory.volume)
  freeze_moves node (answers.Refused refusal) gives = kept_moves _ gives.1 (keeps_refused refusal memory.volume)
  freeze_moves node answers.NoMemory gives = kept_moves _ gives (keeps_all memory.volume)
  freeze_moves node (answers.Found keys) gives = absurd gives
  freeze_moves node (answers.Ids tree) gives = absurd gives
  freeze_moves node (answers.Wait holder) gives = absurd gives
  freeze_moves node (answers.DeviceFault dev) gives = absurd gives

  set_moves : (node tick : ℕ) (answer : Answer) → WriteSetGives node tick memory actor answer after → AreMoved
  set_moves node tick answers.Done gives = kept_moves _ gives.1 (record { flight = refl; durable = refl; queue = refl; keys = refl; layout = refl })
  set_moves node tick (answers.DeviceFault dev) gives = kept_moves _ gives.1 (keeps_halted (record { dev = dev; tick = tick }) memory.volume)
  set_moves node tick (answers.At stage durable) gives = kept_moves _ gives.1.1 (keeps_all memory.volume)
  set_moves node tick (answers.Refused refusal) gives = kept_moves _ gives.1 (keeps_all memory.volume)
  set_moves node tick answers.NoMemory gives = absurd gives
  set_moves node tick (answers.Found keys) gives = absurd gives
  set_moves node tick (answers.Ids tree) gives = absurd gives
  set_moves node tick (answers.Wait holder) gives = absurd gives

  place_moves : (answer : Answer) → CommitNodesGives memory actor answer after → AreMoved
  place_moves answers.Done gives = inl (subst (KeepsEntries memory.volume) (sym gives.0.rest) (record { flight = refl; durable = refl; queue = refl; keys = refl; layout = refl }))
  place_moves (answers.At stage durable) gives = kept_moves _ gives.1.1 (keeps_all memory.volume)
  place_moves (answers.Refused refusal) gives = kept_moves _ gives.1 (keeps_all memory.volume)
  place_moves answers.NoMemory gives = kept_moves _ gives (keeps_all memory.volume)
  place_moves (answers.Found keys) gives = absurd gives
  place_moves (answers.Ids tree) gives = absurd gives
  place_moves (answers.Wait holder) gives = absurd gives
  place_moves (answers.DeviceFault dev) gives = absurd gives

  event_moves : (event : Event) (answer : Answer) → IsNoCommit event → EventGives memory actor event answer after → AreMoved
  event_moves (events.Commit counted) answer own gives = absurd own
  event_moves (events.Begin first) answer own gives = kept_moves _ gives.1 (keeps_all memory.volume)
  event_moves (events.Look query) answer own gives =
      same_moves (waits_same _ (other_holder actor memory.turn) memory answer after gives (λ either. ⊎_elim (λ none. ap (λ (s : State). s.volume) none.1) (λ found. ap (λ (s : State). s.volume) found.1) either))
  event_moves events.LookIds answer own gives =
      same_moves (waits_same _ (other_holder actor memory.turn) memory answer after gives (λ either. ⊎_elim (λ none. ap (λ (s : State). s.volume) none.1) (λ found. ap (λ (s : State). s.volume) found.1) either))
  event_moves (events.Intend updates) answer own gives = same_moves (waits_same _ (other_holder actor memory.turn) memory answer after gives (λ done. ap (λ (s : State). s.volume) done.1))
  event_moves events.Finish answer own gives = kept_moves _ gives.1 (keeps_all memory.volume)
  event_moves events.Drop answer own gives = kept_moves _ gives.1 (keeps_all memory.volume)
  event_moves (events.Next work) answer own gives = kept_moves _ gives.1 (keeps_all memory.volume)
  event_moves events.Seal answer own gives = seal_moves answer gives
  event_moves events.WriteEntry answer own gives = write_moves gives.0 answer gives.1
  event_moves (events.Flush dev) answer own gives = flush_moves dev gives.0 answer gives.1
  event_moves events.Settle answer own gives = settle_moves answer gives
  event_moves (events.Freeze node) answer own gives = freeze_moves node answer gives
  event_moves (events.WriteSet node) answer own gives = set_moves node gives.0 answer gives.1
  event_moves events.CommitNodes answer own gives = place_moves answer gives

module _ {D : Type 0} (tells : Type 0) (state : D → DevicesState) (old new : CoreState D) (actor : ℕ) where
  abbrev CoreMoves : Type 0
  CoreMoves = Moves old.memory.volume new.memory.volume

  of_event : (event : Event) (answer : Answer) → IsNoCommit event → EventGives old.memory actor event answer new.memory → CoreMoves
  of_event event answer own gives = event_moves old.memory actor new.memory event answer own gives

  -- So does every event of a core that commits nothing.
  pub step_moves : (event : Event) (answer : Answer) → IsNoCommit event → StepGives tells state old actor event answer new → CoreMoves
  step_moves events.WriteEntry answer own gives = of_event events.WriteEntry answer tt ((state new.devices).moment, gives.0)
  step_moves (events.Flush dev) answer own gives = of_event (events.Flush dev) answer tt ((state new.devices).moment, gives.0)
  step_moves (events.WriteSet node) answer own gives = of_event (events.WriteSet node) answer tt ((state new.devices).moment, gives.0)
  step_moves (events.Commit counted) answer own gives = absurd own
  step_moves (events.Begin first) answer own gives = of_event (events.Begin first) answer tt gives.0
  step_moves (events.Look query) answer own gives = of_event (events.Look query) answer tt gives.0
  step_moves events.LookIds answer own gives = of_event events.LookIds answer tt gives.0
  step_moves (events.Intend updates) answer own gives = of_event (events.Intend updates) answer tt gives.0
  step_moves events.Finish answer own gives = of_event events.Finish answer tt gives.0
  step_moves events.Drop answer own gives = of_event events.Drop answer tt gives.0
  step_moves (events.Next work) answer own gives = of_event (events.Next work) answer tt gives.0
  step_moves events.Seal answer own gives = of_event events.Seal answer tt gives.0
  step_moves events.Settle answer own gives = of_event events.Settle answer tt gives.0
  step_moves (events.Freeze node) answer own gives = of_event (events.Freeze node) answer tt gives.0
  step_moves events.CommitNodes answer own gives = of_event events.CommitNodes answer tt gives.0
