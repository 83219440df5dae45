-- What is kept of the ring, and of the room in it, stays so whatever event an actor makes.
use Rattle.std.proofs.Common.{◌≡◌, ℕ, Bool, Option, Some, None, sym, ap, subst, ⊎_elim}
use Rattle.core_volume.specs.Checkpoints.{AreInPlace, IsLeafFrozen, after_refused, with_block}
use Rattle.core_state.specs.Events.{CommitGives, CommitNodesGives, EventGives, FlushGives, FreezeGives, IsMade, SealGives, SettleGives, Waits, WriteGives, WriteSetGives, intended_by}
use Rattle.core_state.specs.States.{IsState, State, other_holder}
use Rattle.core_volume.specs.Sealing.{IsFlown, settled_volume, with_writer}
use Rattle.core_volume.specs.Volumes.{KeepParts, Volume, halted_at, needs_entry}
use Rattle.core_actors.specs.declared.answer.Answer.{Answer}
use Rattle.core_actors.specs.declared.answer.Answer.TheVariants as answers
use Rattle.vol_types.specs.declared.failure.Halt.{Halt}
use Rattle.core_actors.specs.declared.answer.Refusal.{Refusal}
use Rattle.core_actors.specs.declared.event.Event.{Event}
use Rattle.core_actors.specs.declared.event.Event.TheVariants as events
use Rattle.dev_model.specs.Devices.{DevicesState}
use Rattle.journal_writer.specs.Writers.{unsettled_by, with_flushed, with_next_part}
use Rattle.vol_core.specs.Cores.{CoreState, StepGives}
use Rattle.vol_core.specs.Rested.{KeepsRing}
use Rattle.vol_core.specs.Room.{KeepsRoom}
use Rattle.vol_core.specs.CoreLaws.{ExchangeLaws, PlaceLaws}
use Rattle.vol_core.proofs.RingKept.{ring_block, ring_committed, ring_flown, ring_flushed, ring_frozen, ring_halted, ring_part, ring_placed, ring_refused, ring_settled, ring_unsettled}
use Rattle.vol_core.proofs.RoomKept.{room_block, room_committed, room_flown, room_flushed, room_frozen, room_halted, room_part, room_placed, room_refused, room_settled, room_unsettled}
use Rattle.vol_core.proofs.Stages.{sealing_is_free}

-- The volume has this, and so has what each event makes of it.
pub record IsKeptByEvents (P : Volume → Type 0) (memory : State) (actor : ℕ) : Type 0 where
  pub now : P memory.volume
  pub committed : (counted : Bool) (new : State) → IsMade memory actor counted new → P new.volume
  pub flown : (new : Volume) → IsFlown memory.volume new → P new
  pub settled : P (settled_volume memory.volume)
  pub part : P (with_writer (with_next_part memory.volume.writer) memory.volume)
  pub unsettled : P (with_writer (unsettled_by memory.volume.writer) memory.volume)
  pub flushed : (dev : ℕ) → P (with_writer (with_flushed dev memory.volume.writer) memory.volume)
  pub frozen : (node : ℕ) (new : Volume) → IsLeafFrozen node memory.volume new → P new
  pub refused : (refusal : Refusal) → P (after_refused refusal memory.volume)
  pub block : P (with_block memory.volume)
  pub placed : (new : Volume) → AreInPlace memory.volume new → P new
  pub halted : (volume : Volume) (halt : Halt) → P volume → P (halted_at halt volume)

-- Where an actor waits for another one, nothing changes.
waits_same : (OrElse : Type 0) (holder : Option ℕ) (old : State) (answer : Answer) (new : State) → Waits holder old answer new OrElse → (OrElse → new.volume ≡ old.volume) → new.volume ≡ old.volume
waits_same OrElse None old answer new waits same = same waits
waits_same OrElse (Some holder) old answer new waits same = ap (λ (s : State). s.volume) waits.1

module _ (P : Volume → Type 0) (memory : State) (actor : ℕ) (kept : IsKeptByEvents P memory actor) (after : State) where
  -- Nothing of the volume changes.
  same_kept : after.volume ≡ memory.volume → P after.volume
  same_kept same = subst P (sym same) kept.now

  -- The state is this one.
  kept_of : (other : State) → after ≡ other → P other.volume → P after.volume
  kept_of other is_other has = subst (λ (s : State). P s.volume) (sym is_other) has

  commit_kept : (counted : Bool) (answer : Answer) → CommitGives memory actor counted answer after → P after.volume
  commit_kept counted answers.Done gives = kept.committed counted after gives
  commit_kept counted (answers.Refused refusal) gives = kept_of _ gives.1 kept.now
  commit_kept counted answers.NoMemory gives = kept_of _ gives kept.now
  commit_kept counted (answers.Found keys) gives = absurd gives
  commit_kept counted (answers.Ids tree) gives = absurd gives
  commit_kept counted (answers.At stage durable) gives = absurd gives
  commit_kept counted (answers.Wait holder) gives = absurd gives
  commit_kept counted (answers.DeviceFault dev) gives = absurd gives

  seal_kept : (answer : Answer) → SealGives memory actor answer after → P after.volume
  seal_kept answers.Done gives = kept.flown after.volume gives.0
  seal_kept (answers.At stage durable) gives = kept_of _ gives.1.1 kept.now
  seal_kept (answers.Refused refusal) gives = kept_of _ gives.1 kept.now
  seal_kept answers.NoMemory gives = kept_of _ gives kept.now
  seal_kept (answers.Found keys) gives = absurd gives
  seal_kept (answers.Ids tree) gives = absurd gives
  seal_kept (answers.Wait holder) gives = absurd gives
  seal_kept (answers.DeviceFault dev) gives = absurd gives

  settle_kept : (answer : Answer) → SettleGives memory actor answer after → P after.volume
  settle_kept answers.Done gives = kept_of _ gives.1 kept.settled
  settle_kept (answers.At stage durable) gives = kept_of _ gives.1.1 kept.now
  settle_kept (answers.Refused refusal) gives = kept_of _ gives.1 kept.now
  settle_kept answers.NoMemory gives = absurd gives
  settle_kept (answers.Found keys) gives = absurd gives
  settle_kept (answers.Ids tree) gives = absurd gives
  settle_kept (answers.Wait holder) gives = absurd gives
  settle_kept (answers.DeviceFault dev) gives = absurd gives

  write_kept : (tick : ℕ) (answer : Answer) → WriteGives tick memory actor answer after → P after.volume
  write_kept tick answers.Done gives = kept_of _ gives.1 kept.part
  write_kept tick (answers.DeviceFault dev) gives =
      kept_of _ gives.1 (kept.halted (with_writer (unsettled_by memory.volume.writer) memory.volume) (record { dev = dev; tick = tick }) kept.unsettled)
  write_kept tick (answers.At stage durable) gives = kept_of _ gives.1.1 kept.now
  write_kept tick (answers.Refused refusal) gives = kept_of _ gives.1 kept.now
  write_kept tick answers.NoMemory gives = absurd gives
  write_kept tick (answers.Found keys) gives = absurd gives
  write_kept tick (answers.Ids tree) gives = absurd gives
  write_kept tick (answers.Wait holder) gives = absurd gives

  flush_kept : (dev tick : ℕ) (answer : Answer) → FlushGives dev tick memory actor answer after → P after.volume
  flush_kept dev tick answers.Done gives = kept_of _ gives.1 (kept.flushed dev)
  flush_kept dev tick (answers.DeviceFault failed) gives = kept_of _ gives.2 (kept.halted (with_writer memory.volume.writer memory.volume) (record { dev = dev; tick = tick }) kept.now)
  flush_kept dev tick (answers.Refused refusal) gives = kept_of _ gives.1 kept.now
  flush_kept dev tick (answers.At stage durable) gives = absurd gives
  flush_kept dev tick answers.NoMemory gives = absurd gives
  flush_kept dev tick (answers.Found keys) gives = absurd gives
  flush_kept dev tick (answers.Ids tree) gives = absurd gives
  flush_kept dev tick (answers.Wait holder) gives = absurd gives

  freeze_kept : (node : ℕ) (answer : Answer) → FreezeGives node memory actor answer after → P after.volume
  freeze_kept node answers.Done gives = kept.frozen node after.volume gives.0
  freeze_kept node (answers.At stage durable) gives = kept_of _ gives.1.1 kept.now
  freeze_kept node (answers.Refused refusal) gives = kept_of _ gives.1 (kept.refused refusal)
  freeze_kept node answers.NoMemory gives = kept_of _ gives kept.now
  freeze_kept node (answers.Found keys) gives = absurd gives
  freeze_kept node (answers.Ids tree) gives = absurd gives
  freeze_kept node (answers.Wait holder) gives = absurd gives
  freeze_kept node (answers.DeviceFault dev) gives = absurd gives

  set_kept : (node tick : ℕ) (answer : Answer) → WriteSetGives node tick memory actor answer after → P after.volume
  set_kept node tick answers.Done gives = kept_of _ gives.1 kept.block
  set_kept node tick (answers.DeviceFault dev) gives =
      kept_of _ gives.1 (kept.halted (with_writer (unsettled_by memory.volume.writer) memory.volume) (record { dev = dev; tick = tick }) kept.unsettled)
  set_kept node tick (answers.At stage durable) gives = kept_of _ gives.1.1 kept.now
  set_kept node tick (answers.Refused refusal) gives = kept_of _ gives.1 kept.now
  set_kept node tick answers.NoMemory gives = absurd gives
  set_kept node tick (answers.Found keys) gives = absurd gives
  set_kept node tick (answers.Ids tree) gives = absurd gives
  set_kept node tick (answers.Wait holder) gives = absurd gives

  place_kept : (answer : Answer) → CommitNodesGives memory actor answer after → P after.volume
  place_kept answers.Done gives = kept.placed after.volume gives.0
  place_kept (answers.At stage durable) gives = kept_of _ gives.1.1 kept.now
  place_kept (answers.Refused refusal) gives = kept_of _ gives.1 kept.now
  place_kept answers.NoMemory gives = kept_of _ gives kept.now
  place_kept (answers.Found keys) gives = absurd gives
  place_kept (answers.Ids tree) gives = absurd gives
  place_kept (answers.Wait holder) gives = absurd gives
  place_kept (answers.DeviceFault dev) gives = absurd gives

  -- Whatever an event is answered.
  pub event_kept : (event : Event) (answer : Answer) → EventGives memory actor event answer after → P after.volume
  event_kept (events.Begin first) answer gives = kept_of _ gives.1 kept.now
  event_kept (events.Look query) answer gives =
      same_kept (waits_same _ (other_holder actor memory.turn) memory answer after gives (λ either. ⊎_elim (λ none. ap (λ (s : State). s.volume) none.1) (λ found. ap (λ (s : State). s.volume) found.1) either))
  event_kept events.LookIds answer gives =
      same_kept (waits_same _ (other_holder actor memory.turn) memory answer after gives (λ either. ⊎_elim (λ none. ap (λ (s : State). s.volume) none.1) (λ found. ap (λ (s : State). s.volume) found.1) either))
  event_kept (events.Intend updates) answer gives = same_kept (waits_same _ (other_holder actor memory.turn) memory answer after gives (λ done. ap (λ (s : State). s.volume) done.1))
  event_kept (events.Commit counted) answer gives = commit_kept counted answer gives
  event_kept events.Finish answer gives = kept_of _ gives.1 kept.now
  event_kept events.Drop answer gives = kept_of _ gives.1 kept.now
  event_kept (events.Next work) answer gives = kept_of _ gives.1 kept.now
  event_kept events.Seal answer gives = seal_kept answer gives
  event_kept events.WriteEntry answer gives = write_kept gives.0 answer gives.1
  event_kept (events.Flush dev) answer gives = flush_kept dev gives.0 answer gives.1
  event_kept events.Settle answer gives = settle_kept answer gives
  event_kept (events.Freeze node) answer gives = freeze_kept node answer gives
  event_kept (events.WriteSet node) answer gives = set_kept node gives.0 answer gives.1
  event_kept events.CommitNodes answer gives = place_kept answer gives

-- What is kept of the ring.
ring_by_events : PlaceLaws → ExchangeLaws → (memory : State) → IsState memory → KeepsRing memory.volume → (actor : ℕ) → IsKeptByEvents KeepsRing memory actor
ring_by_events places exchanges memory is ring actor = record {
  now = ring;
  committed = λ counted new made. ring_committed memory.volume ring (intended_by memory actor) counted new.volume made.made;
  flown = ring_flown memory.volume is.volume ring;
  settled = ring_settled memory.volume is.volume ring;
  part = ring_part memory.volume ring;
  unsettled = ring_unsettled memory.volume ring;
  flushed = λ dev. ring_flushed memory.volume dev ring;
  frozen = ring_frozen memory.volume is.volume ring;
  refused = λ refusal. ring_refused refusal memory.volume ring;
  block = ring_block memory.volume ring;
  placed = λ new placed. ring_placed places memory.volume is.volume ring new placed exchanges;
  halted = ring_halted;
}

-- What is kept of the room in it.
room_by_events : PlaceLaws → (memory : State) → IsState memory → KeepParts memory.volume → KeepsRing memory.volume → KeepsRoom memory.volume → (actor : ℕ) → IsKeptByEvents KeepsRoom memory actor
room_by_events places memory is parts ring room actor = record {
  now = room;
  committed = λ counted new made. room_committed memory.volume is.volume ring room (intended_by memory actor) counted made.allowed.joins.room new.volume made.made;
  flown = λ new flown. room_flown memory.volume is.volume parts ring room (sealing_is_free memory.volume.writer memory.volume.writer.flight (needs_entry memory.volume) flown.stage.stage_is) new flown;
  settled = room_settled memory.volume is.volume ring room;
  part = room_part memory.volume room;
  unsettled = room_unsettled memory.volume room;
  flushed = λ dev. room_flushed memory.volume dev room;
  frozen = room_frozen memory.volume is.volume parts ring room;
  refused = λ refusal. room_refused refusal memory.volume room;
  block = room_block memory.volume room;
  placed = room_placed places memory.volume is.volume ring room;
  halted = room_halted;
}

module _ {D : Type 0} (tells : Type 0) (state : D → DevicesState) (old new : CoreState D) where
  -- What is kept by events is kept whatever event an actor makes.
  kept_stepped : (P : Volume → Type 0) (actor : ℕ) → IsKeptByEvents P old.memory actor → (event : Event) (answer : Answer) → StepGives tells state old actor event answer new → P new.memory.volume
  kept_stepped P actor kept events.WriteEntry answer gives = event_kept P old.memory actor kept new.memory events.WriteEntry answer ((state new.devices).moment, gives.0)
  kept_stepped P actor kept (events.Flush dev) answer gives = event_kept P old.memory actor kept new.memory (events.Flush dev) answer ((state new.devices).moment, gives.0)
  kept_stepped P actor kept (events.WriteSet node) answer gives = event_kept P old.memory actor kept new.memory (events.WriteSet node) answer ((state new.devices).moment, gives.0)
  kept_stepped P actor kept (events.Begin first) answer gives = event_kept P old.memory actor kept new.memory (events.Begin first) answer gives.0
  kept_stepped P actor kept (events.Look query) answer gives = event_kept P old.memory actor kept new.memory (events.Look query) answer gives.0
  kept_stepped P actor kept events.LookIds answer gives = event_kept P old.memory actor kept new.memory events.LookIds answer gives.0
  kept_stepped P actor kept (events.Intend updates) answer gives = event_kept P old.memory actor kept new.memory (events.Intend updates) answer gives.0
  kept_stepped P actor kept (events.Commit counted) answer gives = event_kept P old.memory actor kept new.memory (events.Commit counted) answer gives.0
  kept_stepped P actor kept events.Finish answer gives = event_kept P old.memory actor kept new.memory events.Finish answer gives.0
  kept_stepped P actor kept events.Drop answer gives = event_kept P old.memory actor kept new.memory events.Drop answer gives.0
  kept_stepped P actor kept (events.Next work) answer gives = event_kept P old.memory actor kept new.memory (events.Next work) answer gives.0
  kept_stepped P actor kept events.Seal answer gives = event_kept P old.memory actor kept new.memory events.Seal answer gives.0
  kept_stepped P actor kept events.Settle answer gives = event_kept P old.memory actor kept new.memory events.Settle answer gives.0
  kept_stepped P actor kept (events.Freeze node) answer gives = event_kept P old.memory actor kept new.memory (events.Freeze node) answer gives.0
  kept_stepped P actor kept events.CommitNodes answer gives = event_kept P old.memory actor kept new.memory events.CommitNodes answer gives.0

  -- The ring is kept.
  pub ring_stepped : PlaceLaws → ExchangeLaws → IsState old.memory → KeepsRing old.memory.volume → (actor : ℕ) (event : Event) (answer : Answer) → StepGives tells state old actor event answer new → KeepsRing new.memory.volume
  ring_stepped places exchanges is ring actor event answer gives = kept_stepped KeepsRing actor (ring_by_events places exchanges old.memory is ring actor) event answer gives

  -- And so is the room in it.
  pub room_stepped : PlaceLaws → IsState old.memory → KeepParts old.memory.volume → KeepsRing old.memory.volume → KeepsRoom old.memory.volume
      → (actor : ℕ) (event : Event) (answer : Answer) → StepGives tells state old actor event answer new → KeepsRoom new.memory.volume
  room_stepped places is parts ring room actor event answer gives = kept_stepped KeepsRoom actor (room_by_events places old.memory is parts ring room actor) event answer gives
