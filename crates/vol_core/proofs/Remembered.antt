-- Events of memory call no device: the layout stays, and so does what every other actor has under way.
use Rattle.std.proofs.Common.{◌≡◌, ⊎_elim, ℕ, Option, Some, None, refl, sym, ap, subst}
use Rattle.std.specs.Prelude.{◌≢◌}
use Rattle.std.proofs.lemmas.List.{get_or-set_other}
use Rattle.core_actors.specs.Actors.{idle_actor}
use Rattle.core_volume.specs.Checkpoints.{after_refused}
use Rattle.core_state.specs.Events.{EventGives, FlushGives, Waits, WriteGives, WriteSetGives, failed_by}
use Rattle.core_state.specs.States.{State, mine, other_holder, with_mine}
use Rattle.core_volume.specs.Volumes.{Volume}
use Rattle.core_actors.specs.declared.actor.Actor.{Actor}
use Rattle.core_actors.specs.declared.answer.Answer.{Answer}
use Rattle.core_actors.specs.declared.answer.Answer.TheVariants as answers
use Rattle.core_actors.specs.declared.answer.Refusal.{Refusal}
use Rattle.core_actors.specs.declared.answer.Refusal.TheVariants as refusals
use Rattle.core_actors.specs.declared.event.Event.{Event}
use Rattle.core_actors.specs.declared.event.Event.TheVariants as events
use Rattle.dev_model.specs.Devices.{DevicesState}
use Rattle.journal_writer.specs.Writers.{Writer}
use Rattle.vol_types.specs.declared.layout.Layout.{Layout}
use Rattle.vol_core.specs.Cores.{CoreState, StepGives}

-- The layout stays, and so does what other actors have under way.
pub record StaysBut (actor : ℕ) (old new : State) : Type 0 where
  pub layout : new.volume.layout ≡ old.volume.layout
  pub others : (other : ℕ) → other ≢ actor → mine new other ≡ mine old other

-- Nothing has changed.
same_stays : (actor : ℕ) (old : State) → StaysBut actor old old
same_stays actor old = record { layout = refl; others = λ other apart. refl }

-- What the actor has under way has changed, and the volume, whose layout stays, and whose turn it is.
changed_stays : (actor : ℕ) (old : State) (changed : Actor) (volume : Volume) (turn : Option ℕ) → volume.layout ≡ old.volume.layout → StaysBut actor old (record (with_mine actor changed old) { volume = volume; turn = turn })
changed_stays actor old changed volume turn layout = record { layout = layout; others = λ other apart. get_or-set_other old.actors actor other changed idle_actor apart }

-- The volume alone has changed.
volume_stays : (actor : ℕ) (old : State) (volume : Volume) → volume.layout ≡ old.volume.layout → StaysBut actor old (record old { volume = volume })
volume_stays actor old volume layout = record { layout = layout; others = λ other apart. refl }

to_new : (actor : ℕ) (old new other : State) → new ≡ other → StaysBut actor old other → StaysBut actor old new
to_new actor old new other same stays = subst (StaysBut actor old) (sym same) stays

-- Where an actor waits for another one, nothing has changed.
waits_stays : (actor : ℕ) (OrElse : Type 0) (holder : Option ℕ) (old : State) (answer : Answer) (new : State) → Waits holder old answer new OrElse → (OrElse → StaysBut actor old new) → StaysBut actor old new
waits_stays actor OrElse None old answer new waits stays = stays waits
waits_stays actor OrElse (Some holder) old answer new waits stays = to_new actor old new old waits.1 (same_stays actor old)

-- A leaf that isn't frozen leaves the layout.
refused_layout : (refusal : Refusal) (volume : Volume) → (after_refused refusal volume).layout ≡ volume.layout
refused_layout (refusals.NoSpace none) volume = refl
refused_layout (refusals.Halted halt) volume = refl
refused_layout (refusals.NeedSplit need) volume = refl
refused_layout refusals.Spent volume = refl
refused_layout (refusals.RingFull full) volume = refl

layout_of : Volume → Layout
layout_of volume = volume.layout

module _ (old : State) (actor : ℕ) (new : State) where
  noted_stays : (changed : Actor) → new ≡ with_mine actor changed old → StaysBut actor old new
  noted_stays changed same = to_new actor old new (with_mine actor changed old) same (changed_stays actor old changed old.volume old.turn refl)

  kept_stays : new ≡ old → StaysBut actor old new
  kept_stays same = to_new actor old new old same (same_stays actor old)

  volume_is : (volume : Volume) → new ≡ record old { volume = volume } → volume.layout ≡ old.volume.layout → StaysBut actor old new
  volume_is volume same layout = to_new actor old new (record old { volume = volume }) same (volume_stays actor old volume layout)

  -- What an event of memory leaves.
  pub event_stays : (event : Event) (answer : Answer) → ((node : ℕ) → event ≢ events.WriteSet node) → ((dev : ℕ) → event ≢ events.Flush dev) → event ≢ events.WriteEntry → EventGives old actor event answer new → StaysBut actor old new
  event_stays (events.Begin first) answer set flush write gives = noted_stays _ gives.1
  event_stays (events.Look query) answer set flush write gives =
      waits_stays actor _ (other_holder actor old.turn) old answer new gives (λ either. ⊎_elim (λ none. kept_stays none.1) (λ found. to_new actor old new _ found.1 (changed_stays actor old _ old.volume (Some actor) refl)) either)
  event_stays events.LookIds answer set flush write gives =
      waits_stays actor _ (other_holder actor old.turn) old answer new gives (λ either. ⊎_elim (λ none. kept_stays none.1) (λ found. to_new actor old new _ found.1 (changed_stays actor old _ old.volume (Some actor) refl)) either)
  event_stays (events.Intend updates) answer set flush write gives =
      waits_stays actor _ (other_holder actor old.turn) old answer new gives (λ done. to_new actor old new _ done.1 (changed_stays actor old _ old.volume (Some actor) refl))
  event_stays (events.Commit counted) answers.Done set flush write gives = to_new actor old new _ gives.state (changed_stays actor old _ new.volume (other_holder actor old.turn) (ap (λ (v : Volume). v.layout) gives.made.rest))
  event_stays (events.Commit counted) (answers.Refused refusal) set flush write gives = noted_stays _ gives.1
  event_stays (events.Commit counted) answers.NoMemory set flush write gives = kept_stays gives
  event_stays (events.Commit counted) (answers.Found keys) set flush write gives = absurd gives
  event_stays (events.Commit counted) (answers.Ids tree) set flush write gives = absurd gives
  event_stays (events.Commit counted) (answers.At stage durable) set flush write gives = absurd gives
  event_stays (events.Commit counted) (answers.Wait holder) set flush write gives = absurd gives
  event_stays (events.Commit counted) (answers.DeviceFault dev) set flush write gives = absurd gives
  event_stays events.Finish answer set flush write gives = to_new actor old new _ gives.1 (changed_stays actor old _ old.volume (other_holder actor old.turn) refl)
  event_stays events.Drop answer set flush write gives = to_new actor old new _ gives.1 (changed_stays actor old _ old.volume (other_holder actor old.turn) refl)
  event_stays (events.Next work) answer set flush write gives = noted_stays _ gives.1
  event_stays events.Seal answers.Done set flush write gives = volume_is new.volume gives.1 (ap (λ (v : Volume). v.layout) gives.0.rest)
  event_stays events.Seal (answers.At stage durable) set flush write gives = noted_stays _ gives.1.1
  event_stays events.Seal (answers.Refused refusal) set flush write gives = noted_stays _ gives.1
  event_stays events.Seal answers.NoMemory set flush write gives = kept_stays gives
  event_stays events.Seal (answers.Found keys) set flush write gives = absurd gives
  event_stays events.Seal (answers.Ids tree) set flush write gives = absurd gives
  event_stays events.Seal (answers.Wait holder) set flush write gives = absurd gives
  event_stays events.Seal (answers.DeviceFault dev) set flush write gives = absurd gives
  event_stays events.WriteEntry answer set flush write gives = absurd (write refl)
  event_stays (events.Flush dev) answer set flush write gives = absurd (flush dev refl)
  event_stays events.Settle answers.Done set flush write gives = volume_is _ gives.1 refl
  event_stays events.Settle (answers.At stage durable) set flush write gives = noted_stays _ gives.1.1
  event_stays events.Settle (answers.Refused refusal) set flush write gives = noted_stays _ gives.1
  event_stays events.Settle answers.NoMemory set flush write gives = absurd gives
  event_stays events.Settle (answers.Found keys) set flush write gives = absurd gives
  event_stays events.Settle (answers.Ids tree) set flush write gives = absurd gives
  event_stays events.Settle (answers.Wait holder) set flush write gives = absurd gives
  event_stays events.Settle (answers.DeviceFault dev) set flush write gives = absurd gives
  event_stays (events.Freeze node) answers.Done set flush write gives = volume_is new.volume gives.1 (ap (λ (v : Volume). v.layout) gives.0.rest)
  event_stays (events.Freeze node) (answers.At stage durable) set flush write gives = noted_stays _ gives.1.1
  event_stays (events.Freeze node) (answers.Refused refusal) set flush write gives = to_new actor old new _ gives.1 (changed_stays actor old _ (after_refused refusal old.volume) old.turn (refused_layout refusal old.volume))
  event_stays (events.Freeze node) answers.NoMemory set flush write gives = kept_stays gives
  event_stays (events.Freeze node) (answers.Found keys) set flush write gives = absurd gives
  event_stays (events.Freeze node) (answers.Ids tree) set flush write gives = absurd gives
  event_stays (events.Freeze node) (answers.Wait holder) set flush write gives = absurd gives
  event_stays (events.Freeze node) (answers.DeviceFault dev) set flush write gives = absurd gives
  event_stays (events.WriteSet node) answer set flush write gives = absurd (set node refl)
  event_stays events.CommitNodes answers.Done set flush write gives = volume_is new.volume gives.1 (ap (λ (v : Volume). v.layout) gives.0.rest)
  event_stays events.CommitNodes (answers.At stage durable) set flush write gives = noted_stays _ gives.1.1
  event_stays events.CommitNodes (answers.Refused refusal) set flush write gives = noted_stays _ gives.1
  event_stays events.CommitNodes answers.NoMemory set flush write gives = kept_stays gives
  event_stays events.CommitNodes (answers.Found keys) set flush write gives = absurd gives
  event_stays events.CommitNodes (answers.Ids tree) set flush write gives = absurd gives
  event_stays events.CommitNodes (answers.Wait holder) set flush write gives = absurd gives
  event_stays events.CommitNodes (answers.DeviceFault dev) set flush write gives = absurd gives

-- ---- events that call devices

module _ (old : State) (actor : ℕ) (new : State) where
  -- A device that failed is noted, and the actor's answer with it.
  failed_stays : (dev tick : ℕ) (writer : Writer) → new ≡ failed_by dev tick actor writer old → StaysBut actor old new
  failed_stays dev tick writer same = to_new actor old new _ same (record { layout = refl; others = λ other apart. get_or-set_other old.actors actor other _ idle_actor apart })

  -- So it is where a part of an entry is written, or not,
  pub entry_stays : (tick : ℕ) (answer : Answer) → WriteGives tick old actor answer new → StaysBut actor old new
  entry_stays tick answers.Done gives = volume_is old actor new _ gives.1 refl
  entry_stays tick (answers.At stage durable) gives = noted_stays old actor new _ gives.1.1
  entry_stays tick (answers.Refused refusal) gives = noted_stays old actor new _ gives.1
  entry_stays tick (answers.DeviceFault dev) gives = failed_stays dev tick _ gives.1
  entry_stays tick answers.NoMemory gives = absurd gives
  entry_stays tick (answers.Found keys) gives = absurd gives
  entry_stays tick (answers.Ids tree) gives = absurd gives
  entry_stays tick (answers.Wait holder) gives = absurd gives

  -- where a device is flushed, or not,
  pub flush_stays : (dev tick : ℕ) (answer : Answer) → FlushGives dev tick old actor answer new → StaysBut actor old new
  flush_stays dev tick answers.Done gives = volume_is old actor new _ gives.1 refl
  flush_stays dev tick (answers.Refused refusal) gives = noted_stays old actor new _ gives.1
  flush_stays dev tick (answers.DeviceFault failed) gives = failed_stays dev tick _ gives.2
  flush_stays dev tick (answers.At stage durable) gives = absurd gives
  flush_stays dev tick answers.NoMemory gives = absurd gives
  flush_stays dev tick (answers.Found keys) gives = absurd gives
  flush_stays dev tick (answers.Ids tree) gives = absurd gives
  flush_stays dev tick (answers.Wait holder) gives = absurd gives

  -- and where a block of a node is.
  pub set_stays : (node tick : ℕ) (answer : Answer) → WriteSetGives node tick old actor answer new → StaysBut actor old new
  set_stays node tick answers.Done gives = volume_is old actor new _ gives.1 refl
  set_stays node tick (answers.At stage durable) gives = noted_stays old actor new _ gives.1.1
  set_stays node tick (answers.Refused refusal) gives = noted_stays old actor new _ gives.1
  set_stays node tick (answers.DeviceFault dev) gives = failed_stays dev tick _ gives.1
  set_stays node tick answers.NoMemory gives = absurd gives
  set_stays node tick (answers.Found keys) gives = absurd gives
  set_stays node tick (answers.Ids tree) gives = absurd gives
  set_stays node tick (answers.Wait holder) gives = absurd gives

-- An event of memory is a step that calls no device.
pub step_gives : {D : Type 0} (tells : Type 0) (state : D → DevicesState) (old : CoreState D) (actor : ℕ) (new : State) (event : Event) (answer : Answer) → ((node : ℕ) → event ≢ events.WriteSet node) → ((dev : ℕ) → event ≢ events.Flush dev) → event ≢ events.WriteEntry
    → EventGives old.memory actor event answer new → StepGives tells state old actor event answer (record { memory = new; devices = old.devices })
step_gives tells state old actor new (events.Begin first) answer set flush write gives = (gives, refl)
step_gives tells state old actor new (events.Look query) answer set flush write gives = (gives, refl)
step_gives tells state old actor new events.LookIds answer set flush write gives = (gives, refl)
step_gives tells state old actor new (events.Intend updates) answer set flush write gives = (gives, refl)
step_gives tells state old actor new (events.Commit counted) answer set flush write gives = (gives, refl)
step_gives tells state old actor new events.Finish answer set flush write gives = (gives, refl)
step_gives tells state old actor new events.Drop answer set flush write gives = (gives, refl)
step_gives tells state old actor new (events.Next work) answer set flush write gives = (gives, refl)
step_gives tells state old actor new events.Seal answer set flush write gives = (gives, refl)
step_gives tells state old actor new events.WriteEntry answer set flush write gives = absurd (write refl)
step_gives tells state old actor new (events.Flush dev) answer set flush write gives = absurd (flush dev refl)
step_gives tells state old actor new events.Settle answer set flush write gives = (gives, refl)
step_gives tells state old actor new (events.Freeze node) answer set flush write gives = (gives, refl)
step_gives tells state old actor new (events.WriteSet node) answer set flush write gives = absurd (set node refl)
step_gives tells state old actor new events.CommitNodes answer set flush write gives = (gives, refl)
