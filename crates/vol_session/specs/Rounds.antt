-- What a work does in a round: the stage that it is told, the event of that stage, and what it comes to.
use Rattle.std.specs.Prelude.{◌≡◌, ◌≢◌, ◌⊎◌, ◌<◌, ℕ, true, false, ⊤, Option, Some, None, IfSome, Result, Ok, Err, length, slice_index_or}
use Rattle.core_state.specs.States.{State, IsState}
use Rattle.core_volume.specs.Volumes.{KeepParts, Volume, node_stage_of, stage_of}
use Rattle.core_actors.specs.declared.answer.Answer.{Answer}
use Rattle.core_actors.specs.declared.answer.Answer.TheVariants as answers
use Rattle.core_actors.specs.declared.answer.Refusal.{Refusal}
use Rattle.core_actors.specs.declared.answer.Refusal.TheVariants as refusals
use Rattle.core_actors.specs.declared.event.Event.{Event}
use Rattle.core_actors.specs.declared.event.Event.TheVariants as events
use Rattle.dev_model.specs.Devices.{DevicesState}
use Rattle.dev_model.specs.Frames.{GoOn, after_writes}
use Rattle.journal_writer.specs.declared.stage.Stage.{Stage}
use Rattle.journal_writer.specs.declared.stage.Stage.TheVariants as stages
use Rattle.vol_session.specs.Sessions.{SessionState}
use Rattle.vol_session.specs.Writing.{KeepsWriter}
use Rattle.vol_session.specs.Writeback.{IsWorked, StopsWith, stopped_by}
use Rattle.vol_session.specs.declared.writeback_end.WritebackEnd.{WritebackEnd}
use Rattle.vol_session.specs.declared.writeback_end.WritebackEnd.TheVariants as stops

-- What is kept of what is in memory, as far as works need it.
pub record IsSeen (memory : State) : Type 0 where
  pub state : IsState memory
  pub parts : KeepParts memory.volume
  pub writer : KeepsWriter memory.volume

-- What a part of a client's work leaves, and why it ended early, if it did.
pub record Goes {D T : Type 0} (client : ℕ) (state : D → DevicesState) (result : Result T WritebackEnd) (old new : SessionState D) : Type 0 where
  pub worked : IsWorked client old new
  pub shortages : new.shortages ≡ old.shortages
  pub stops : StopsWith result (state old.core.devices).moment (state new.core.devices).moment old.core.memory.volume new.core.memory.volume
  pub cause : (state new.core.devices).faults ≡ after_writes (stopped_by result) (state old.core.devices).faults
  pub device : IfSome (stopped_by result) (λ dev. dev < length (state old.core.devices).sizes)
  pub goes_on : GoOn (state old.core.devices) (state new.core.devices)

-- What a part of a client's work leaves that ended well.
abbrev pub GoesWell : {D : Type 0} → ℕ → (D → DevicesState) → SessionState D → SessionState D → Type 0
GoesWell client state old new = Goes {T = Unit {0}} client state (Ok tt) old new

-- The stage is the next one of the works: that of the journal, and where this rests that of the nodes.
abbrev pub IsNext : Stage → Volume → Type 0
IsNext stage volume = ((stage_of volume ≡ stage) × (stage ≢ stages.Rest)) ⊎ ((stage_of volume ≡ stages.Rest) × (node_stage_of volume ≡ stage))

-- the event of a stage; at rest there is none
abbrev pub event_of : Stage → Option Event
event_of stages.Rest = None
event_of stages.Seal = Some events.Seal
event_of stages.WriteEntry = Some events.WriteEntry
event_of (stages.Flush dev) = Some (events.Flush dev)
event_of stages.Settle = Some events.Settle
event_of (stages.Freeze node) = Some (events.Freeze node)
event_of (stages.WriteSet node) = Some (events.WriteSet node)
event_of stages.CommitNodes = Some events.CommitNodes

-- The event is what a work needs next. Leaves are frozen and put in place while the journal rests.
abbrev pub IsDue : Event → Volume → Type 0
IsDue events.Seal volume = stage_of volume ≡ stages.Seal
IsDue events.WriteEntry volume = stage_of volume ≡ stages.WriteEntry
IsDue (events.Flush dev) volume = slice_index_or volume.writer.unsettled dev false ≡ true
IsDue events.Settle volume = stage_of volume ≡ stages.Settle
IsDue (events.Freeze node) volume = (stage_of volume ≡ stages.Rest) × (node_stage_of volume ≡ stages.Freeze node)
IsDue (events.WriteSet node) volume = node_stage_of volume ≡ stages.WriteSet node
IsDue events.CommitNodes volume = (stage_of volume ≡ stages.Rest) × (node_stage_of volume ≡ stages.CommitNodes)
IsDue other volume = ⊥

-- The answer is one that an event has which is due.
abbrev pub IsOfDue : Answer → Type 0
IsOfDue answers.Done = ⊤
IsOfDue (answers.Refused refusal) = ⊤
IsOfDue (answers.DeviceFault dev) = ⊤
IsOfDue answers.NoMemory = ⊤
IsOfDue other = ⊥

-- why a work ends early that is refused
abbrev pub stop_of : Refusal → WritebackEnd
stop_of (refusals.Halted halt) = stops.Halted halt
stop_of refusals.Spent = stops.Spent
stop_of (refusals.NoSpace none) = stops.NoSpace none
stop_of (refusals.RingFull full) = stops.Foreign (refusals.RingFull full)
stop_of (refusals.NeedSplit need) = stops.Foreign (refusals.NeedSplit need)

-- what such an answer comes to
abbrev pub outcome_of : Answer → Result (Unit {0}) WritebackEnd
outcome_of (answers.Refused refusal) = Err (stop_of refusal)
outcome_of (answers.DeviceFault dev) = Err (stops.DeviceFault dev)
outcome_of answers.NoMemory = Err stops.NoMemory
outcome_of other = Ok tt

-- The event is one of the work on the journal.
abbrev pub IsOfJournal : Event → Type 0
IsOfJournal events.Seal = ⊤
IsOfJournal events.WriteEntry = ⊤
IsOfJournal (events.Flush dev) = ⊤
IsOfJournal events.Settle = ⊤
IsOfJournal other = ⊥
