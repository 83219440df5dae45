-- The work on the journal isn't refused for lack of buckets, nor for a leaf that is too large.
use Rattle.std.proofs.Common.{◌≡◌, ℕ, Bool, true, false, cond, Option, Some, None, sym, subst}
use Rattle.std.proofs.lemmas.Option.{same_Some, none-some as none_some}
use Rattle.std.specs.Prelude.{IfErr, ⊤, ◌==◌, length, take}
use Rattle.core_state.specs.Events.{FlushGives, IsHalted, SealGives, SettleGives, WriteGives}
use Rattle.core_state.specs.States.{State}
use Rattle.core_volume.specs.Volumes.{Volume, needs_entry, stage_of}
use Rattle.core_actors.specs.declared.answer.Answer.{Answer}
use Rattle.core_actors.specs.declared.answer.Answer.TheVariants as answers
use Rattle.core_actors.specs.declared.answer.Refusal.{Refusal}
use Rattle.core_actors.specs.declared.answer.Refusal.TheVariants as refusals
use Rattle.core_actors.specs.declared.event.Event.{Event}
use Rattle.core_actors.specs.declared.event.Event.TheVariants as events
use Rattle.dev_model.specs.Devices.{DevicesState}
use Rattle.journal_writer.specs.Writers.{Writer, first_flag, flush_before, stage_by}
use Rattle.journal_writer.specs.declared.stage.Stage.{Stage}
use Rattle.journal_writer.specs.declared.stage.Stage.TheVariants as stages
use Rattle.journal_writer.specs.declared.writer.Flight.{Flight}
use Rattle.vol_core.specs.Cores.{CoreState, StepGives}
use Rattle.vol_session.specs.Rounds.{IsOfJournal, event_of, outcome_of}
use Rattle.vol_session.specs.Writeback.{MayStopSync}

-- A session that has stopped writing refuses for that alone.
halted_stops : (refusal : Refusal) (volume : Volume) → IsHalted refusal volume → IfErr (outcome_of (answers.Refused refusal)) MayStopSync
halted_stops (refusals.Halted halt) volume is = tt
halted_stops refusals.Spent volume is = tt
halted_stops (refusals.NoSpace none) volume is = absurd is
halted_stops (refusals.RingFull full) volume is = tt
halted_stops (refusals.NeedSplit need) volume is = absurd is

seal_stops : (client : ℕ) (old new : State) (answer : Answer) → SealGives old client answer new → IfErr (outcome_of answer) MayStopSync
seal_stops client old new answers.Done gives = tt
seal_stops client old new (answers.At stage durable) gives = tt
seal_stops client old new (answers.Refused (refusals.Halted halt)) gives = tt
seal_stops client old new (answers.Refused refusals.Spent) gives = tt
seal_stops client old new (answers.Refused (refusals.RingFull full)) gives = tt
seal_stops client old new (answers.Refused (refusals.NoSpace none)) gives = absurd gives.0
seal_stops client old new (answers.Refused (refusals.NeedSplit need)) gives = absurd gives.0
seal_stops client old new answers.NoMemory gives = tt
seal_stops client old new (answers.Found keys) gives = tt
seal_stops client old new (answers.Ids tree) gives = tt
seal_stops client old new (answers.Wait holder) gives = tt
seal_stops client old new (answers.DeviceFault dev) gives = tt

write_stops : (client tick : ℕ) (old new : State) (answer : Answer) → WriteGives tick old client answer new → IfErr (outcome_of answer) MayStopSync
write_stops client tick old new answers.Done gives = tt
write_stops client tick old new (answers.At stage durable) gives = tt
write_stops client tick old new (answers.Refused refusal) gives = halted_stops refusal old.volume gives.0
write_stops client tick old new answers.NoMemory gives = tt
write_stops client tick old new (answers.Found keys) gives = tt
write_stops client tick old new (answers.Ids tree) gives = tt
write_stops client tick old new (answers.Wait holder) gives = tt
write_stops client tick old new (answers.DeviceFault dev) gives = tt

flush_stops : (client dev tick : ℕ) (old new : State) (answer : Answer) → FlushGives dev tick old client answer new → IfErr (outcome_of answer) MayStopSync
flush_stops client dev tick old new answers.Done gives = tt
flush_stops client dev tick old new (answers.At stage durable) gives = tt
flush_stops client dev tick old new (answers.Refused refusal) gives = halted_stops refusal old.volume gives.0
flush_stops client dev tick old new answers.NoMemory gives = tt
flush_stops client dev tick old new (answers.Found keys) gives = tt
flush_stops client dev tick old new (answers.Ids tree) gives = tt
flush_stops client dev tick old new (answers.Wait holder) gives = tt
flush_stops client dev tick old new (answers.DeviceFault failed) gives = tt

settle_stops : (client : ℕ) (old new : State) (answer : Answer) → SettleGives old client answer new → IfErr (outcome_of answer) MayStopSync
settle_stops client old new answers.Done gives = tt
settle_stops client old new (answers.At stage durable) gives = tt
settle_stops client old new (answers.Refused refusal) gives = halted_stops refusal old.volume gives.0
settle_stops client old new answers.NoMemory gives = tt
settle_stops client old new (answers.Found keys) gives = tt
settle_stops client old new (answers.Ids tree) gives = tt
settle_stops client old new (answers.Wait holder) gives = tt
settle_stops client old new (answers.DeviceFault dev) gives = tt

-- So ends an event of the journal.
pub journal_stops : {D : Type 0} (client : ℕ) (tells : Type 0) (state : D → DevicesState) (old new : CoreState D) (event : Event) (answer : Answer) → IsOfJournal event → StepGives tells state old client event answer new → IfErr (outcome_of answer) MayStopSync
journal_stops client tells state old new events.Seal answer of gives = seal_stops client old.memory new.memory answer gives.0
journal_stops client tells state old new events.WriteEntry answer of gives = write_stops client (state new.devices).moment old.memory new.memory answer gives.0
journal_stops client tells state old new (events.Flush dev) answer of gives = flush_stops client dev (state new.devices).moment old.memory new.memory answer gives.0
journal_stops client tells state old new events.Settle answer of gives = settle_stops client old.memory new.memory answer gives.0
journal_stops client tells state old new (events.Begin first) answer of gives = absurd of
journal_stops client tells state old new (events.Look query) answer of gives = absurd of
journal_stops client tells state old new events.LookIds answer of gives = absurd of
journal_stops client tells state old new (events.Intend updates) answer of gives = absurd of
journal_stops client tells state old new (events.Commit counted) answer of gives = absurd of
journal_stops client tells state old new events.Finish answer of gives = absurd of
journal_stops client tells state old new events.Drop answer of gives = absurd of
journal_stops client tells state old new (events.Next work) answer of gives = absurd of
journal_stops client tells state old new (events.Freeze node) answer of gives = absurd of
journal_stops client tells state old new (events.WriteSet node) answer of gives = absurd of
journal_stops client tells state old new events.CommitNodes answer of gives = absurd of

-- The stage is one of the journal.
abbrev IsJournalStage : Stage → Type 0
IsJournalStage (stages.Freeze node) = ⊥
IsJournalStage (stages.WriteSet node) = ⊥
IsJournalStage stages.CommitNodes = ⊥
IsJournalStage other = ⊤

flushed_first : (flag : Option ℕ) (stage : Stage) → IsJournalStage stage → IsJournalStage (flush_before flag stage)
flushed_first None stage is = is
flushed_first (Some dev) stage is = tt

writing : (first last : Bool) (before after : Option ℕ) → IsJournalStage (cond first (flush_before before stages.WriteEntry) (cond last (flush_before after stages.Settle) stages.WriteEntry))
writing true last before after = flushed_first before stages.WriteEntry tt
writing false true before after = flushed_first after stages.Settle tt
writing false false before after = tt

sealing : (needed : Bool) → IsJournalStage (cond needed stages.Seal stages.Rest)
sealing true = tt
sealing false = tt

of_writer : (writer : Writer) (flight : Option Flight) (needed : Bool) → IsJournalStage (stage_by flight needed writer)
of_writer writer None needed = sealing needed
of_writer writer (Some flight) needed =
    writing (writer.ring.written == 0) (writer.ring.written == length writer.ring.blocks) (first_flag 0 writer.unsettled) (first_flag 0 (take writer.ring.mirrors writer.unsettled))

-- Its event is one of the journal.
its_event : (stage : Stage) (event : Event) → IsJournalStage stage → event_of stage ≡ Some event → IsOfJournal event
its_event stages.Rest event is some = absurd (none_some event some)
its_event stages.Seal event is some = subst IsOfJournal (same_Some events.Seal event some) tt
its_event stages.WriteEntry event is some = subst IsOfJournal (same_Some events.WriteEntry event some) tt
its_event (stages.Flush dev) event is some = subst IsOfJournal (same_Some (events.Flush dev) event some) tt
its_event stages.Settle event is some = subst IsOfJournal (same_Some events.Settle event some) tt
its_event (stages.Freeze node) event is some = absurd is
its_event (stages.WriteSet node) event is some = absurd is
its_event stages.CommitNodes event is some = absurd is

-- The event of the journal's stage is one of the journal.
pub journal_event : (volume : Volume) (stage : Stage) (event : Event) → stage ≡ stage_of volume → event_of stage ≡ Some event → IsOfJournal event
journal_event volume stage event is some = its_event stage event (subst IsJournalStage (sym is) (of_writer volume.writer volume.writer.flight (needs_entry volume))) some
