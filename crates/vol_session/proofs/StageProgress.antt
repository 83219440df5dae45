-- The event of the stage that a work is told may be made, and leaves less to be done.
use Rattle.std.proofs.Common.{◌≡◌, ◌<◌, ◌≤◌, ◌+◌, ℕ, Bool, true, Option, Some, None, Err, length, refl, sym, ap, ◌∙◌, subst, ⊎_elim, arith}
use Rattle.std.specs.Prelude.{IfSome, OnOk}
use Rattle.std.proofs.lemmas.Bool.{le-leb}
use Rattle.std.proofs.lemmas.Option.{none-some as none_some, same_Some}
use Rattle.journal_writer.specs.Writers.{with_flags, with_flushed, with_next_part}
use Rattle.journal_writer.specs.declared.stage.Stage.{Stage}
use Rattle.journal_writer.specs.declared.stage.Stage.TheVariants as stages
use Rattle.journal_writer.specs.declared.writer.Flight.{Flight}
use Rattle.vol_types.specs.LayoutLaws.{layout_found}
use Rattle.core_volume.specs.Checkpoints.{with_block}
use Rattle.core_state.specs.Events.{CommitNodesGives, Fits, FlushGives, FreezeGives, IsToldOf, SealGives, SettleGives, WriteGives, WriteSetGives}
use Rattle.core_volume.specs.Sealing.{settled_volume, with_writer}
use Rattle.core_state.specs.States.{IsState, State, actor_count}
use Rattle.core_volume.specs.Volumes.{Volume, are_durable, commits_of, node_stage_of, stage_of}
use Rattle.core_actors.specs.declared.answer.Answer.{Answer}
use Rattle.core_actors.specs.declared.answer.Answer.TheVariants as answers
use Rattle.core_actors.specs.declared.answer.Refusal.{Refusal}
use Rattle.core_actors.specs.declared.answer.Refusal.TheVariants as refusals
use Rattle.core_actors.specs.declared.event.Event.{Event}
use Rattle.core_actors.specs.declared.event.Event.TheVariants as events
use Rattle.dev_model.specs.Devices.{DevicesState}
use Rattle.dev_model.specs.FrameLaws.{go_on_here}
use Rattle.dev_model.specs.Frames.{GoOn, after_writes}
use Rattle.vol_core.specs.Cores.{CoreState, StepGives}
use Rattle.vol_core.specs.Left.{failed_by}
use Rattle.vol_core.specs.Rested.{IsRested}
use Rattle.vol_session.specs.Sessions.{IsNoCommit, SessionState}
use Rattle.vol_session.specs.Writing.{HasParts}
use Rattle.vol_session.specs.Left.{entries_left, flags_left, nodes_left, parts_left, works_left}
use Rattle.vol_session.specs.Rounds.{Goes, GoesWell, IsDue, IsNext, IsOfDue, IsSeen, event_of, outcome_of, stop_of}
use Rattle.vol_session.specs.Writeback.{stopped_by}
use Rattle.vol_session.proofs.FlushFlags.{few_flags, length-with_flags}
use Rattle.vol_session.proofs.JournalFalls.{falls-flushed, falls-sealed, falls-settled, falls-written, less_nodes}
use Rattle.vol_session.proofs.DueEvents.{IsMadeSo, block_so, flushed_so, frozen_so, placed_so, sealed_so, settled_so, told_so, written_so}
use Rattle.vol_session.proofs.NodesFall.{entries-placed, falls-frozen, nodes-placed, nodes-written}
use Rattle.vol_session.proofs.WorkStages.{flying, journal_flushes, journal_is, nodes_are, nodes_flush, part_left, quiet, sealing_is, some_left, writing_is}

-- ---- what is due

-- The event of the next stage fits, and is due.
pub record MayMake (client : ℕ) (event : Event) (memory : State) : Type 0 where
  pub fits : Fits memory client event
  pub due : IsDue event memory.volume

module _ (client : ℕ) (there : client < actor_count) (memory : State) (seen : IsSeen memory) where
  flush_fits : (dev : ℕ) → IsDue (events.Flush dev) memory.volume → MayMake client (events.Flush dev) memory
  flush_fits dev set = record { fits = record { there = there; fits = seen.writer.flags.there dev set }; due = set }

  made_of : (stage : Stage) (event : Event) → event_of stage ≡ Some event → (due : Event) → event_of stage ≡ Some due → MayMake client due memory → MayMake client event memory
  made_of stage event is due same may = subst (λ (e : Event). MayMake client e memory) (same_Some due event (sym same ∙ is)) may

  pub may_make : (stage : Stage) (event : Event) → IsNext stage memory.volume → event_of stage ≡ Some event → MayMake client event memory
  may_make stages.Rest event next is = absurd (none_some event is)
  may_make stages.Seal event next is =
      made_of stages.Seal event is events.Seal refl
      (⊎_elim (λ journal. record { fits = record { there = there; fits = tt }; due = journal.0 }) (λ nodes. absurd (nodes_are memory.volume stages.Seal nodes.1)) next)
  may_make stages.WriteEntry event next is =
      made_of stages.WriteEntry event is events.WriteEntry refl
      (⊎_elim (λ journal. record { fits = record { there = there; fits = tt }; due = journal.0 }) (λ nodes. absurd (nodes_are memory.volume stages.WriteEntry nodes.1)) next)
  may_make (stages.Flush dev) event next is =
      made_of (stages.Flush dev) event is (events.Flush dev) refl
      (⊎_elim (λ journal. flush_fits dev (journal_flushes memory.volume dev journal.0)) (λ nodes. flush_fits dev (nodes_flush memory.volume dev nodes.1)) next)
  may_make stages.Settle event next is =
      made_of stages.Settle event is events.Settle refl
      (⊎_elim (λ journal. record { fits = record { there = there; fits = tt }; due = journal.0 }) (λ nodes. absurd (nodes_are memory.volume stages.Settle nodes.1)) next)
  may_make (stages.Freeze node) event next is =
      made_of (stages.Freeze node) event is (events.Freeze node) refl
      (⊎_elim (λ journal. absurd (journal_is memory.volume (stages.Freeze node) journal.0)) (λ nodes. record { fits = record { there = there; fits = tt }; due = nodes }) next)
  may_make (stages.WriteSet node) event next is =
      made_of (stages.WriteSet node) event is (events.WriteSet node) refl
      (⊎_elim (λ journal. absurd (journal_is memory.volume (stages.WriteSet node) journal.0)) (λ nodes. record { fits = record { there = there; fits = tt }; due = nodes.1 }) next)
  may_make stages.CommitNodes event next is =
      made_of stages.CommitNodes event is events.CommitNodes refl
      (⊎_elim (λ journal. absurd (journal_is memory.volume stages.CommitNodes journal.0)) (λ nodes. record { fits = record { there = there; fits = tt }; due = nodes }) next)

-- ---- what it leaves

module _ {D : Type 0} (client : ℕ) (there : client < actor_count) (tells : Type 0) (state : D → DevicesState) (old new : CoreState D) (seen : IsSeen old.memory) (goes_on : GoOn (state old.devices) (state new.devices)) where
  abbrev from : ℕ
  from = (state old.devices).moment

  abbrev to : ℕ
  to = (state new.devices).moment

  -- What an event that is due leaves, and what its answer comes to.
  pub made_so : (event : Event) (answer : Answer) → IsDue event old.memory.volume → StepGives tells state old client event answer new → IsMadeSo client from to answer old.memory new.memory
  made_so events.Seal answer due gives = sealed_so client there from to old.memory seen.state due answer new.memory gives.0
  made_so events.WriteEntry answer due gives = written_so client there from to old.memory seen.state due goes_on.later answer new.memory gives.0
  made_so (events.Flush dev) answer due gives = flushed_so client there from to old.memory seen.state dev goes_on.later answer new.memory gives.0
  made_so events.Settle answer due gives = settled_so client there from to old.memory seen.state due answer new.memory gives.0
  made_so (events.Freeze node) answer due gives = frozen_so client there from to old.memory seen.state node (quiet old.memory.volume due.0) due.1 answer new.memory gives.0
  made_so (events.WriteSet node) answer due gives = block_so client there from to old.memory seen.state node due goes_on.later answer new.memory gives.0
  made_so events.CommitNodes answer due gives = placed_so client there from to old.memory seen.state due.1 answer new.memory gives.0
  made_so (events.Begin first) answer due gives = absurd due
  made_so (events.Look query) answer due gives = absurd due
  made_so events.LookIds answer due gives = absurd due
  made_so (events.Intend updates) answer due gives = absurd due
  made_so (events.Commit counted) answer due gives = absurd due
  made_so events.Finish answer due gives = absurd due
  made_so events.Drop answer due gives = absurd due
  made_so (events.Next work) answer due gives = absurd due

-- ---- less is left

module _ (client : ℕ) (old new : State) (seen : IsSeen old) (now : IsSeen new) where
  eight : length old.volume.writer.unsettled ≡ 8
  eight = seen.writer.flags.count

  few : flags_left new.volume.writer.unsettled ≤ 8
  few = few_flags 8 new.volume.writer.unsettled now.writer.flags.count

  -- so many flags there are after the metadata devices were written to
  raised : length (with_flags old.volume.writer.ring.mirrors old.volume.writer.unsettled) ≡ 8
  raised =
      let layout = layout_found old.volume.layout seen.state.volume.placed in
      let most = layout.metadata.1 in
      let same = seen.state.volume.ring.mirrors in
      let all = eight in
      length-with_flags old.volume.writer.ring.mirrors old.volume.writer.unsettled ∙ omega (arith, most, same, all)

  at : (volume : Volume) → new.volume ≡ volume → works_left volume < works_left old.volume → works_left new.volume < works_left old.volume
  at volume same less = subst (λ (v : Volume). works_left v < works_left old.volume) (sym same) less

  -- fewer steps of the nodes, and at most two entries more
  of_nodes : nodes_left new.volume < nodes_left old.volume → entries_left new.volume ≤ entries_left old.volume + 2
      → parts_left new.volume.writer.flight new.volume.writer.ring ≤ parts_left old.volume.writer.flight old.volume.writer.ring → works_left new.volume < works_left old.volume
  of_nodes nodes entries parts =
      less_nodes (nodes_left old.volume) (entries_left old.volume) (parts_left old.volume.writer.flight old.volume.writer.ring) (flags_left old.volume.writer.unsettled)
      (nodes_left new.volume) (entries_left new.volume) (parts_left new.volume.writer.flight new.volume.writer.ring) (flags_left new.volume.writer.unsettled) nodes entries parts few

  less_sealed : stage_of old.volume ≡ stages.Seal → SealGives old client answers.Done new → works_left new.volume < works_left old.volume
  less_sealed due gives = let free = sealing_is old.volume due in falls-sealed old.volume new.volume gives.0 free.0 free.1 eight

  less_written : (tick : ℕ) → stage_of old.volume ≡ stages.WriteEntry → WriteGives tick old client answers.Done new → works_left new.volume < works_left old.volume
  less_written tick due gives =
      let flies = flying old.volume stages.WriteEntry tt due in
      let has : HasParts old.volume.writer.ring = subst (λ (f : Option Flight). IfSome f (λ flight. HasParts old.volume.writer.ring)) flies.is seen.writer.parts in
      at (with_writer (with_next_part old.volume.writer) old.volume) (ap (λ (s : State). s.volume) gives.1) (falls-written old.volume flies.flight flies.is (part_left old.volume.writer flies.step has.some has.written) raised)

  less_flushed : (dev tick : ℕ) → IsDue (events.Flush dev) old.volume → FlushGives dev tick old client answers.Done new → works_left new.volume < works_left old.volume
  less_flushed dev tick due gives = at (with_writer (with_flushed dev old.volume.writer) old.volume) (ap (λ (s : State). s.volume) gives.1) (falls-flushed old.volume dev due)

  less_settled : stage_of old.volume ≡ stages.Settle → SettleGives old client answers.Done new → works_left new.volume < works_left old.volume
  less_settled due gives =
      let flies = flying old.volume stages.Settle tt due in at (settled_volume old.volume) (ap (λ (s : State). s.volume) gives.1) (falls-settled old.volume flies.flight flies.is eight)

  less_frozen : (node : ℕ) → stage_of old.volume ≡ stages.Rest → FreezeGives node old client answers.Done new → works_left new.volume < works_left old.volume
  less_frozen node rests gives =
      let entries : entries_left new.volume ≡ entries_left old.volume = ap entries_left gives.0.rest in
      let parts : parts_left new.volume.writer.flight new.volume.writer.ring ≡ parts_left old.volume.writer.flight old.volume.writer.ring = ap (λ (v : Volume). parts_left v.writer.flight v.writer.ring) gives.0.rest in
      of_nodes (falls-frozen node old.volume new.volume gives.0 (quiet old.volume rests) seen.parts.dirty.pinned seen.parts.dirty.changed now.state.volume.work.leaves) (omega (arith, entries)) (omega (arith, parts))

  less_block : (node tick : ℕ) → node_stage_of old.volume ≡ stages.WriteSet node → WriteSetGives node tick old client answers.Done new → works_left new.volume < works_left old.volume
  less_block node tick due gives =
      let left = some_left old.volume.work.unfinished node (writing_is old.volume node due) in
      let same : new.volume ≡ with_block old.volume = ap (λ (s : State). s.volume) gives.1 in
      let entries : entries_left new.volume ≡ entries_left old.volume = ap entries_left same in
      let parts : parts_left new.volume.writer.flight new.volume.writer.ring ≡ parts_left old.volume.writer.flight old.volume.writer.ring = ap (λ (v : Volume). parts_left v.writer.flight v.writer.ring) same in
      of_nodes (subst (λ (v : Volume). nodes_left v < nodes_left old.volume) (sym same) (nodes-written old.volume seen.parts.work left.node left.is)) (omega (arith, entries)) (omega (arith, parts))

  less_placed : stage_of old.volume ≡ stages.Rest → CommitNodesGives old client answers.Done new → works_left new.volume < works_left old.volume
  less_placed rests gives =
      let parts : parts_left new.volume.writer.flight new.volume.writer.ring ≡ parts_left old.volume.writer.flight old.volume.writer.ring = ap (λ (v : Volume). parts_left v.writer.flight v.writer.ring) gives.0.rest in
      of_nodes (nodes-placed old.volume new.volume gives.0) (entries-placed old.volume new.volume gives.0 (quiet old.volume rests)) (omega (arith, parts))

-- What is so where the event happened is so where the work goes on.
when_done : (P : Type 0) (answer : Answer) → IsOfDue answer → (answer ≡ answers.Done → P) → OnOk (outcome_of answer) P
when_done P answers.Done of is = is refl
when_done P (answers.Refused refusal) of is = tt
when_done P (answers.DeviceFault dev) of is = tt
when_done P answers.NoMemory of is = tt
when_done P (answers.At stage durable) of is = absurd of
when_done P (answers.Found keys) of is = absurd of
when_done P (answers.Ids tree) of is = absurd of
when_done P (answers.Wait holder) of is = absurd of

-- Whatever event is due, less is left where it happened.
pub less_left : {D : Type 0} (client : ℕ) (tells : Type 0) (state : D → DevicesState) (old new : CoreState D) → IsSeen old.memory → IsSeen new.memory → (event : Event) (answer : Answer) → IsOfDue answer → IsDue event old.memory.volume
    → StepGives tells state old client event answer new → OnOk (outcome_of answer) (works_left new.memory.volume < works_left old.memory.volume)
less_left client tells state old new seen now events.Seal answer of due gives =
    when_done _ answer of (λ is. less_sealed client old.memory new.memory seen now due (subst (λ (a : Answer). SealGives old.memory client a new.memory) is gives.0))
less_left client tells state old new seen now events.WriteEntry answer of due gives =
    when_done _ answer of (λ is. less_written client old.memory new.memory seen now (state new.devices).moment due (subst (λ (a : Answer). WriteGives (state new.devices).moment old.memory client a new.memory) is gives.0))
less_left client tells state old new seen now (events.Flush dev) answer of due gives =
    when_done _ answer of (λ is. less_flushed client old.memory new.memory seen now dev (state new.devices).moment due (subst (λ (a : Answer). FlushGives dev (state new.devices).moment old.memory client a new.memory) is gives.0))
less_left client tells state old new seen now events.Settle answer of due gives =
    when_done _ answer of (λ is. less_settled client old.memory new.memory seen now due (subst (λ (a : Answer). SettleGives old.memory client a new.memory) is gives.0))
less_left client tells state old new seen now (events.Freeze node) answer of due gives =
    when_done _ answer of (λ is. less_frozen client old.memory new.memory seen now node due.0 (subst (λ (a : Answer). FreezeGives node old.memory client a new.memory) is gives.0))
less_left client tells state old new seen now (events.WriteSet node) answer of due gives =
    when_done _ answer of (λ is. less_block client old.memory new.memory seen now node (state new.devices).moment due (subst (λ (a : Answer). WriteSetGives node (state new.devices).moment old.memory client a new.memory) is gives.0))
less_left client tells state old new seen now events.CommitNodes answer of due gives =
    when_done _ answer of (λ is. less_placed client old.memory new.memory seen now due.0 (subst (λ (a : Answer). CommitNodesGives old.memory client a new.memory) is gives.0))
less_left client tells state old new seen now (events.Begin first) answer of due gives = absurd due
less_left client tells state old new seen now (events.Look query) answer of due gives = absurd due
less_left client tells state old new seen now events.LookIds answer of due gives = absurd due
less_left client tells state old new seen now (events.Intend updates) answer of due gives = absurd due
less_left client tells state old new seen now (events.Commit counted) answer of due gives = absurd due
less_left client tells state old new seen now events.Finish answer of due gives = absurd due
less_left client tells state old new seen now events.Drop answer of due gives = absurd due
less_left client tells state old new seen now (events.Next work) answer of due gives = absurd due

-- An event that is due isn't a commit.
pub no_commit : (event : Event) (volume : Volume) → IsDue event volume → IsNoCommit event
no_commit events.Seal volume due = tt
no_commit events.WriteEntry volume due = tt
no_commit (events.Flush dev) volume due = tt
no_commit events.Settle volume due = tt
no_commit (events.Freeze node) volume due = tt
no_commit (events.WriteSet node) volume due = tt
no_commit events.CommitNodes volume due = tt
no_commit (events.Begin first) volume due = absurd due
no_commit (events.Look query) volume due = absurd due
no_commit events.LookIds volume due = absurd due
no_commit (events.Intend updates) volume due = absurd due
no_commit (events.Commit counted) volume due = absurd due
no_commit events.Finish volume due = absurd due
no_commit events.Drop volume due = absurd due
no_commit (events.Next work) volume due = absurd due

-- ---- what the session is then

stopped_refused : (refusal : Refusal) → stopped_by {T = Unit {0}} (Err (stop_of refusal)) ≡ None
stopped_refused (refusals.Halted halt) = refl
stopped_refused refusals.Spent = refl
stopped_refused (refusals.NoSpace none) = refl
stopped_refused (refusals.RingFull full) = refl
stopped_refused (refusals.NeedSplit need) = refl

-- The device that failed a work is the one that the answer names.
same_device : (answer : Answer) → stopped_by (outcome_of answer) ≡ failed_by answer
same_device answers.Done = refl
same_device (answers.Refused refusal) = stopped_refused refusal
same_device (answers.DeviceFault dev) = refl
same_device answers.NoMemory = refl
same_device (answers.At stage durable) = refl
same_device (answers.Found keys) = refl
same_device (answers.Ids tree) = refl
same_device (answers.Wait holder) = refl

-- An event leaves what works leave, and commits that were refused as they are.
rest_so : {D : Type 0} (old new : SessionState D) → new ≡ record old { core = new.core } → new ≡ record old { core = new.core; shortages = new.shortages }
rest_so {D} old new rest = ap (λ (s : SessionState D). record s { core = new.core; shortages = new.shortages }) rest

-- What an event that is due leaves of the session.
pub goes_so : {D : Type 0} (client : ℕ) (state : D → DevicesState) (old new : SessionState D) (answer : Answer) → IsMadeSo client (state old.core.devices).moment (state new.core.devices).moment answer old.core.memory new.core.memory
    → new ≡ record old { core = new.core } → (state new.core.devices).faults ≡ after_writes (failed_by answer) (state old.core.devices).faults
    → IfSome (failed_by answer) (λ dev. dev < length (state old.core.devices).sizes) → GoOn (state old.core.devices) (state new.core.devices) → Goes client state (outcome_of answer) old new
goes_so {D} client state old new answer made rest cause device goes_on = record {
  worked = record { memory = made.keeps; rest = rest_so old new rest };
  shortages = ap (λ (s : SessionState D). s.shortages) rest;
  stops = made.stops;
  cause = subst (λ (failed : Option ℕ). (state new.core.devices).faults ≡ after_writes failed (state old.core.devices).faults) (sym (same_device answer)) cause;
  device = subst (λ (failed : Option ℕ). IfSome failed (λ dev. dev < length (state old.core.devices).sizes)) (sym (same_device answer)) device;
  goes_on = goes_on;
}

-- What a client is told leaves everything else of the session.
pub goes_told : {D : Type 0} (client : ℕ) → client < actor_count → (state : D → DevicesState) (old new : SessionState D) → IsState old.core.memory → (stage : Stage) (answer : Answer) → IsToldOf stage old.core.memory client answer new.core.memory
    → new.core.devices ≡ old.core.devices → new ≡ record old { core = new.core } → GoesWell client state old new
goes_told {D} client there state old new is stage answer told devices rest =
    let same : state new.core.devices ≡ state old.core.devices = ap state devices in
    record {
      worked = record { memory = told_so client there old.core.memory is stage answer new.core.memory told; rest = rest_so old new rest };
      shortages = ap (λ (s : SessionState D). s.shortages) rest;
      stops = ap (λ (s : State). s.volume.halted) told.1;
      cause = ap (λ (s : DevicesState). s.faults) same;
      device = tt;
      goes_on = subst (GoOn (state old.core.devices)) (sym same) (go_on_here (state old.core.devices));
    }

-- ---- where a work is done

-- Where all entries are durable that the journal needs, all commits are.
pub durable_at_rest : (volume : Volume) → stage_of volume ≡ stages.Rest → are_durable None volume ≡ true
durable_at_rest volume rests = let same = (quiet volume rests).commits in le-leb (commits_of volume) volume.writer.durable.commits (omega (arith, same))

-- They are where a client is told so that has no operation.
pub durable_as_told : (volume : Volume) (operation : Option ℕ) (durable : Bool) → durable ≡ are_durable operation volume → operation ≡ None → durable ≡ true → are_durable None volume ≡ true
durable_as_told volume operation durable told none so = sym (told ∙ ap (λ (o : Option ℕ). are_durable o volume) none) ∙ so

-- Where no stage is next, both works rest.
pub rested : (volume : Volume) (stage : Stage) → IsNext stage volume → stage ≡ stages.Rest → IsRested volume
rested volume stage next rests = ⊎_elim (λ journal. absurd (journal.1 rests)) (λ nodes. record { journal = nodes.0; nodes = nodes.1 ∙ rests }) next
