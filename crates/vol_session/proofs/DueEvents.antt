-- What an event that is due leaves, and what its answer comes to.
use Rattle.std.proofs.Common.{◌≡◌, ◌<◌, ◌≤◌, ℕ, Bool, true, Option, Some, None, List, [], ◌∷◌, ◌++◌, Err, length, refl, sym, ap, ◌∙◌, subst, inl, inr, arith}
use Rattle.std.specs.List.{list_all}
use Rattle.std.specs.Prelude.{◌&&◌, ◌==◌}
use Rattle.std.proofs.lemmas.Bool.{and_from, le-leb}
use Rattle.std.proofs.lemmas.List.{get_or-set_other, get_or-set_same}
use Rattle.btree_map.specs.Trees.{keys_in}
use Rattle.journal_writer.specs.Queues.{Queue, first_of, left_by, oldest}
use Rattle.journal_writer.specs.declared.changes.Pending.{Pending}
use Rattle.journal_writer.specs.declared.stage.Stage.{Stage}
use Rattle.journal_writer.specs.declared.stage.Stage.TheVariants as stages
use Rattle.journal_writer.specs.declared.writer.Flight.{Flight}
use Rattle.node_writeback.specs.Durable.{undurable}
use Rattle.vol_types.specs.declared.keys.Update.{Update}
use Rattle.core_actors.specs.Actors.{idle_actor, noted, told_of, with_fault}
use Rattle.core_volume.specs.Checkpoints.{IsFreezeRefused, IsPlacingRefused, after_refused, given_up}
use Rattle.core_state.specs.Events.{CommitNodesGives, FlushGives, FreezeGives, IsHalted, IsToldOf, SealGives, SettleGives, WriteGives, WriteSetGives}
use Rattle.core_volume.specs.Sealing.{IsSealRefused, settled_volume}
use Rattle.core_state.specs.States.{IsState, State, actor_count, mine, with_mine}
use Rattle.core_volume.specs.Volumes.{Volume, are_durable, commits_of, first_halt, has_no_updates, in_flight, is_exhausted, last_sealed, none_waits, node_stage_of, stage_of, undurable_in}
use Rattle.core_actors.specs.declared.actor.Actor.{Actor}
use Rattle.core_actors.specs.declared.answer.Answer.{Answer}
use Rattle.core_actors.specs.declared.answer.Answer.TheVariants as answers
use Rattle.vol_types.specs.declared.failure.Halt.{Halt}
use Rattle.core_actors.specs.declared.answer.NoSpace.{NoSpace}
use Rattle.core_actors.specs.declared.answer.Refusal.{Refusal}
use Rattle.core_actors.specs.declared.answer.Refusal.TheVariants as refusals
use Rattle.vol_session.specs.Rounds.{IsOfDue, outcome_of, stop_of}
use Rattle.vol_session.specs.Writeback.{KeepsKeys, KeepsTransaction, StopsWith}
use Rattle.vol_session.proofs.WorkStages.{IsQuiet}

-- ---- what is under way

-- What changes an actor's failure, and what it was told, leaves its transaction.
told_keeps : (stage : Stage) (durable : Bool) (actor : Actor) → KeepsTransaction actor (told_of stage durable actor)
told_keeps stage durable actor = record { operation = refl; looks = refl; has_ids = refl; intended = refl }

noted_keeps : (refusal : Refusal) (actor : Actor) → KeepsTransaction actor (noted refusal actor)
noted_keeps refusal actor = record { operation = refl; looks = refl; has_ids = refl; intended = refl }

fault_keeps : (dev : ℕ) (actor : Actor) → KeepsTransaction actor (with_fault dev actor)
fault_keeps dev actor = record { operation = refl; looks = refl; has_ids = refl; intended = refl }

-- The volume keeps its keys, its commits and its layout.
record KeepsVolume (old new : Volume) : Type 0 where
  keys : keys_in new.trees ≡ keys_in old.trees
  commits : commits_of new ≡ commits_of old
  layout : new.layout ≡ old.layout

module _ (client : ℕ) (there : client < actor_count) (old : State) (is : IsState old) where
  -- Another volume, with the same actors.
  keeps_volume : (volume : Volume) → KeepsVolume old.volume volume → KeepsKeys client old (record old { volume = volume })
  keeps_volume volume kept = record { keys = kept.keys; commits = kept.commits; layout = kept.layout; turn = refl; others = λ other apart. refl; actor = record { operation = refl; looks = refl; has_ids = refl; intended = refl } }

  -- Another volume, and another failure of the client, or what it was told.
  keeps_changed : (changed : Actor) (volume : Volume) → KeepsTransaction (mine old client) changed → KeepsVolume old.volume volume → KeepsKeys client old (record (with_mine client changed old) { volume = volume })
  keeps_changed changed volume actor kept =
      let now : mine (with_mine client changed old) client ≡ changed = get_or-set_same old.actors client changed idle_actor (subst (λ (n : ℕ). client < n) (sym is.count) there) in
      record {
        keys = kept.keys;
        commits = kept.commits;
        layout = kept.layout;
        turn = refl;
        others = λ other apart. get_or-set_other old.actors client other changed idle_actor apart;
        actor = record {
          operation = ap (λ (a : Actor). a.operation) now ∙ actor.operation;
          looks = ap (λ (a : Actor). a.looks) now ∙ actor.looks;
          has_ids = ap (λ (a : Actor). a.has_ids) now ∙ actor.has_ids;
          intended = ap (λ (a : Actor). a.intended) now ∙ actor.intended;
        };
      }

same_volume : (volume : Volume) → KeepsVolume volume volume
same_volume volume = record { keys = refl; commits = refl; layout = refl }

-- The client was told a stage: nothing else has changed.
pub told_so : (client : ℕ) → client < actor_count → (old : State) → IsState old → (stage : Stage) (answer : Answer) (new : State) → IsToldOf stage old client answer new → KeepsKeys client old new
told_so client there old is stage answer new told =
    let durable = are_durable (mine old client).operation old.volume in
    subst (KeepsKeys client old) (sym told.1) (keeps_changed client there old is (told_of stage durable (mine old client)) old.volume (told_keeps stage durable (mine old client)) (same_volume old.volume))

left_commits : (closed : List Pending) (queue : Queue) → (left_by closed queue).open_entry.commits ≡ queue.open_entry.commits
left_commits [] queue = refl
left_commits (entry ∷ later) queue = refl

-- ---- where there is no space

-- At rest nothing waits that would free a bucket.
exhausted : (volume : Volume) → IsQuiet volume → (oldest volume.queue).after ≡ last_sealed volume.writer.flight volume.writer.durable.sequence → is_exhausted volume ≡ true
exhausted volume rests turn = and_from (none_waits volume) (list_all has_no_updates (undurable_in volume)) (le-leb volume.emptied volume.writer.durable.sequence (let few = rests.emptied in omega (arith, few, follows))) nothing
  where
    follows : volume.queue.open_entry.after ≡ volume.writer.durable.sequence
    follows =
        ap (λ (closed : List Pending). (first_of closed volume.queue.open_entry).after) (sym rests.closed) ∙ turn ∙ ap (λ (flight : Option Flight). last_sealed flight volume.writer.durable.sequence) rests.flight

    nothing : list_all has_no_updates (undurable_in volume) ≡ true
    nothing =
        ap (λ (flight : Option Flight). list_all has_no_updates (undurable (in_flight flight) volume.queue)) rests.flight
        ∙ ap (λ (closed : List Pending). list_all has_no_updates (closed ++ volume.queue.open_entry ∷ [])) rests.closed
        ∙ ap (λ (updates : List Update). (length updates == 0) && true) rests.updates

-- ---- events

-- What an event leaves, and what its answer comes to.
pub record IsMadeSo (client before after : ℕ) (answer : Answer) (old new : State) : Type 0 where
  pub keeps : KeepsKeys client old new
  pub stops : StopsWith (outcome_of answer) before after old.volume new.volume
  pub of : IsOfDue answer

module _ (client : ℕ) (there : client < actor_count) (before after : ℕ) (old : State) (is : IsState old) where
  -- It is refused, and why is noted: nothing else has changed.
  noted_so : (refusal : Refusal) → StopsWith {T = Unit {0}} (Err (stop_of refusal)) before after old.volume old.volume → (new : State) → new ≡ with_mine client (noted refusal (mine old client)) old → IsMadeSo client before after (answers.Refused refusal) old new
  noted_so refusal stops new same =
      subst (IsMadeSo client before after (answers.Refused refusal) old) (sym same)
      (record { keeps = keeps_changed client there old is (noted refusal (mine old client)) old.volume (noted_keeps refusal (mine old client)) (same_volume old.volume); stops = stops; of = tt })

  no_memory_so : (new : State) → new ≡ old → IsMadeSo client before after answers.NoMemory old new
  no_memory_so new same = subst (IsMadeSo client before after answers.NoMemory old) (sym same) (record { keeps = keeps_volume client there old is old.volume (same_volume old.volume); stops = refl; of = tt })

  done_so : (new : State) (volume : Volume) → new ≡ record old { volume = volume } → KeepsVolume old.volume volume → volume.halted ≡ old.volume.halted → IsMadeSo client before after answers.Done old new
  done_so new volume same kept halted = subst (IsMadeSo client before after answers.Done old) (sym same) (record { keeps = keeps_volume client there old is volume kept; stops = halted; of = tt })

  -- A device failed at the end of the event.
  failed_so : (dev : ℕ) (new : State) (volume : Volume) → new ≡ record (with_mine client (with_fault dev (mine old client)) old) { volume = volume } → KeepsVolume old.volume volume → old.volume.halted ≡ None
      → volume.halted ≡ Some (record { dev = dev; tick = after }) → before ≤ after → IsMadeSo client before after (answers.DeviceFault dev) old new
  failed_so dev new volume same kept writes halted later =
      subst (IsMadeSo client before after (answers.DeviceFault dev) old) (sym same)
      (record { keeps = keeps_changed client there old is (with_fault dev (mine old client)) volume (fault_keeps dev (mine old client)) kept; stops = (writes, after, halted, later, omega arith); of = tt })

  seal_stops : (refusal : Refusal) → IsSealRefused old.volume refusal → StopsWith {T = Unit {0}} (Err (stop_of refusal)) before after old.volume old.volume
  seal_stops (refusals.Halted halt) refused = (refl, refused)
  seal_stops refusals.Spent refused = (refl, record { node = 0; lacks = inl refused })
  seal_stops (refusals.RingFull full) refused = (refl, refused)
  seal_stops (refusals.NeedSplit need) refused = absurd refused
  seal_stops (refusals.NoSpace none) refused = absurd refused

  halted_stops : (refusal : Refusal) → IsHalted refusal old.volume → StopsWith {T = Unit {0}} (Err (stop_of refusal)) before after old.volume old.volume
  halted_stops (refusals.Halted halt) refused = (refl, refused)
  halted_stops refusals.Spent refused = absurd refused
  halted_stops (refusals.RingFull full) refused = absurd refused
  halted_stops (refusals.NeedSplit need) refused = absurd refused
  halted_stops (refusals.NoSpace none) refused = absurd refused

  placing_stops : (refusal : Refusal) → IsPlacingRefused old.volume refusal → StopsWith {T = Unit {0}} (Err (stop_of refusal)) before after old.volume old.volume
  placing_stops (refusals.Halted halt) refused = (refl, refused)
  placing_stops refusals.Spent refused = (refl, record { node = 0; lacks = inr (inr refused) })
  placing_stops (refusals.RingFull full) refused = absurd refused
  placing_stops (refusals.NeedSplit need) refused = absurd refused
  placing_stops (refusals.NoSpace none) refused = absurd refused

  pub sealed_so : stage_of old.volume ≡ stages.Seal → (answer : Answer) (new : State) → SealGives old client answer new → IsMadeSo client before after answer old new
  sealed_so stage answers.Done new gives =
      done_so new new.volume gives.1
      (record { keys = ap (λ (v : Volume). keys_in v.trees) gives.0.rest; commits = ap commits_of gives.0.rest ∙ left_commits old.volume.queue.closed old.volume.queue; layout = ap (λ (v : Volume). v.layout) gives.0.rest })
      (ap (λ (v : Volume). v.halted) gives.0.rest)
  sealed_so stage (answers.At told durable) new gives = absurd (gives.0.other stage)
  sealed_so stage (answers.Refused refusal) new gives = noted_so refusal (seal_stops refusal gives.0) new gives.1
  sealed_so stage answers.NoMemory new gives = no_memory_so new gives
  sealed_so stage (answers.Found keys) new gives = absurd gives
  sealed_so stage (answers.Ids tree) new gives = absurd gives
  sealed_so stage (answers.Wait holder) new gives = absurd gives
  sealed_so stage (answers.DeviceFault dev) new gives = absurd gives

  -- what is so once a device failed the session that wrote
  halted_now : (dev : ℕ) (halted : Option Halt) → halted ≡ None → first_halt (record { dev = dev; tick = after }) halted ≡ Some (record { dev = dev; tick = after })
  halted_now dev halted none = ap (first_halt (record { dev = dev; tick = after })) none

  pub written_so : stage_of old.volume ≡ stages.WriteEntry → before ≤ after → (answer : Answer) (new : State) → WriteGives after old client answer new → IsMadeSo client before after answer old new
  written_so stage later answers.Done new gives = done_so new _ gives.1 (record { keys = refl; commits = refl; layout = refl }) refl
  written_so stage later (answers.DeviceFault dev) new gives =
      failed_so dev new _ gives.1 (record { keys = refl; commits = refl; layout = refl }) gives.0.writes (halted_now dev old.volume.halted gives.0.writes) later
  written_so stage later (answers.At told durable) new gives = absurd (gives.0.other stage)
  written_so stage later (answers.Refused refusal) new gives = noted_so refusal (halted_stops refusal gives.0) new gives.1
  written_so stage later answers.NoMemory new gives = absurd gives
  written_so stage later (answers.Found keys) new gives = absurd gives
  written_so stage later (answers.Ids tree) new gives = absurd gives
  written_so stage later (answers.Wait holder) new gives = absurd gives

  pub flushed_so : (dev : ℕ) → before ≤ after → (answer : Answer) (new : State) → FlushGives dev after old client answer new → IsMadeSo client before after answer old new
  flushed_so dev later answers.Done new gives = done_so new _ gives.1 (record { keys = refl; commits = refl; layout = refl }) refl
  flushed_so dev later (answers.DeviceFault failed) new gives =
      subst (λ (d : ℕ). IsMadeSo client before after (answers.DeviceFault d) old new) (sym gives.0)
      (failed_so dev new _ gives.2 (record { keys = refl; commits = refl; layout = refl }) gives.1 (halted_now dev old.volume.halted gives.1) later)
  flushed_so dev later (answers.Refused refusal) new gives = noted_so refusal (halted_stops refusal gives.0) new gives.1
  flushed_so dev later (answers.At told durable) new gives = absurd gives
  flushed_so dev later answers.NoMemory new gives = absurd gives
  flushed_so dev later (answers.Found keys) new gives = absurd gives
  flushed_so dev later (answers.Ids tree) new gives = absurd gives
  flushed_so dev later (answers.Wait holder) new gives = absurd gives

  pub settled_so : stage_of old.volume ≡ stages.Settle → (answer : Answer) (new : State) → SettleGives old client answer new → IsMadeSo client before after answer old new
  settled_so stage answers.Done new gives = done_so new (settled_volume old.volume) gives.1 (record { keys = refl; commits = refl; layout = refl }) refl
  settled_so stage (answers.At told durable) new gives = absurd (gives.0.other stage)
  settled_so stage (answers.Refused refusal) new gives = noted_so refusal (halted_stops refusal gives.0) new gives.1
  settled_so stage answers.NoMemory new gives = absurd gives
  settled_so stage (answers.Found keys) new gives = absurd gives
  settled_so stage (answers.Ids tree) new gives = absurd gives
  settled_so stage (answers.Wait holder) new gives = absurd gives
  settled_so stage (answers.DeviceFault dev) new gives = absurd gives

  -- A leaf isn't frozen for a cause that leaves the volume, or for want of a free bucket.
  freeze_so : (node : ℕ) → IsQuiet old.volume → (refusal : Refusal) (new : State) → IsFreezeRefused node old.volume refusal
      → new ≡ record (with_mine client (noted refusal (mine old client)) old) { volume = after_refused refusal old.volume } → IsMadeSo client before after (answers.Refused refusal) old new
  freeze_so node rests (refusals.Halted halt) new refused same = noted_so (refusals.Halted halt) (refl, refused) new same
  freeze_so node rests refusals.Spent new refused same = noted_so refusals.Spent (refl, record { node = node; lacks = inr (inl refused) }) new same
  freeze_so node rests (refusals.NeedSplit need) new refused same = noted_so (refusals.NeedSplit need) (refl, (node, refused)) new same
  freeze_so node rests (refusals.NoSpace none) new refused same =
      subst (IsMadeSo client before after (answers.Refused (refusals.NoSpace none)) old) (sym same)
      (record {
        keeps = keeps_changed client there old is (noted (refusals.NoSpace none) (mine old client)) (given_up old.volume) (noted_keeps (refusals.NoSpace none) (mine old client)) (record { keys = refl; commits = refl; layout = refl });
        stops = (
          refl,
          record {
            before = old.volume;
            kept = is.volume;
            node = node;
            idle = ap (λ (n : NoSpace). n.idle) refused.6 ∙ exhausted old.volume rests is.volume.in_turn.waiting_ones;
            lacked = (refused, refl);
          },
        );
        of = tt;
      })
  freeze_so node rests (refusals.RingFull full) new refused same = absurd refused

  pub frozen_so : (node : ℕ) → IsQuiet old.volume → node_stage_of old.volume ≡ stages.Freeze node → (answer : Answer) (new : State) → FreezeGives node old client answer new → IsMadeSo client before after answer old new
  frozen_so node rests stage answers.Done new gives =
      done_so new new.volume gives.1
      (record { keys = ap (λ (v : Volume). keys_in v.trees) gives.0.rest; commits = ap commits_of gives.0.rest; layout = ap (λ (v : Volume). v.layout) gives.0.rest })
      (ap (λ (v : Volume). v.halted) gives.0.rest)
  frozen_so node rests stage (answers.At told durable) new gives = absurd (gives.0.other stage)
  frozen_so node rests stage (answers.Refused refusal) new gives = freeze_so node rests refusal new gives.0 gives.1
  frozen_so node rests stage answers.NoMemory new gives = no_memory_so new gives
  frozen_so node rests stage (answers.Found keys) new gives = absurd gives
  frozen_so node rests stage (answers.Ids tree) new gives = absurd gives
  frozen_so node rests stage (answers.Wait holder) new gives = absurd gives
  frozen_so node rests stage (answers.DeviceFault dev) new gives = absurd gives

  pub block_so : (node : ℕ) → node_stage_of old.volume ≡ stages.WriteSet node → before ≤ after → (answer : Answer) (new : State) → WriteSetGives node after old client answer new → IsMadeSo client before after answer old new
  block_so node stage later answers.Done new gives = done_so new _ gives.1 (record { keys = refl; commits = refl; layout = refl }) refl
  block_so node stage later (answers.DeviceFault dev) new gives =
      failed_so dev new _ gives.1 (record { keys = refl; commits = refl; layout = refl }) gives.0.writes (halted_now dev old.volume.halted gives.0.writes) later
  block_so node stage later (answers.At told durable) new gives = absurd (gives.0.other stage)
  block_so node stage later (answers.Refused refusal) new gives = noted_so refusal (halted_stops refusal gives.0) new gives.1
  block_so node stage later answers.NoMemory new gives = absurd gives
  block_so node stage later (answers.Found keys) new gives = absurd gives
  block_so node stage later (answers.Ids tree) new gives = absurd gives
  block_so node stage later (answers.Wait holder) new gives = absurd gives

  pub placed_so : node_stage_of old.volume ≡ stages.CommitNodes → (answer : Answer) (new : State) → CommitNodesGives old client answer new → IsMadeSo client before after answer old new
  placed_so stage answers.Done new gives =
      done_so new new.volume gives.1
      (record { keys = ap (λ (v : Volume). keys_in v.trees) gives.0.rest; commits = ap commits_of gives.0.rest; layout = ap (λ (v : Volume). v.layout) gives.0.rest })
      (ap (λ (v : Volume). v.halted) gives.0.rest)
  placed_so stage (answers.At told durable) new gives = absurd (gives.0.other stage)
  placed_so stage (answers.Refused refusal) new gives = noted_so refusal (placing_stops refusal gives.0) new gives.1
  placed_so stage answers.NoMemory new gives = no_memory_so new gives
  placed_so stage (answers.Found keys) new gives = absurd gives
  placed_so stage (answers.Ids tree) new gives = absurd gives
  placed_so stage (answers.Wait holder) new gives = absurd gives
  placed_so stage (answers.DeviceFault dev) new gives = absurd gives
