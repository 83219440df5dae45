-- A session over an open volume: its history and its acknowledgements beside the core, and what its type keeps of them.
use Rattle.std.specs.Prelude.{◌≡◌, ◌⊎◌, ℕ, ◌+◌, ◌≤◌, true, false, IsSome, List, All, ⊤}
use Rattle.btree_map.specs.Trees.{keys_in}
use Rattle.core_actors.specs.Actors.{noted}
use Rattle.core_state.specs.Events.{intended_by}
use Rattle.core_volume.specs.Rulings.{IsRefused}
use Rattle.core_state.specs.States.{State, mine, with_mine}
use Rattle.core_actors.specs.declared.answer.Answer.{Answer}
use Rattle.core_actors.specs.declared.answer.Answer.TheVariants.{NoMemory, Refused}
use Rattle.core_volume.specs.Volumes.{Volume, commits_of}
use Rattle.core_actors.specs.declared.event.Event.{Event}
use Rattle.core_actors.specs.declared.event.Event.TheVariants as events
use Rattle.dev_model.specs.Devices.{DevicesState}
use Rattle.dev_model.specs.Frames.{GoOn}
use Rattle.journal_writer.specs.Queues.{oldest}
use Rattle.forest_ops.specs.Classes.{class_of, is_changing, may_fail}
use Rattle.forest_ops.specs.History.{EachEntry, History, IsLegal, after_all, commit_count, is_done}
use Rattle.forest_ops.specs.Steps.{answer_of}
use Rattle.forest_ops.specs.declared.operation.Entry.{Entry}
use Rattle.forest_ops.specs.declared.operation.Op.{Op}
use Rattle.forest_ops.specs.declared.operation.Reply.{Reply}
use Rattle.fs_plan.specs.Plans.{IsPlanOf, is_planned}
use Rattle.fs_plan.specs.declared.planned.Plan.{Plan}
use Rattle.image_view.specs.Found.{Found}
use Rattle.key_meaning.specs.Checks.{IsSound}
use Rattle.key_meaning.specs.Forest.{Read, forest_in}
use Rattle.key_meaning.specs.Tidy.{IsTidy}
use Rattle.plain_forest.specs.Forest.{Forest}
use Rattle.replay.specs.Mending.{KeepsPast}
use Rattle.forest_ops.specs.Acknowledged.{AreAcks, synced_count}
use Rattle.forest_ops.specs.declared.acks.Ack.{Ack}
use Rattle.vol_core.specs.Cores.{CoreState}
use Rattle.vol_core.specs.Rested.{DoCommitsRise}
use Rattle.vol_session.specs.Marks.{AreGoodMarks, IsAtMarks, commits_found, forest_found}
use Rattle.vol_session.specs.Numbers.{AreNumbersCounted}
use Rattle.vol_session.specs.Shortages.{ShortageState}
use Rattle.vol_session.specs.Survivors.{BeginsWell, Survive}
use Rattle.vol_session.specs.Writing.{KeepsWriter}
use Rattle.vol_types.specs.KeyMaps.{KeyMap}
use Rattle.vol_types.specs.declared.layout.Layout.{Layout}
use Rattle.vol_types.specs.declared.pointers.Place.{Place}

-- the core, with the history and the acknowledgements of the session, how many commits it has made, whether its history and its acknowledgements take one more
-- without memory, and what is to be done about commits that were refused for want of room
pub record SessionState (D : Type 0) : Type 0 where
  pub core : CoreState D
  pub trace : History
  pub acks : List Ack
  pub commits : ℕ
  pub spare : ℕ
  pub shortages : ShortageState

-- The event is none that commits updates: a session does that with the history's entry, at once.
abbrev pub IsNoCommit : Event → Type 0
IsNoCommit (events.Commit counted) = ⊥
IsNoCommit other = ⊤

-- The keys in memory have it wherever they are sound and tidy.
abbrev pub IfSoundKeys : State → (KeyMap → List Place → Layout → Type 0) → Type 0
IfSoundKeys memory P = (nodes : List Place) (layout : Layout) → IsSound (keys_in memory.volume.trees) nodes layout → IsTidy (keys_in memory.volume.trees) → P (keys_in memory.volume.trees) nodes layout

-- The plan is one of the client's operation for the keys in memory, sound and tidy as they are.
abbrev pub IsPlanNow : State → ℕ → Plan → Type 0
IsPlanNow memory client plan = IfSoundKeys memory (λ keys nodes layout. IsPlanOf keys nodes layout client plan)

-- A failure that the operation may have; where it would change the forest, the one that the keys in memory mean wouldn't refuse it.
pub record IsFailureNow (memory : State) (client : ℕ) (op : Op) (reply : Reply) : Type 0 where
  pub may : may_fail op reply ≡ true
  pub done : is_changing (class_of op) ≡ true → IfSoundKeys memory (λ keys nodes layout. (read : Read) → is_done (answer_of client op (forest_in keys read)) ≡ true)

-- The reply to the client's operation is that of the forest which the keys in memory mean, and no failure that it may have.
pub record IsAnswerNow (memory : State) (client : ℕ) (op : Op) (reply : Reply) : Type 0 where
  pub unfailed : may_fail op reply ≡ false
  pub answers : IfSoundKeys memory (λ keys nodes layout. (read : Read) → reply ≡ answer_of client op (forest_in keys read))

-- The reply to the client's operation, which changes nothing: the forest's, or a failure.
abbrev pub IsToldNow : State → ℕ → Op → Reply → Type 0
IsToldNow memory client op reply = IsAnswerNow memory client op reply ⊎ IsFailureNow memory client op reply

-- The forest that the keys in memory mean answers the client's operation with a number of commits.
abbrev pub IsSyncedNow : State → ℕ → Op → Type 0
IsSyncedNow memory client op = IfSoundKeys memory (λ keys nodes layout. (read : Read) → IsSome (synced_count (answer_of client op (forest_in keys read))))

-- An operation that would change the forest fails only where this wouldn't refuse it.
abbrev pub IsExact : Forest → History → Entry → Type 0
IsExact opening before entry =
    is_changing (class_of entry.op) ≡ true → may_fail entry.op entry.reply ≡ true → is_done (answer_of entry.client entry.op (after_all opening before)) ≡ true

-- What is kept where the devices tell what they hold, and the session began well: the key maps after its commits mean the forests after the commits of its history;
-- whatever a crash left is one of these, with all that was acknowledged by then; and its history is legal and exact.
pub record IsSafeSession (begun : Found) (start state : DevicesState) (volume : Volume) (trace : History) (acks : List Ack) : Type 0 where
  pub marks : List KeyMap
  pub good : AreGoodMarks begun start trace marks
  pub at : IsAtMarks begun marks volume
  pub survive : Survive begun start state trace acks
  pub legal : IsLegal (forest_found begun start) trace
  pub exact : EachEntry (IsExact (forest_found begun start)) trace

-- What is kept in any case: commits and acknowledgements are counted, no more is acknowledged than is durable, each operation is one that is planned, what the
-- journal needs next can be done, and numbers rise slowly.
pub record IsCounted (begun : Found) (start state : DevicesState) (volume : Volume) (trace : History) (acks : List Ack) (commits : ℕ) : Type 0 where
  pub layout : volume.layout ≡ begun.layout
  pub commits_are : commits_of volume ≡ commits_found begun + commits
  pub counted : commits ≡ commit_count (forest_found begun start) trace
  pub planned : All (λ (entry : Entry). is_planned entry.op ≡ true) trace
  pub durable : All (λ (ack : Ack). commits_found begun + ack.commits ≤ volume.writer.durable.commits) acks
  pub acks_are : AreAcks start.moment state.moment trace acks
  pub goes_on : GoOn start state
  pub writer : KeepsWriter volume
  pub numbers : AreNumbersCounted begun start state commits volume

-- What a session keeps. No entry has fewer commits than the one before it, and none than are durable.
pub record IsSession (tells : Type 0) (begun : Found) (start state : DevicesState) (memory : State) (trace : History) (acks : List Ack) (commits : ℕ) : Type 0 where
  pub counted : IsCounted begun start state memory.volume trace acks commits
  pub rise : DoCommitsRise memory.volume.writer.flight memory.volume.writer.durable.commits (oldest memory.volume.queue).commits
  pub past : tells → KeepsPast start state
  pub safe : tells → BeginsWell begun start → IsSafeSession begun start state memory.volume trace acks

-- A commit isn't made: it is refused, and why is noted, or there was no memory, and nothing has changed.
abbrev pub IsUncommitted : State → ℕ → Answer → State → Type 0
IsUncommitted old actor (Refused refusal) new =
    IsRefused old.volume (intended_by old actor) true refusal × (new ≡ with_mine actor (noted refusal (mine old actor)) old)
IsUncommitted old actor NoMemory new = new ≡ old
IsUncommitted old actor other new = ⊥
