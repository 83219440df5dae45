-- How the parts of a call move a session, and what an operation leaves of it.
use Rattle.std.specs.Prelude.{◌≡◌, ◌≢◌, ◌⊎◌, ℕ, ◌<◌, ◌≤◌, ⊤, Bool, true, false, ◌&&◌, if◌then◌else◌, Option, Some, None, IsSome, is_some, List, [], ◌∷◌, ◌++◌, length}
use Rattle.btree_map.specs.Trees.{keys_in}
use Rattle.core_volume.specs.Commits.{AreIntended}
use Rattle.core_state.specs.Events.{intended_by}
use Rattle.core_volume.specs.Rulings.{IsRefused}
use Rattle.core_state.specs.States.{State, mine, other_holder}
use Rattle.core_volume.specs.Volumes.{Volume}
use Rattle.core_actors.specs.declared.answer.Answer.{Answer}
use Rattle.core_actors.specs.declared.answer.Answer.TheVariants as answers
use Rattle.vol_types.specs.declared.failure.Halt.{Halt}
use Rattle.dev_model.specs.Devices.{DevicesState}
use Rattle.dev_model.specs.Frames.{GoOn}
use Rattle.forest_ops.specs.Acknowledged.{synced_count}
use Rattle.forest_ops.specs.Classes.{class_of, is_changing}
use Rattle.forest_ops.specs.History.{commits, is_done}
use Rattle.forest_ops.specs.Steps.{answer_of}
use Rattle.forest_ops.specs.declared.operation.Op.{Op}
use Rattle.forest_ops.specs.declared.operation.Reply.{Reply}
use Rattle.forest_ops.specs.declared.operation.Reply.TheVariants as replies
use Rattle.fs_plan.specs.Plans.{is_planned}
use Rattle.image_view.specs.Found.{Found}
use Rattle.key_meaning.specs.Forest.{Read, forest_in}
use Rattle.plain_forest.specs.Forest.{Forest}
use Rattle.vol_core.specs.Rested.{IsRested}
use Rattle.vol_session.specs.Sessions.{IfSoundKeys, IsPlanNow, SessionState}
use Rattle.vol_session.specs.Shortages.{IsHelped}
use Rattle.vol_session.specs.declared.writeback_end.WritebackEnd.{WritebackEnd}
use Rattle.vol_session.specs.declared.writeback_end.WritebackEnd.TheVariants as stops
use Rattle.volume.specs.Answers.{HasCause, IsAnswered, nothing_short}
use Rattle.volume.specs.States.{IsAtRest, IsIdle}

-- The client has an operation under way, no other actor has the turn, and no other client has anything under way.
pub record IsUnderWay (memory : State) (client : ℕ) : Type 0 where
  pub there : client < 16
  pub operation : IsSome (mine memory client).operation
  pub turn : other_holder client memory.turn ≡ None
  pub others : (other : ℕ) → other < 16 → other ≢ client → IsIdle (mine memory other)

-- Only what a client has under way has changed.
pub record IsStepped {D : Type 0} (old new : SessionState D) : Type 0 where
  pub rest : new ≡ record old { core = new.core }
  pub volume : new.core.memory.volume ≡ old.core.memory.volume
  pub devices : new.core.devices ≡ old.core.devices

-- The history and the keys stand, no call failed, and the session didn't stop writing.
pub record IsMoved {D : Type 0} (state : D → DevicesState) (old new : SessionState D) : Type 0 where
  pub rest : new ≡ record old { core = new.core; shortages = new.shortages }
  pub keys : keys_in new.core.memory.volume.trees ≡ keys_in old.core.memory.volume.trees
  pub halted : new.core.memory.volume.halted ≡ old.core.memory.volume.halted
  pub unfailed : (state new.core.devices).faults ≡ (state old.core.devices).faults
  pub goes_on : GoOn (state old.core.devices) (state new.core.devices)

-- The entry has joined the history, no client has anything under way, and nothing else has changed.
pub record IsEntered {D : Type 0} (client : ℕ) (op : Op) (reply : Reply) (old new : SessionState D) : Type 0 where
  pub entry : new ≡ record old { core = new.core; trace = old.trace ++ record { client = client; op = op; reply = reply } ∷ []; spare = new.spare }
  pub volume : new.core.memory.volume ≡ old.core.memory.volume
  pub devices : new.core.devices ≡ old.core.devices
  pub rest : IsAtRest new.core.memory

-- What a reply shows of the halt, between two moments of devices of these sizes: the session stopped writing with a failure that is told, and at no other
-- reply; and it had stopped as is told.
abbrev pub HaltsAs : Reply → (before after : ℕ) → List ℕ → (old new : Option Halt) → Type 0
HaltsAs (replies.DeviceFault dev) before after sizes old new =
    (old ≡ None) × (tick : ℕ) × (new ≡ Some (record { dev = dev; tick = tick })) × (before ≤ tick) × (tick ≤ after) × (dev < length sizes)
HaltsAs (replies.Halted dev tick) before after sizes old new = (new ≡ old) × (new ≡ Some (record { dev = dev; tick = tick }))
HaltsAs reply before after sizes old new = new ≡ old

-- A change is done only where the session hasn't stopped writing, even one that would change nothing.
abbrev pub IsWriting : Op → Reply → Option Halt → Type 0
IsWriting op reply halted = is_changing (class_of op) ≡ true → is_done reply ≡ true → halted ≡ None

-- the halt that is told of an operation in the place of the forest's reply: the session's, where a change would be done
abbrev pub halt_told : Op → Reply → Option Halt → Option Halt
halt_told op reply halted = if is_changing (class_of op) && is_done reply then halted else None

-- The client's operation was answered, with a cause, and no client has anything under way.
pub record IsServed {D : Type 0} (begun : Found) (state : D → DevicesState) (client : ℕ) (op : Op) (reply : Reply) (old new : SessionState D) : Type 0 where
  pub answered : IsAnswered state client op reply old new
  pub cause : HasCause begun client op reply new.core.memory.volume (state old.core.devices).faults (state new.core.devices).faults
  pub halts : HaltsAs reply (state old.core.devices).moment (state new.core.devices).moment (state old.core.devices).sizes old.core.memory.volume.halted new.core.memory.volume.halted
  pub writes : IsWriting op reply old.core.memory.volume.halted
  pub rest : IsAtRest new.core.memory
  pub goes_on : GoOn (state old.core.devices) (state new.core.devices)

-- There was no memory to answer it: the history stands, no call failed, the session didn't stop writing, and no client has anything under way.
pub record IsUnserved {D : Type 0} (state : D → DevicesState) (old new : SessionState D) : Type 0 where
  pub same : new ≡ record old { core = new.core; spare = new.spare; shortages = new.shortages }
  pub halted : new.core.memory.volume.halted ≡ old.core.memory.volume.halted
  pub unfailed : (state new.core.devices).faults ≡ (state old.core.devices).faults
  pub rest : IsAtRest new.core.memory
  pub goes_on : GoOn (state old.core.devices) (state new.core.devices)

-- The operation can be planned, and with this reply it is a commit in every forest.
pub record IsChange (op : Op) (reply : Reply) : Type 0 where
  pub planned : is_planned op ≡ true
  pub commits : (forest : Forest) → commits op reply forest ≡ true

-- The forest that the keys in memory mean, sound and tidy as they are, would do the client's operation.
abbrev pub IsDoneNow : State → ℕ → Op → Type 0
IsDoneNow memory client op = IfSoundKeys memory (λ keys nodes layout. (read : Read) → is_done (answer_of client op (forest_in keys read)) ≡ true)

-- The client intends updates that fit an entry of the journal and are its plan's: with them the keys in memory mean the forest after the commit.
pub record IsIntended (memory : State) (client : ℕ) (op : Op) (reply : Reply) : Type 0 where
  pub under : IsUnderWay memory client
  pub change : IsChange op reply
  pub intended : IsSome (mine memory client).intended
  pub fit : AreIntended memory.volume.layout.metadata_replicas (intended_by memory client)
  pub now : IsPlanNow memory client (record { op = op; updates = intended_by memory client; reply = reply; commits = true })

-- The client intends the updates of a commit of the operation, whatever its reply.
pub record HasIntent (memory : State) (client : ℕ) (op : Op) : Type 0 where
  pub reply : Reply
  pub intended : IsIntended memory client op reply

-- What the client intends wasn't committed: it is refused, or there was no memory.
abbrev pub IsUnmade : State → ℕ → Answer → Type 0
IsUnmade memory client (answers.Refused refusal) = IsRefused memory.volume (intended_by memory client) true refusal
IsUnmade memory client answers.NoMemory = ⊤
IsUnmade memory client other = ⊥

-- whether a reply says how many commits are durable
abbrev pub is_synced : Reply → Bool
is_synced reply = is_some (synced_count reply)

-- Where no commit that was refused for want of room was left to be helped, none is.
abbrev pub IsHelpedStill : {D : Type 0} → SessionState D → SessionState D → Type 0
IsHelpedStill old new = IsHelped old.shortages → IsHelped new.shortages

-- A checkpoint doesn't help a commit: none would, or both works rest.
abbrev pub IsHelpless : Volume → Bool → Type 0
IsHelpless volume may_help = (may_help ≡ false) ⊎ IsRested volume

-- The reply to a change tells why a checkpoint ended early; want of memory is told by none.
abbrev pub TellsStop : WritebackEnd → Reply → Type 0
TellsStop (stops.DeviceFault dev) reply = reply ≡ replies.DeviceFault dev
TellsStop (stops.Halted halt) reply = reply ≡ replies.Halted halt.dev halt.tick
TellsStop stops.Spent reply = reply ≡ replies.Spent
TellsStop (stops.NoSpace none) reply = reply ≡ replies.NoSpace none.short
TellsStop (stops.Foreign refusal) reply = reply ≡ replies.NoSpace nothing_short
TellsStop stops.NoMemory reply = ⊥

-- The reply to a sync tells why it ended early: where the ring has no room, no block of it is left.
abbrev pub TellsSync : WritebackEnd → Reply → Type 0
TellsSync (stops.DeviceFault dev) reply = reply ≡ replies.DeviceFault dev
TellsSync (stops.Halted halt) reply = reply ≡ replies.Halted halt.dev halt.tick
TellsSync stops.Spent reply = reply ≡ replies.Spent
TellsSync (stops.NoSpace none) reply = ⊥
TellsSync (stops.Foreign refusal) reply = reply ≡ replies.Spent
TellsSync stops.NoMemory reply = ⊥
