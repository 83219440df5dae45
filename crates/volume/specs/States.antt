-- What a volume keeps between its operations, beside what its session keeps: the failures that its history tells, what its clients have under way, which is nothing, and that each commit which was refused for want of room was helped.
use Rattle.std.specs.Prelude.{◌≡◌, ◌<◌, ◌^◌, ℕ, All, false, Option, None, List, length, option_map, is_some}
use Rattle.core_actors.specs.Actors.{holds}
use Rattle.core_actors.specs.declared.actor.Actor.{Actor}
use Rattle.core_state.specs.States.{State, mine}
use Rattle.vol_types.specs.declared.failure.Halt.{Halt}
use Rattle.dev_model.specs.Devices.{DevicesState}
use Rattle.dev_model.specs.Frames.{after_writes}
use Rattle.forest_ops.specs.History.{History}
use Rattle.forest_ops.specs.declared.acks.Ack.{Ack}
use Rattle.forest_ops.specs.declared.operation.Entry.{Entry}
use Rattle.forest_ops.specs.Classes.{class_of}
use Rattle.forest_ops.specs.declared.operation.Class.TheVariants.{Syncs}
use Rattle.forest_ops.specs.declared.operation.Reply.TheVariants.{Spent}
use Rattle.image_view.specs.Found.{Found}
use Rattle.forest_ops.specs.Failures.{Halts, HaveCauses, NoCommitAfterHalt, has_failed}
use Rattle.vol_session.specs.Marks.{forest_found}
use Rattle.vol_core.specs.Cores.{CoreState}
use Rattle.vol_core.specs.Room.{LeavesRoom, MayKeepRoom}
use Rattle.vol_session.specs.Numbers.{IsFarFromSpent}
use Rattle.vol_session.specs.Sessions.{SessionState}
use Rattle.vol_session.specs.Shortages.{IsHelped, ShortageState}
use Rattle.vol_session.specs.Survivors.{BeginsWell}

-- a session, and how many operations it was called with, up to 2^64 - 1
pub record VolumeState (D : Type 0) : Type 0 where
  pub core : CoreState D
  pub trace : History
  pub acks : List Ack
  pub commits : ℕ
  pub spare : ℕ
  pub shortages : ShortageState
  pub calls : ℕ

-- the session of a volume
abbrev pub session_in : {D : Type 0} → VolumeState D → SessionState D
session_in volume = record { core = volume.core; trace = volume.trace; acks = volume.acks; commits = volume.commits; spare = volume.spare; shortages = volume.shortages }

-- the device that failed, if the session has stopped writing
abbrev pub halted_device : Option Halt → Option ℕ
halted_device halted = option_map (λ (halt : Halt). halt.dev) halted

-- An actor has nothing under way.
pub record IsIdle (actor : Actor) : Type 0 where
  pub operation : actor.operation ≡ None
  pub holds_nothing : holds actor ≡ false

-- None of the 16 clients has anything under way, and nobody has the turn.
pub record IsAtRest (memory : State) : Type 0 where
  pub clients : (client : ℕ) → client < 16 → IsIdle (mine memory client)
  pub turn : memory.turn ≡ None

-- The session has stopped writing exactly where an entry says that a device failed, and then one call of that device has failed, a write or a flush, and else none has.
-- The entries agree with the halt, none after it is a commit, and each failure has a cause.
pub record KeepsFailures (begun : Found) (start state : DevicesState) (halted : Option Halt) (trace : History) : Type 0 where
  pub failed : is_some halted ≡ has_failed trace
  pub only : state.faults ≡ after_writes (halted_device halted) start.faults
  pub halts : Halts halted start state trace
  pub no_commit : NoCommitAfterHalt (forest_found begun start) trace
  pub causes : HaveCauses start.faults state.faults trace

-- The devices tell what they hold, and the session began well with a volume that left room in the ring of the journal.
pub record BeganWithRoom (tells : Type 0) (begun : Found) (start : DevicesState) : Type 0 where
  pub told : tells
  pub well : BeginsWell begun start
  pub room : LeavesRoom begun

-- The session began without room in the ring: it may not be kept of what was found, so that besides the devices don't tell, or the session didn't begin well with room.
pub record BeganWithoutRoom (tells : Type 0) (begun : Found) (start : DevicesState) : Type 0 where
  pub unkept : ¬ MayKeepRoom begun
  pub without : ¬ BeganWithRoom tells begun start

-- Where what was found is far from the end of each number, and the session and its history are short, no entry says that a number is used up, but that of an operation which syncs, and that
-- only where the session began without room.
abbrev pub AreUnspent : Type 0 → Found → DevicesState → DevicesState → History → Type 0
AreUnspent tells begun start state trace =
    IsFarFromSpent begun start state → length trace < 2 ^ 31 → All (λ (entry : Entry). entry.reply ≡ Spent → (class_of entry.op ≡ Syncs) × BeganWithoutRoom tells begun start) trace

-- What is kept between operations.
pub record IsBetween (tells : Type 0) (begun : Found) (start state : DevicesState) (memory : State) (trace : History) (shortages : ShortageState) : Type 0 where
  pub rest : IsAtRest memory
  pub failures : KeepsFailures begun start state memory.volume.halted trace
  pub unspent : AreUnspent tells begun start state trace
  pub helped : IsHelped shortages
