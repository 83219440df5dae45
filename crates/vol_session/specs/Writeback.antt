-- What the works on what is durable leave of a session, and why they end early.
use Rattle.std.specs.Prelude.{◌≡◌, ◌≢◌, ◌⊎◌, ℕ, ◌≤◌, true, ⊤, Option, Some, None, Result, Ok, Err}
use Rattle.btree_map.specs.Trees.{keys_in}
use Rattle.core_volume.specs.Checkpoints.{IsFreezeRefused, IsPlacingRefused, after_refused}
use Rattle.core_volume.specs.Sealing.{IsSealRefused}
use Rattle.core_state.specs.States.{State, mine}
use Rattle.core_volume.specs.Volumes.{IsVolume, Volume, commits_of}
use Rattle.core_actors.specs.declared.actor.Actor.{Actor}
use Rattle.core_actors.specs.declared.answer.NoSpace.{NoSpace}
use Rattle.core_actors.specs.declared.answer.Refusal.{Refusal}
use Rattle.core_actors.specs.declared.answer.Refusal.TheVariants as refusals
use Rattle.vol_session.specs.Sessions.{SessionState}
use Rattle.vol_session.specs.declared.writeback_end.WritebackEnd.{WritebackEnd}
use Rattle.vol_session.specs.declared.writeback_end.WritebackEnd.TheVariants as stops

-- What an actor has under way stays, but for what it was told of the works, and its last failure.
pub record KeepsTransaction (old new : Actor) : Type 0 where
  pub operation : new.operation ≡ old.operation
  pub looks : new.looks ≡ old.looks
  pub has_ids : new.has_ids ≡ old.has_ids
  pub intended : new.intended ≡ old.intended

-- The works that a client drives leave keys, commits, the layout, the turn, and what each client has under way.
pub record KeepsKeys (client : ℕ) (old new : State) : Type 0 where
  pub keys : keys_in new.volume.trees ≡ keys_in old.volume.trees
  pub commits : commits_of new.volume ≡ commits_of old.volume
  pub layout : new.volume.layout ≡ old.volume.layout
  pub turn : new.turn ≡ old.turn
  pub actor : KeepsTransaction (mine old client) (mine new client)
  pub others : (other : ℕ) → other ≢ client → mine new other ≡ mine old other

-- Works leave the history and the acknowledgements, and all that is said above; a checkpoint meets commits that were refused for want of room.
pub record IsWorked {D : Type 0} (client : ℕ) (old new : SessionState D) : Type 0 where
  pub memory : KeepsKeys client old.core.memory new.core.memory
  pub rest : new ≡ record old { core = new.core; shortages = new.shortages }

-- the device that failed a work, if one did
abbrev pub stopped_by : {T : Type 0} → Result T WritebackEnd → Option ℕ
stopped_by (Err (stops.DeviceFault dev)) = Some dev
stopped_by other = None

-- The work on the journal or on nodes has no number left: of an entry, a block of the journal, a birth, or a count of changes.
pub record LacksNumber (volume : Volume) : Type 0 where
  pub node : ℕ
  pub lacks : IsSealRefused volume refusals.Spent ⊎ IsFreezeRefused node volume refusals.Spent ⊎ IsPlacingRefused volume refusals.Spent

-- The volume came to be so, from one with all that is kept of volumes, as the freezing of a leaf found no free bucket, and a checkpoint begun anew would end alike.
pub record LackedSpace (volume : Volume) (none : NoSpace) : Type 0 where
  pub before : Volume
  pub kept : IsVolume before
  pub node : ℕ
  pub idle : none.idle ≡ true
  pub lacked : IsFreezeRefused node before (refusals.NoSpace none) × (volume ≡ after_refused (refusals.NoSpace none) before)

-- An entry finds no room in the ring, or a leaf is too large by durable entries alone, as only an image of another program shows.
abbrev pub IsForeign : Volume → Refusal → Type 0
IsForeign volume (refusals.RingFull full) = IsSealRefused volume (refusals.RingFull full)
IsForeign volume (refusals.NeedSplit need) = (node : ℕ) × IsFreezeRefused node volume (refusals.NeedSplit need)
IsForeign volume other = ⊥

-- Why a work ends early: the session stopped writing, at the failure of a device or before; a number isn't left; there was no space; or no memory.
abbrev pub StopsWith : {T : Type 0} → Result T WritebackEnd → (before after : ℕ) → Volume → Volume → Type 0
StopsWith (Ok done) before after old new = new.halted ≡ old.halted
StopsWith (Err (stops.DeviceFault dev)) before after old new = (old.halted ≡ None) × (tick : ℕ) × (new.halted ≡ Some (record { dev = dev; tick = tick })) × (before ≤ tick) × (tick ≤ after)
StopsWith (Err (stops.Halted halt)) before after old new = (new.halted ≡ old.halted) × (new.halted ≡ Some halt)
StopsWith (Err stops.Spent) before after old new = (new.halted ≡ old.halted) × LacksNumber new
StopsWith (Err (stops.NoSpace none)) before after old new = (new.halted ≡ old.halted) × LackedSpace new none
StopsWith (Err (stops.Foreign refusal)) before after old new = (new.halted ≡ old.halted) × IsForeign new refusal
StopsWith (Err stops.NoMemory) before after old new = new.halted ≡ old.halted

-- A work on the journal alone ends so: not for lack of buckets, nor for a leaf that is too large.
abbrev pub MayStopSync : WritebackEnd → Type 0
MayStopSync (stops.NoSpace none) = ⊥
MayStopSync (stops.Foreign (refusals.NeedSplit need)) = ⊥
MayStopSync other = ⊤
