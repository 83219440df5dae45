-- What the call of an operation answers, and the cause of each failure.
use Rattle.std.specs.Prelude.{◌≡◌, ◌⊎◌, ℕ, true, ⊤, Some, List, [], ◌∷◌, ◌++◌}
use Rattle.btree_map.specs.Trees.{keys_in}
use Rattle.dirty_nodes.specs.Splits.{IsSplitNeed}
use Rattle.dirty_nodes.specs.declared.splits.NeedSplit.{NeedSplit}
use Rattle.core_volume.specs.Commits.{AreIntended}
use Rattle.core_volume.specs.Rulings.{HasCommitNumbers, IsRefused}
use Rattle.core_volume.specs.Volumes.{Volume}
use Rattle.core_actors.specs.declared.answer.NoSpace.{NoSpace as NoSpaceHere}
use Rattle.core_actors.specs.declared.answer.Refusal.TheVariants as refusals
use Rattle.core_actors.specs.declared.answer.Refusal.{Refusal}
use Rattle.dev_model.specs.Devices.{DevicesState, FaultCounts, with_write_fault}
use Rattle.forest_ops.specs.Classes.{class_of}
use Rattle.forest_ops.specs.declared.operation.Class.TheVariants.{Syncs}
use Rattle.forest_ops.specs.declared.operation.Op.{Op}
use Rattle.forest_ops.specs.declared.operation.Reply.{Reply}
use Rattle.forest_ops.specs.declared.operation.Reply.TheVariants.{DeviceFault, Halted, NoMemory, NoSpace, Spent, Synced}
use Rattle.forest_ops.specs.declared.acks.Ack.{Ack}
use Rattle.fs_plan.specs.Plans.{IsPlanOf}
use Rattle.key_meaning.specs.Checks.{IsSound}
use Rattle.key_meaning.specs.Tidy.{IsTidy}
use Rattle.image_view.specs.Found.{Found}
use Rattle.vol_core.specs.Rested.{IsRested, MayKeepRing}
use Rattle.vol_session.specs.Sessions.{SessionState}
use Rattle.vol_types.specs.declared.keys.Update.{Update}
use Rattle.vol_types.specs.declared.layout.Layout.{Layout}
use Rattle.vol_types.specs.declared.pointers.Place.{Place}
use Rattle.vol_types.specs.declared.space.Short.{Short}
use Rattle.vol_session.specs.Writeback.{IsForeign, LackedSpace, LacksNumber}

-- the acknowledgements after a reply at this moment
abbrev pub acks_after : Reply → ℕ → List Ack → List Ack
acks_after (Synced count) moment acks = acks ++ record { moment = moment; commits = count } ∷ []
acks_after reply moment acks = acks

-- The client's operation got the reply: its entry joined the history, and where it says that commits are durable, these are all that the session has made, and are acknowledged.
pub record IsAnswered {D : Type 0} (state : D → DevicesState) (client : ℕ) (op : Op) (reply : Reply) (old new : SessionState D) : Type 0 where
  pub trace : new.trace ≡ old.trace ++ record { client = client; op = op; reply = reply } ∷ []
  pub acks : new.acks ≡ acks_after reply (state new.core.devices).moment old.acks
  pub synced : (count : ℕ) → reply ≡ Synced count → (count ≡ new.commits) × (new.commits ≡ old.commits)

-- Where the reply says that commits are durable, they are so many: all that there are.
abbrev pub AcknowledgesAll : ℕ → Reply → Type 0
AcknowledgesAll commits reply = (count : ℕ) → reply ≡ Synced count → count ≡ commits

-- The client would commit the operation by these updates: they are those of its plan for the keys in memory, sound and tidy as these are.
pub record AreUpdatesOf (client : ℕ) (op : Op) (volume : Volume) (updates : List Update) : Type 0 where
  pub reply : Reply
  pub plan : (nodes : List Place) (layout : Layout) → IsSound (keys_in volume.trees) nodes layout → IsTidy (keys_in volume.trees)
      → IsPlanOf (keys_in volume.trees) nodes layout client (record { op = op; updates = updates; reply = reply; commits = true })

-- what is told of the buckets where no bucket lacks
abbrev pub nothing_short : Short
nothing_short = record { need = 0; free = []; held = [] }

-- A leaf would be too large with the operation's updates, so that the node would have to be split.
pub record IsLeafFull (client : ℕ) (op : Op) (short : Short) (volume : Volume) : Type 0 where
  pub updates : List Update
  pub of_op : AreUpdatesOf client op volume updates
  pub need : NeedSplit
  pub splits : IsSplitNeed volume.trees updates need
  pub told : short ≡ nothing_short

-- The operation's updates may not be made at once, as they don't fit an entry of the journal; so it is only over keys that aren't sound.
pub record IsEntryFull (client : ℕ) (op : Op) (short : Short) (volume : Volume) : Type 0 where
  pub updates : List Update
  pub of_op : AreUpdatesOf client op volume updates
  pub unfit : ¬ AreIntended volume.layout.metadata_replicas updates
  pub told : short ≡ nothing_short

-- The commit of the operation's updates is refused since there are too few free buckets, and a checkpoint would free none.
pub record AreBucketsFull (client : ℕ) (op : Op) (short : Short) (volume : Volume) : Type 0 where
  pub updates : List Update
  pub of_op : AreUpdatesOf client op volume updates
  pub none : NoSpaceHere
  pub refused : IsRefused volume updates true (refusals.NoSpace none)
  pub idle : none.idle ≡ true
  pub told : short ≡ none.short

-- It is a refusal for lack of room in the ring, or of free buckets, and what is told of the buckets is its.
abbrev pub TellsRefusal : Short → Refusal → Type 0
TellsRefusal short (refusals.RingFull full) = short ≡ nothing_short
TellsRefusal short (refusals.NoSpace none) = short ≡ none.short
TellsRefusal short other = ⊥

-- Both works rest, as after a checkpoint, and still the commit of the operation's updates is refused, for lack of room in the ring or of free buckets. So it is only
-- where the ring may not be kept of what was found, as where a btree has several nodes, which only an image of another program shows.
pub record IsFullAtRest (begun : Found) (client : ℕ) (op : Op) (short : Short) (volume : Volume) : Type 0 where
  pub unkept : ¬ MayKeepRing begun
  pub updates : List Update
  pub of_op : AreUpdatesOf client op volume updates
  pub refusal : Refusal
  pub rested : IsRested volume
  pub refused : IsRefused volume updates true refusal
  pub told : TellsRefusal short refusal

-- There was no space for a checkpoint: for its leaves, or for its entries, or a leaf is too large by durable entries alone.
pub record HasNoCheckpoint (short : Short) (volume : Volume) : Type 0 where
  pub why : ((none : NoSpaceHere) × LackedSpace volume none × (short ≡ none.short)) ⊎ ((refusal : Refusal) × IsForeign volume refusal × (short ≡ nothing_short))

-- There is no space for the client's operation in a session that began with what was found, by one of these causes.
abbrev pub LacksSpace : Found → ℕ → Op → Short → Volume → Type 0
LacksSpace begun client op short volume =
    IsLeafFull client op short volume ⊎ IsEntryFull client op short volume ⊎ AreBucketsFull client op short volume ⊎ IsFullAtRest begun client op short volume ⊎ HasNoCheckpoint short volume

-- It is a refusal for lack of room in the ring.
abbrev pub IsOfRing : Refusal → Type 0
IsOfRing (refusals.RingFull full) = ⊤
IsOfRing other = ⊥

-- The operation syncs, and the ring has no block left for an entry, as only an image of another program shows.
pub record IsRingSpent (op : Op) (volume : Volume) : Type 0 where
  pub syncs : class_of op ≡ Syncs
  pub refusal : Refusal
  pub of_ring : IsOfRing refusal
  pub foreign : IsForeign volume refusal

-- No number is left for the commit of the operation's updates, which fit an entry of the journal.
pub record IsCommitSpent (client : ℕ) (op : Op) (volume : Volume) : Type 0 where
  pub updates : List Update
  pub of_op : AreUpdatesOf client op volume updates
  pub fit : AreIntended volume.layout.metadata_replicas updates
  pub spent : ¬ HasCommitNumbers volume updates true

-- No number is left for the operation's commit, or for a work on what is durable, or the ring has no block left for a sync.
abbrev pub IsNumberSpent : ℕ → Op → Volume → Type 0
IsNumberSpent client op volume = IsCommitSpent client op volume ⊎ LacksNumber volume ⊎ IsRingSpent op volume

-- The cause of a reply to a client's operation, in the volume that it leaves: a failure of a device is the only one that its counts tell; a halt is the session's; where space or a
-- number is lacking, the volume lacks it; want of memory is told by no reply; and with every other reply no call failed.
abbrev pub HasCause : Found → ℕ → Op → Reply → Volume → FaultCounts → FaultCounts → Type 0
HasCause begun client op (DeviceFault dev) volume before after = after ≡ with_write_fault dev before
HasCause begun client op (Halted dev tick) volume before after = (after ≡ before) × (volume.halted ≡ Some (record { dev = dev; tick = tick }))
HasCause begun client op (NoSpace short) volume before after = (after ≡ before) × LacksSpace begun client op short volume
HasCause begun client op Spent volume before after = (after ≡ before) × IsNumberSpent client op volume
HasCause begun client op NoMemory volume before after = ⊥
HasCause begun client op reply volume before after = after ≡ before
