-- What an image is that a crash leaves at a moment of an event, told by what is in memory: in order, with each btree one leaf, so that it can be opened again, and
-- with the blocks of files as they were when the session began.
use Rattle.std.specs.Prelude.{◌≡◌, ◌≢◌, ◌⊎◌, ◌/◌, ◌<◌, ◌≤◌, ℕ, Option, Some, None, Ok, ◌++◌, All, length, slice_index_or}
use Rattle.btree_map.specs.Trees.{keys_in}
use Rattle.core_volume.specs.Volumes.{Volume, changes_in}
use Rattle.core_actors.specs.declared.answer.Answer.{Answer}
use Rattle.core_actors.specs.declared.answer.Answer.TheVariants.{DeviceFault}
use Rattle.dev_model.specs.Devices.{DevicesState, now}
use Rattle.dev_model.specs.Disk.{Image, IsCrashImage, as_read, block_at}
use Rattle.journal_writer.specs.Changes.{LeadTo}
use Rattle.journal_writer.specs.Queues.{waiting}
use Rattle.journal_writer.specs.declared.writer.Flight.{Flight}
use Rattle.image_view.specs.Bases.{AgreeAt}
use Rattle.image_view.specs.Found.{Found, IsInOrder, found, node_places}
use Rattle.image_view.specs.UpdatedTrees.{IsOfLeaf}
use Rattle.key_meaning.specs.Checks.{AreNodesPlaced, IsSound, count_in_bucket, live_blocks}
use Rattle.mirror_laws.specs.Degraded.{IsDegradedTo}
use Rattle.replay.specs.Mending.{IsUntorn, StandsOnAll}
use Rattle.replay.specs.NodeUpdates.{EachUpdate}
use Rattle.vol_types.specs.Limits.{bucket_blocks}
use Rattle.vol_types.specs.declared.pointers.NodePtr.{NodePtr}
use Rattle.vol_core.specs.Entries.{IsKnown}
use Rattle.vol_core.specs.Room.{LeavesRoom}

-- The base is what the last durable entry leads to: it has as many commits as are durable, and from its keys the changes that aren't durable lead to those
-- in memory.
pub record IsDurableBase (volume : Volume) (base : Found) : Type 0 where
  pub commits : base.last.entry.commits ≡ volume.writer.durable.commits
  pub lead : LeadTo (changes_in volume.writer.flight ++ waiting volume.queue) base.trees.keys (keys_in volume.trees)

-- The base is what the entry in flight leads to: it has that entry's commits, no fewer than are durable, and from its keys the changes that wait lead to those
-- in memory.
pub record IsFlightBase (volume : Volume) (base : Found) : Type 0 where
  pub flight : Flight
  pub flies : volume.writer.flight ≡ Some flight
  pub commits : base.last.entry.commits ≡ flight.entry.commits
  pub rise : volume.writer.durable.commits ≤ flight.entry.commits
  pub lead : LeadTo (waiting volume.queue) base.trees.keys (keys_in volume.trees)

-- Each btree of what was found is one leaf, and so are the updates of the needed entries: of keys in leaves.
pub record AreLeaves (f : Found) : Type 0 where
  pub roots : All (λ (root : NodePtr). root.level ≡ 0) f.last.entry.roots
  pub updates : EachUpdate f IsOfLeaf

-- What was found is sound: all eight checks hold of it.
abbrev pub IsSoundFound : Found → Type 0
IsSoundFound f = IsSound f.trees.keys (node_places f) f.layout

-- A bucket of a device has blocks of files, as the keys that were found say.
abbrev pub HasFiles : Found → ℕ → ℕ → Type 0
HasFiles f dev bucket = live_blocks f.trees.keys dev bucket ≢ 0

-- No node lies in a bucket that has blocks of files.
abbrev pub LieApartFromFiles : Found → Found → Type 0
LieApartFromFiles begun base = (dev bucket : ℕ) → HasFiles begun dev bucket → count_in_bucket (node_places base) dev bucket ≡ 0

-- The image holds the blocks of files as they were read when the session began.
abbrev pub HoldsFiles : Found → DevicesState → Image → Type 0
HoldsFiles begun start image = (dev block : ℕ) → HasFiles begun dev (block / bucket_blocks) → block_at image dev block ≡ block_at (as_read (now start)) dev block

-- Each entry that the last durable one needs, by what some image means with it, stands whole on every metadata device of the image.
pub record IsWholeOnAll (volume : Volume) (image : Image) : Type 0 where
  pub read : Image
  pub durable : Found
  pub finds : found read ≡ Ok durable
  pub known : IsKnown durable volume
  pub is : IsDurableBase volume durable
  pub whole : (index : ℕ) → index < length durable.needed → StandsOnAll volume.layout image (slice_index_or durable.needed index durable.last)

-- The second image is what is left of the first one on this metadata device alone: of the others any blocks of the journal and of nodes are lost, and no block of a file.
pub record IsLeftAlone (begun : Found) (mirror : ℕ) (image alone : Image) : Type 0 where
  pub on_mirror : mirror < begun.layout.metadata_replicas
  pub degraded : IsDegradedTo begun.layout mirror image alone
  pub files : (dev block : ℕ) → HasFiles begun dev (block / bucket_blocks) → AgreeAt image alone dev block

-- What a crash leaves is found in order, in the layout and the session that began: it is what the last durable entry leads to, or the one in flight. Each btree is
-- one leaf, and nodes lie where they may; where what was found at the opening was sound, no node lies among blocks of files, and these are as they were; and where it left room in
-- the ring, this does.
pub record IsLeft (begun : Found) (start : DevicesState) (volume : Volume) (image : Image) : Type 0 where
  pub base : Found
  pub finds : found image ≡ Ok base
  pub in_order : IsInOrder base image
  pub layout : base.layout ≡ begun.layout
  pub session : base.session ≡ begun.session
  pub live : IsDurableBase volume base ⊎ IsFlightBase volume base
  pub leaves : AreLeaves base
  pub placed : AreNodesPlaced (node_places base) base.layout
  pub room : LeavesRoom begun → LeavesRoom base
  pub apart : IsSoundFound begun → LieApartFromFiles begun base
  pub files : IsSoundFound begun → HoldsFiles begun start image

-- The image is so, and so is what is left of it on each metadata device alone; and each entry that the last durable one needs stands whole on every metadata device.
pub record IsLeftOnEach (begun : Found) (start : DevicesState) (volume : Volume) (image : Image) : Type 0 where
  pub itself : IsLeft begun start volume image
  pub alone : (mirror : ℕ) (alone : Image) → IsLeftAlone begun mirror image alone → IsLeft begun start volume alone
  pub whole : IsWholeOnAll volume image

-- Whatever a crash leaves at a moment of an event is so by what was in memory when the event began, where no torn block of the journal areas opens by chance.
abbrev pub KeepsLeft : Found → DevicesState → DevicesState → DevicesState → Volume → Type 0
KeepsLeft begun start old new volume =
    (moment : ℕ) → old.moment ≤ moment → moment ≤ new.moment → (image : Image) → IsCrashImage (new.disks moment) image → IsUntorn volume.layout start.moment moment new image
    → IsLeftOnEach begun start volume image

-- the device that an answer names as failed, if it names one
abbrev pub failed_by : Answer → Option ℕ
failed_by (DeviceFault dev) = Some dev
failed_by other = None
