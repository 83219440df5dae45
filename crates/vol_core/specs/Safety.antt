-- What a session keeps of its volume on the devices: whatever a crash has left since it began means what some entry led to, and what is in
-- memory is what the last durable one means, with the changes that aren't durable yet.
use Rattle.std.specs.Prelude.{◌≡◌, ◌<◌, ◌≤◌, ◌+◌, ℕ, Option, Some, Ok, List, [], ◌∷◌, ◌++◌, All, length, slice_get, slice_index_or, ⊤}
use Rattle.birth_index.specs.Exchanges.{HaveOneNode}
use Rattle.btree_map.specs.Trees.{keys_in}
use Rattle.crash_safety.specs.KeptLeaves.{KeepsLeaves}
use Rattle.core_volume.specs.Volumes.{Volume, changes_in}
use Rattle.dev_model.specs.Devices.{DevicesState, now}
use Rattle.dev_model.specs.Disk.{Disk, Image, IsCrashImage}
use Rattle.journal_writer.specs.Changes.{LeadTo}
use Rattle.journal_writer.specs.Queues.{waiting}
use Rattle.image_view.specs.Found.{Found, found}
use Rattle.image_view.specs.UpdatedTrees.{IsOfLeaf}
use Rattle.crash_safety.specs.Flushes.{AreFlushed}
use Rattle.crash_safety.specs.Safety.{IsJournalSafe, MeansOnEach}
use Rattle.crash_safety.specs.Writings.{Writing, after}
use Rattle.image_reader.specs.Volumes.{no_entry}
use Rattle.vol_types.specs.KeyMaps.{key_map, with_updates}
use Rattle.vol_types.specs.declared.pointers.NodePtr.{NodePtr}
use Rattle.replay.specs.Mending.{IsReady, IsUntorn, StandsOnAll}
use Rattle.vol_core.specs.VolumeLeaves.{leaves_in}
use Rattle.vol_core.specs.Entries.{AreBelowRoots, AreInLeaves, AreStarts, FliesAs, IsKnown, entries_with}

-- what is found where there is nothing
abbrev pub nothing_found : Found
nothing_found = record {
  layout = record { id = []; blocks = []; journal = 0; metadata_replicas = 0; data_replicas = 0 };
  session = 0;
  last = no_entry;
  needed = [];
  trees = record { keys = key_map (λ _. []); nodes = []; ends = [] };
}

-- The second of two bases is what the next entry leads to: it has no fewer commits than the first one, and its keys, with the entry's updates,
-- which are of keys in leaves; and the roots that the entry names are leaves.
pub record IsLed (one other : Found) : Type 0 where
  pub w : Writing
  pub is : other ≡ after w one
  pub sequence : w.next.entry.sequence ≡ one.last.entry.sequence + 1
  pub commits : one.last.entry.commits ≤ w.next.entry.commits
  pub roots : All (λ (root : NodePtr). root.level ≡ 0) w.next.entry.roots
  pub leaves : All IsOfLeaf w.next.entry.updates
  pub keys : w.trees.keys ≡ with_updates w.next.entry.updates one.trees.keys

-- An entry leads from each of these bases to the one behind it.
abbrev pub AreLed : List Found → Type 0
AreLed [] = ⊤
AreLed (one ∷ []) = ⊤
AreLed (one ∷ other ∷ bases) = IsLed one other × AreLed (other ∷ bases)

-- None of the moments is after this one.
abbrev pub AreUpTo : ℕ → List ℕ → Type 0
AreUpTo moment moments = (k m : ℕ) → slice_get moments k ≡ Some m → m ≤ moment

-- The session began with what was found then, when the devices showed this. The bases are what was found, and what each entry that was put
-- in flight since led to. Of the last durable one is known what is in memory: its numbers, where its needed entries begin, and its
-- keys, from which the changes that aren't durable lead to those in memory. Each btree is one leaf: what is kept of leaves holds of the roots in memory,
-- and of the leaves that are frozen. No device is held for flushed to which something was written since.
pub record IsCoreSafe (begun : Found) (start state : DevicesState) (volume : Volume) : Type 0 where
  pub f : Found
  pub image : Image
  pub writing : Option Writing
  pub asked : ℕ
  pub written : ℕ
  pub bases : List Found
  pub durable : List ℕ
  pub safe : IsJournalSafe f image writing asked written bases durable start.moment state
  pub begins : slice_get bases 0 ≡ Some begun
  pub chain : AreLed bases
  pub past : AreUpTo state.moment durable
  pub flushed : AreFlushed volume.layout.metadata_replicas volume.writer.unsettled (now state)
  pub flags : volume.layout.metadata_replicas ≤ length volume.writer.unsettled
  pub known : IsKnown f volume
  pub starts : AreStarts volume.writer.starts (entries_with writing f.needed)
  pub first : volume.writer.ring.first ≤ (slice_index_or f.needed 0 f.last).number
  pub lead : LeadTo (changes_in volume.writer.flight ++ waiting volume.queue) f.trees.keys (keys_in volume.trees)
  pub leaves : AreInLeaves (waiting volume.queue)
  pub one : HaveOneNode volume.trees.nodes
  pub kept : KeepsLeaves f writing state (leaves_in volume)
  pub flying : FliesAs f volume.writer.flight writing asked written volume

-- The session may begin with what was found on these disks: it is in order, the journal is mended, and none of it is of this session; each
-- btree is one leaf, and no update of its needed entries is above the root that the newest one names.
pub record MayBegin (begun : Found) (disks : List Disk) : Type 0 where
  pub ready : IsReady begun disks
  pub roots : All (λ (root : NodePtr). root.level ≡ 0) begun.last.entry.roots
  pub updates : AreBelowRoots begun

-- Where the devices tell what they hold, and the session may begin so, the volume is safe on them.
abbrev pub KeepsSafe : Type 0 → Found → DevicesState → DevicesState → Volume → Type 0
KeepsSafe tells begun start state volume = tells → MayBegin begun (now start) → IsCoreSafe begun start state volume

-- What a crash leaves: at each moment since the session began it means one of the bases, the first of which is what was found then, and none
-- before those that were durable by that moment, where no torn block of the journal areas opens by chance; and so does what is left of it on each
-- metadata device alone. An entry led from each base to the
-- next one. The last durable one, which was durable by now, has the sequence and as many commits as are told to be durable, and from its keys the
-- changes that aren't durable lead to those in memory; and whatever a crash leaves now, each entry that it needs stands whole on every metadata
-- device.
pub record Survives (begun : Found) (start state : DevicesState) (volume : Volume) : Type 0 where
  pub bases : List Found
  pub durable : List ℕ
  pub begins : slice_get bases 0 ≡ Some begun
  pub chain : AreLed bases
  pub each : (moment : ℕ) → start.moment ≤ moment → moment ≤ state.moment → (image : Image) → IsCrashImage (state.disks moment) image → IsUntorn volume.layout start.moment moment state image → MeansOnEach volume.layout bases durable moment image
  pub past : AreUpTo state.moment durable
  pub last : Found
  pub last_is : slice_get bases (length durable) ≡ Some last
  pub sequence : last.last.entry.sequence ≡ volume.writer.durable.sequence
  pub commits : last.last.entry.commits ≡ volume.writer.durable.commits
  pub lead : LeadTo (changes_in volume.writer.flight ++ waiting volume.queue) last.trees.keys (keys_in volume.trees)
  pub whole : (image : Image) → IsCrashImage (now state) image → (index : ℕ) → index < length last.needed → StandsOnAll volume.layout image (slice_index_or last.needed index last.last)

-- Whatever a crash leaves at a moment of an event means what an entry led to that is no earlier than the last one that was durable when the event
-- began, and has no fewer commits, where no torn block of the journal areas opens by chance.
abbrev pub KeepsDurable : DevicesState → DevicesState → DevicesState → Volume → Type 0
KeepsDurable start old new volume =
    (moment : ℕ) → old.moment ≤ moment → moment ≤ new.moment → (image : Image) → IsCrashImage (new.disks moment) image → IsUntorn volume.layout start.moment moment new image
    → (base : Found) × (found image ≡ Ok base) × (volume.writer.durable.commits ≤ base.last.entry.commits) × (volume.writer.durable.sequence ≤ base.last.entry.sequence)
