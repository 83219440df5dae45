-- A volume at rest after a checkpoint: no node is dirty, no older entry is needed, and the ring has room for any commit that may be intended. And what
-- every event keeps of the ring, from which that follows: it is said of what is in memory alone, where what was loaded is as this program leaves it.
use Rattle.std.specs.Prelude.{◌≡◌, ℕ, ◌+◌, ◌-◌, ◌≤◌, ◌==◌, if◌then◌else◌, ⊤, true, All, Option, Some, None, List, [], ◌∷◌, length, slice_index_or}
use Rattle.std.specs.Ordering.{nat_cmp}
use Rattle.birth_index.specs.Exchanges.{HaveOneNode}
use Rattle.core_volume.specs.Commits.{AreIntended}
use Rattle.core_volume.specs.Rulings.{IsFull}
use Rattle.core_volume.specs.Sealing.{oldest_needed}
use Rattle.core_volume.specs.Volumes.{Volume, is_idle, last_sealed, node_stage_of, stage_of}
use Rattle.journal_writer.specs.Queues.{Queue, first_of, last_of, oldest}
use Rattle.journal_writer.specs.declared.changes.Pending.{Pending}
use Rattle.journal_writer.specs.Writers.{first_of as first_start}
use Rattle.journal_writer.specs.declared.stage.Stage.TheVariants.{Rest}
use Rattle.journal_writer.specs.declared.writer.Flight.{Flight}
use Rattle.image_view.specs.Found.{Found}
use Rattle.node_writeback.specs.Due.{root_in}
use Rattle.node_writeback.specs.NodeWork.{frozen_nodes}
use Rattle.node_writeback.specs.declared.node.FrozenNode.{FrozenNode}
use Rattle.tree_nodes.specs.Levels.{Levels}
use Rattle.vol_types.specs.Maps.{IsMap, value_at}
use Rattle.vol_types.specs.declared.keys.Update.{Update}
use Rattle.vol_types.specs.declared.positions.Btree.{Btree}

-- Nothing is left to be done, neither for the journal nor for the nodes.
pub record IsRested (volume : Volume) : Type 0 where
  pub journal : stage_of volume ≡ Rest
  pub nodes : node_stage_of volume ≡ Rest

-- The ring is free: no node is dirty, neither the last durable entry nor the next one needs an older one, a further checkpoint would free no bucket, and the journal has room for
-- each commit that may be intended.
pub record HasRoomAfterCheckpoint (volume : Volume) : Type 0 where
  pub clean : volume.pins ≡ []
  pub durable : volume.writer.durable.sequence ≤ volume.writer.durable.oldest
  pub next : oldest_needed volume ≡ (oldest volume.queue).after + 1
  pub idle : is_idle volume ≡ true
  pub room : (updates : List Update) → AreIntended volume.layout.metadata_replicas updates → ¬ IsFull volume updates

-- the sequence of the newest entry that may have updates: the open one where it has some, and else the one before it
abbrev pub newest_changed : Queue → ℕ
newest_changed queue = if length queue.open_entry.changes.updates == 0 then queue.open_entry.after else queue.open_entry.after + 1

-- No node is noted with an entry newer than the one of this sequence.
abbrev pub ArePinnedTo : ℕ → List (ℕ × ℕ) → Type 0
ArePinnedTo newest numbers = (birth number : ℕ) → value_at nat_cmp birth numbers ≡ Some number → number ≤ newest

-- Each pinned node is the root of a btree.
abbrev pub ArePinnedRoots : List Levels → List (ℕ × ℕ) → Type 0
ArePinnedRoots nodes pins = (birth number : ℕ) → value_at nat_cmp birth pins ≡ Some number → (btree : Btree) × ((root_in nodes btree).birth ≡ birth)

-- The second entry has the sequence and the blocks behind those of the first one, and no fewer commits.
pub record IsNextTo (mirrors : ℕ) (first second : Pending) : Type 0 where
  pub sequence : second.after ≡ first.after + 1
  pub blocks : second.behind ≡ last_of mirrors first
  pub commits : first.commits ≤ second.commits

-- Each of the closed entries is next to the one before it, and the open one to the last of them.
abbrev pub AreInARow : ℕ → List Pending → Pending → Type 0
AreInARow mirrors [] open_entry = ⊤
AreInARow mirrors (entry ∷ later) open_entry = IsNextTo mirrors entry (first_of later open_entry) × AreInARow mirrors later open_entry

-- the last of some numbers
abbrev pub last_start : List ℕ → ℕ
last_start starts = slice_index_or starts (length starts - 1) 0

-- The entry in flight, if one is, has no fewer commits than are durable, and the next one has no fewer than that.
abbrev pub DoCommitsRise : Option Flight → ℕ → ℕ → Type 0
DoCommitsRise None durable next = durable ≤ next
DoCommitsRise (Some flight) durable next = (durable ≤ flight.entry.commits) × (flight.entry.commits ≤ next)

-- The root of each btree lies on so many places.
abbrev pub LieOnMirrors : ℕ → List Levels → Type 0
LieOnMirrors mirrors nodes = (btree : Btree) → length (root_in nodes btree).places ≡ mirrors

-- The frozen node is to lie on so many places.
abbrev pub IsOnMirrors : ℕ → FrozenNode → Type 0
IsOnMirrors mirrors node = length node.fresh.places ≡ mirrors

-- The ring may be kept of what was found: each btree is one leaf, which lies on as many places as there are metadata devices, as this program leaves
-- them; and, as in all that is found, the newest entry takes at most 64 blocks, and there are as many needed ones as it needs.
pub record MayKeepRing (f : Found) : Type 0 where
  pub one : HaveOneNode f.trees.nodes
  pub mirrored : LieOnMirrors f.layout.metadata_replicas f.trees.nodes
  pub oldest : f.last.entry.oldest ≤ f.last.entry.sequence
  pub count : f.last.entry.oldest + length f.needed ≡ f.last.entry.sequence + 1
  pub few : f.last.end ≤ f.last.number + 64

-- What is kept of the ring: each btree is one leaf on every metadata device; only roots are pinned, and nothing is noted of an entry that has no
-- updates; the entries that wait are in a row, and their blocks begin no later than the next one of the ring; none has fewer commits than are durable; there
-- is a start for each entry that the last durable one needs, and for the one in flight; and the newest entry in the ring, which begins at the last of the
-- starts, takes at most 64 blocks.
pub record KeepsRing (volume : Volume) : Type 0 where
  pub one : HaveOneNode volume.trees.nodes
  pub mirrored : LieOnMirrors volume.layout.metadata_replicas volume.trees.nodes
  pub fresh : All (IsOnMirrors volume.layout.metadata_replicas) (frozen_nodes volume.work)
  pub rises : IsMap nat_cmp volume.pins
  pub later_rises : IsMap nat_cmp volume.later
  pub nodes : ArePinnedRoots volume.trees.nodes volume.pins
  pub pins : ArePinnedTo (newest_changed volume.queue) volume.pins
  pub later : ArePinnedTo (newest_changed volume.queue) volume.later
  pub row : AreInARow volume.queue.mirrors volume.queue.closed volume.queue.open_entry
  pub behind : (oldest volume.queue).behind ≤ volume.writer.ring.next
  pub commits : DoCommitsRise volume.writer.flight volume.writer.durable.commits (oldest volume.queue).commits
  pub first : volume.writer.durable.first ≡ first_start volume.writer.starts
  pub needs : volume.writer.durable.oldest ≤ volume.writer.durable.sequence
  pub count : volume.writer.durable.oldest + length volume.writer.starts ≡ last_sealed volume.writer.flight volume.writer.durable.sequence + 1
  pub few : volume.writer.ring.next ≤ last_start volume.writer.starts + 64

-- Where the ring may be kept of what was found, it is.
abbrev pub KeepsRingIf : Found → Volume → Type 0
KeepsRingIf begun volume = MayKeepRing begun → KeepsRing volume
