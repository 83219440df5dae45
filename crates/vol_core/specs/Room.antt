-- Room in the ring of the journal: how much of it what was found leaves free, and what every event keeps of that, so that the next entry finds room.
use Rattle.std.specs.Prelude.{◌≡◌, ◌⊎◌, ℕ, ◌+◌, ◌<◌, ◌≤◌, ◌==◌, ◌||◌, not, ⊤, Bool, true, Some, None, List, [], ◌∷◌, All, length, slice_index_or}
use Rattle.std.specs.Ordering.{nat_cmp}
use Rattle.core_volume.specs.Rulings.{kept_blocks}
use Rattle.core_volume.specs.Sealing.{next_record}
use Rattle.core_volume.specs.Volumes.{Volume, commits_of}
use Rattle.dev_model.specs.Devices.{DevicesState, now}
use Rattle.journal_writer.specs.Queues.{last_block, oldest}
use Rattle.journal_writer.specs.Writers.{HasRoom, settled}
use Rattle.journal_writer.specs.declared.durable.Durable.{Durable}
use Rattle.image_view.specs.Found.{FollowOn, Found}
use Rattle.journal_ring.specs.EntryBlocks.{parts_of}
use Rattle.journal_ring.specs.declared.found.FoundEntry.{FoundEntry}
use Rattle.node_writeback.specs.NodeWork.{frozen_nodes}
use Rattle.node_writeback.specs.declared.node.FrozenNode.{FrozenNode}
use Rattle.vol_types.specs.Maps.{value_at}
use Rattle.vol_core.specs.Rested.{MayKeepRing}
use Rattle.vol_core.specs.Safety.{MayBegin}

-- From the first of the needed entries to the end of the newest one, what was found leaves as many blocks of the journal free as a commit leaves for the entries of
-- a checkpoint.
abbrev pub LeavesRoom : Found → Type 0
LeavesRoom f = f.last.end + kept_blocks ≤ (slice_index_or f.needed 0 f.last).number + f.layout.journal

-- The entry has a block at least.
abbrev pub HasBlocks : FoundEntry → Type 0
HasBlocks entry = entry.number < entry.end

-- The room in the ring may be kept of what was found: the ring may be, the needed entries follow on one another, each of which has blocks, and they leave room.
pub record MayKeepRoom (f : Found) : Type 0 where
  pub ring : MayKeepRing f
  pub follow : FollowOn f.needed
  pub blocks : All HasBlocks f.needed
  pub leaves : LeavesRoom f

-- Where no entry is in flight, the ring has room for the next one.
abbrev pub HasRoomForNext : Volume → Type 0
HasRoomForNext volume = volume.writer.flight ≡ None → HasRoom volume.writer.ring (parts_of (next_record volume))

-- Each of the numbers is below the one after it, and the last of them below this bound.
abbrev pub AreRising : ℕ → List ℕ → Type 0
AreRising bound [] = ⊤
AreRising bound (number ∷ []) = number < bound
AreRising bound (number ∷ next ∷ numbers) = (number < next) × AreRising bound (next ∷ numbers)

-- whether updates or commits wait for an entry that isn't in flight yet
abbrev pub is_waiting : Volume → Bool
is_waiting volume =
    not (length volume.queue.closed == 0)
    || not (length volume.queue.open_entry.changes.updates == 0)
    || not (commits_of volume == (settled volume.writer).durable.commits)

-- What the node pins is durable, and what is noted of it as changed since it was frozen is newer.
abbrev pub IsNotedAfter : ℕ → (pins later : List (ℕ × ℕ)) → FrozenNode → Type 0
IsNotedAfter durable pins later node = (pin : ℕ) → value_at nat_cmp node.birth pins ≡ Some pin → (pin ≤ durable) × ((number : ℕ) → value_at nat_cmp node.birth later ≡ Some number → pin < number)

-- The entry needs no older one, or one that no node pins any more.
abbrev pub LetsGo : Durable → List (ℕ × ℕ) → Type 0
LetsGo durable pins = (durable.sequence ≤ durable.oldest) ⊎ ((birth number : ℕ) → value_at nat_cmp birth pins ≡ Some number → durable.oldest < number)

-- What is kept of the room: all that waits leaves as many blocks free as a commit does (`waiting`), and so does the newest entry in the ring once it is durable (`landed`), for
-- which one more block is in use as long as it isn't (`flying`). An entry without updates or commits of its own is written only where it lets an older one go (`let_go`), so that
-- the ring grows by commits alone.
pub record KeepsRoom (volume : Volume) : Type 0 where
  pub emptied : volume.emptied ≤ volume.queue.open_entry.after + 1
  pub first : volume.writer.ring.first ≡ volume.writer.durable.first
  pub next : volume.writer.ring.next ≤ (oldest volume.queue).behind + 1
  pub rising : AreRising volume.writer.ring.next volume.writer.starts
  pub waiting : is_waiting volume ≡ true → last_block volume.queue + 1 + kept_blocks ≤ volume.writer.durable.first + volume.layout.journal
  pub flying : volume.writer.ring.next + kept_blocks ≤ volume.writer.durable.first + volume.layout.journal + 1
  pub landed : volume.writer.ring.next + kept_blocks ≤ (settled volume.writer).durable.first + volume.layout.journal
  pub noted : All (IsNotedAfter volume.writer.durable.sequence volume.pins volume.later) (frozen_nodes volume.work)
  pub let_go : volume.queue.closed ≡ [] → length volume.queue.open_entry.changes.updates ≡ 0 → volume.queue.open_entry.after < volume.emptied → LetsGo (settled volume.writer).durable volume.pins

-- Where the room may be kept of what was found, it is.
abbrev pub KeepsRoomIf : Found → Volume → Type 0
KeepsRoomIf begun volume = MayKeepRoom begun → KeepsRoom volume

-- Where the devices tell what they hold, and the session may begin so, the ring may be kept of what was found, and where that left room, the room in it.
pub record MayKeepIf (tells : Type 0) (begun : Found) (start : DevicesState) : Type 0 where
  pub ring : tells → MayBegin begun (now start) → MayKeepRing begun
  pub room : tells → MayBegin begun (now start) → LeavesRoom begun → MayKeepRoom begun
