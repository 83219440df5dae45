-- Entries become durable: which one is put in flight and with what, and what the events that write it make of a volume.
use Rattle.std.specs.Prelude.{◌≡◌, ◌≢◌, ℕ, ◌+◌, ◌-◌, ◌⊎◌, false, None, Some, List, [], map}
use Rattle.bucket_pool.specs.Space.{settled_space}
use Rattle.journal_writer.specs.Queues.{HasNumbers, oldest, record_of, without_oldest}
use Rattle.journal_writer.specs.Writers.{HasBlockNumbers, HasRoom, IsSealed, Writer, settled}
use Rattle.journal_writer.specs.declared.stage.Stage.{Stage}
use Rattle.journal_writer.specs.declared.stage.Stage.TheVariants as stages
use Rattle.journal_ring.specs.EntryBlocks.{parts_of}
use Rattle.journal_ring.specs.Rings.{used}
use Rattle.pin_list.specs.Pins.{least_pin, smaller}
use Rattle.record_codec.specs.declared.entries.EntryRecord.{EntryRecord}
use Rattle.node_writeback.specs.Due.{root_of}
use Rattle.tree_nodes.specs.Levels.{Levels}
use Rattle.vol_types.specs.declared.pointers.NodePtr.{NodePtr}
use Rattle.core_volume.specs.Volumes.{Volume, stage_of}
use Rattle.core_actors.specs.declared.answer.Refusal.{Refusal}
use Rattle.core_actors.specs.declared.answer.Refusal.TheVariants as refusals

-- the root of each btree
abbrev pub roots_in : List Levels → List NodePtr
roots_in nodes = map root_of nodes

-- the sequence of the oldest entry that the next one needs: the least that a dirty node pins, or its own where none before it is pinned
abbrev pub oldest_needed : Volume → ℕ
oldest_needed volume = smaller ((oldest volume.queue).after + 1) (least_pin volume.pins)

-- the next entry as it is written
abbrev pub next_record : Volume → EntryRecord
next_record volume = record_of (oldest_needed volume) volume.session (roots_in volume.trees.nodes) (oldest volume.queue)

-- The session writes, and this is the stage of the journal.
pub record IsStage (stage : Stage) (volume : Volume) : Type 0 where
  pub writes : volume.halted ≡ None
  pub stage_is : stage_of volume ≡ stage

-- The session writes, and this isn't the stage of the journal.
pub record IsOtherStage (stage : Stage) (volume : Volume) : Type 0 where
  pub writes : volume.halted ≡ None
  pub other : stage_of volume ≢ stage

-- The numbers are left of the entry that is open next, where the open one is closed.
abbrev pub HasEntryNumbers : Volume → Type 0
HasEntryNumbers volume = volume.queue.closed ≡ [] → HasNumbers [] false volume.queue

-- The oldest entry that isn't durable is in flight, and nothing else has changed.
pub record IsFlown (old new : Volume) : Type 0 where
  pub stage : IsStage stages.Seal old
  pub numbers : HasEntryNumbers old
  pub sealed : IsSealed (oldest old.queue) (oldest_needed old) old.session (roots_in old.trees.nodes) old.writer new.writer
  pub rest : new ≡ record old { queue = without_oldest old.queue; writer = new.writer }

-- Why the next entry isn't put in flight: the session has stopped writing, a number isn't left, or the ring has no room for it.
abbrev pub IsSealRefused : Volume → Refusal → Type 0
IsSealRefused volume (refusals.Halted halt) = volume.halted ≡ Some halt
IsSealRefused volume refusals.Spent = IsStage stages.Seal volume × ((¬ HasEntryNumbers volume) ⊎ (¬ HasBlockNumbers volume.writer.ring (parts_of (next_record volume))))
IsSealRefused volume (refusals.RingFull full) =
    IsStage stages.Seal volume × HasEntryNumbers volume × HasBlockNumbers volume.writer.ring (parts_of (next_record volume))
    × (¬ HasRoom volume.writer.ring (parts_of (next_record volume)))
    × (full ≡ record { left = volume.writer.ring.journal - used volume.writer.ring; need = parts_of (next_record volume) })
IsSealRefused volume other = ⊥

-- a volume with another writer
abbrev pub with_writer : Writer → Volume → Volume
with_writer writer volume = record volume { writer = writer }

-- a volume whose entry in flight is the last durable one, so that the buckets are free that waited for it
abbrev pub settled_volume : Volume → Volume
settled_volume volume = record (with_writer (settled volume.writer) volume) { space = settled_space (settled volume.writer).durable.sequence volume.space }
