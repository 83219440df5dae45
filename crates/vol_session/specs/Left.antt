-- How much is left to be done until the journal and the nodes rest: a number that each event of a work brings down.
use Rattle.std.specs.Prelude.{ℕ, ◌+◌, ◌-◌, ◌*◌, ◌||◌, ◌==◌, Bool, not, Option, Some, None, List, length}
use Rattle.std.specs.List.{count_by}
use Rattle.core_volume.specs.Volumes.{Volume, can_let_go, commits_of}
use Rattle.journal_writer.specs.Queues.{count_of}
use Rattle.journal_writer.specs.declared.durable.Durable.{Durable}
use Rattle.journal_writer.specs.declared.writer.Flight.{Flight}
use Rattle.journal_ring.specs.Rings.{RingState}
use Rattle.node_writeback.specs.Placing.{moved_pins}
use Rattle.node_writeback.specs.NodeWork.{frozen_nodes}
use Rattle.node_writeback.specs.declared.node.UnfinishedNode.{UnfinishedNode}
use Rattle.vol_types.specs.Limits.{bucket_blocks}

-- the entry that was put in flight last: the one in flight, or the last durable one
abbrev pub newest : Option Flight → Durable → Durable
newest None durable = durable
newest (Some flight) durable = record { sequence = flight.entry.after + 1; commits = flight.entry.commits; oldest = flight.oldest; first = durable.first }

-- whether an entry is to be put in flight for what waits, or since the newest one needs an older one that nothing pins
abbrev pub owes_entry : Durable → Volume → Bool
owes_entry newest volume =
    not (length volume.queue.closed == 0)
    || not (length volume.queue.open_entry.changes.updates == 0)
    || not (commits_of volume == newest.commits)
    || can_let_go newest volume.pins

-- how many entries are to be put in flight, at most: the closed ones, those that emptied buckets wait for, and one more
abbrev pub entries_left : Volume → ℕ
entries_left volume = length volume.queue.closed + (volume.emptied - volume.queue.open_entry.after) + count_of (owes_entry (newest volume.writer.flight volume.writer.durable) volume)

-- how many steps an entry in flight takes beside flushes: one for each part that isn't written, and one to settle it
abbrev pub parts_left : Option Flight → RingState → ℕ
parts_left None ring = 0
parts_left (Some flight) ring = length ring.blocks - ring.written + 1

-- how many devices are to be flushed
abbrev pub flags_left : List Bool → ℕ
flags_left flags = count_by (λ (flag : Bool). flag) flags

-- how many blocks are left of a node that isn't finished
abbrev pub blocks_left : Option UnfinishedNode → ℕ
blocks_left None = 0
blocks_left (Some unfinished) = bucket_blocks - unfinished.written

-- how many nodes are dirty once the frozen ones are in place
abbrev pub dirty_left : Volume → ℕ
dirty_left volume = length (moved_pins (frozen_nodes volume.work) volume.later volume.pins)

-- how many steps the nodes take beside flushes, at most: each that is dirty is frozen, and its blocks are written, and those that are frozen are put in place
abbrev pub nodes_left : Volume → ℕ
nodes_left volume = dirty_left volume * (bucket_blocks + 2) + blocks_left volume.work.unfinished + count_of (not (length (frozen_nodes volume.work) == 0))

-- so many steps of each kind as one number: a step of the nodes leads to two entries at most, an entry takes up to 65 steps, and after each there are up to eight devices to flush
abbrev pub weighed : (nodes entries parts flags : ℕ) → ℕ
weighed nodes entries parts flags = ((3 * nodes + entries) * 66 + parts) * 9 + flags

-- how much is left
abbrev pub works_left : Volume → ℕ
works_left volume = weighed (nodes_left volume) (entries_left volume) (parts_left volume.writer.flight volume.writer.ring) (flags_left volume.writer.unsettled)
