-- How far the numbers are that a session draws: of entries, of blocks of the journal, of births and of changes. None of them rises faster than the commits of the
-- session and the moments that pass. And when all are left that may be drawn next.
use Rattle.std.specs.Prelude.{◌≡◌, ℕ, ◌+◌, ◌-◌, ◌*◌, ◌^◌, ◌<◌, ◌≤◌, ◌||◌, ◌==◌, false, true, if◌then◌else◌, Option, Some, None, List, length, slice_index_or}
use Rattle.birth_index.specs.Births.{birth_of}
use Rattle.birth_index.specs.declared.name.NodeName.{NodeName}
use Rattle.core_volume.specs.Checkpoints.{HasPlacingNumbers}
use Rattle.core_volume.specs.Commits.{AreIntended}
use Rattle.core_volume.specs.Rulings.{HasCommitNumbers}
use Rattle.core_volume.specs.Sealing.{HasEntryNumbers, next_record}
use Rattle.core_volume.specs.Volumes.{Volume}
use Rattle.dev_model.specs.Devices.{DevicesState}
use Rattle.journal_writer.specs.Queues.{oldest}
use Rattle.journal_writer.specs.Writers.{HasBlockNumbers, Writer}
use Rattle.journal_writer.specs.declared.writer.Flight.{Flight}
use Rattle.image_view.specs.Found.{Found}
use Rattle.journal_ring.specs.EntryBlocks.{parts_of}
use Rattle.node_writeback.specs.Freezing.{HasBirth, next_birth}
use Rattle.node_writeback.specs.NodeWork.{frozen_nodes}
use Rattle.node_writeback.specs.declared.node.UnfinishedNode.{UnfinishedNode}
use Rattle.tree_nodes.specs.Levels.{Levels}
use Rattle.vol_types.specs.declared.keys.Update.{Update}
use Rattle.vol_session.specs.Marks.{commits_found}

-- Each node was born before the one with this birth.
abbrev pub AreBornBefore : List Levels → ℕ → Type 0
AreBornBefore nodes bound = (name : NodeName) (birth : ℕ) → birth_of nodes name ≡ Some birth → birth < bound

-- What was found is far from the end of each number, and each of its nodes was born in a session before its own; and since the session began there were fewer than 2^31
-- moments, all of which could be counted.
pub record IsFarFromSpent (begun : Found) (start state : DevicesState) : Type 0 where
  pub sequence : begun.last.entry.sequence < 2 ^ 63
  pub blocks : begun.last.end < 2 ^ 63
  pub all_commits : commits_found begun < 2 ^ 63
  pub session : begun.session < 2 ^ 32
  pub births : AreBornBefore begun.trees.nodes (next_birth begun.session 0)
  pub short : state.moment < start.moment + 2 ^ 31
  pub counted : state.moment + 1 < 2 ^ 64

-- Each number is left that a volume may draw next: for a commit of updates that may be intended, for the next entry and its blocks, and for nodes that are frozen and put in place.
pub record HasNumbersLeft (volume : Volume) : Type 0 where
  pub commit : (updates : List Update) → AreIntended volume.layout.metadata_replicas updates → HasCommitNumbers volume updates true
  pub entry : HasEntryNumbers volume
  pub blocks : HasBlockNumbers volume.writer.ring (parts_of (next_record volume))
  pub birth : HasBirth volume.session volume.work.born volume.trees.nodes
  pub placing : HasPlacingNumbers volume

-- 1 where an entry is in flight, and before it is durable the first metadata device is still to be flushed; else 0
abbrev pub flush_owed : Option Flight → Writer → ℕ
flush_owed None writer = 0
flush_owed (Some flight) writer = if (writer.ring.written == 0) || slice_index_or writer.unsettled 0 false then 1 else 0

-- 1 where a node is frozen of which no block is written; else 0
abbrev pub write_owed : Option UnfinishedNode → ℕ
write_owed None = 0
write_owed (Some unfinished) = if unfinished.written == 0 then 1 else 0

-- How far the numbers are after so many commits and moments. An entry is closed by a commit, or one has to be flushed before the next; it takes at most 64 blocks. A node is born, and
-- one of its blocks has to be written before the next; and nodes were frozen for each time that nodes are put in place.
pub record AreNumbersLow (begun : Found) (commits time : ℕ) (volume : Volume) : Type 0 where
  pub session : volume.session ≡ begun.session
  pub sequence : volume.queue.open_entry.after ≤ begun.last.entry.sequence + commits + time + flush_owed volume.writer.flight volume.writer
  pub blocks : volume.queue.open_entry.behind + 64 * begun.last.entry.sequence ≤ begun.last.end + 64 * volume.queue.open_entry.after
  pub ring : volume.writer.ring.next + 64 * begun.last.entry.sequence ≤ begun.last.end + 64 * (oldest volume.queue).after
  pub births : volume.work.born ≤ time + write_owed volume.work.unfinished
  pub changes : volume.changes + length (frozen_nodes volume.work) ≤ commits + volume.work.born
  pub nodes : AreBornBefore begun.trees.nodes (next_birth begun.session 0) → AreBornBefore volume.trees.nodes (next_birth volume.session volume.work.born)

-- So far they are as long as moments are counted.
abbrev pub AreNumbersCounted : Found → DevicesState → DevicesState → ℕ → Volume → Type 0
AreNumbersCounted begun start state commits volume = state.moment + 1 < 2 ^ 64 → AreNumbersLow begun commits (state.moment - start.moment) volume
