-- Nodes are written anew: which events do that, when each is refused, and what they make of a volume.
use Rattle.std.specs.Prelude.{◌≡◌, ◌≢◌, ℕ, ◌+◌, ◌<◌, ◌≤◌, ◌^◌, ⊤, false, true, Option, Some, None, List, []}
use Rattle.std.specs.Ordering.{nat_cmp}
use Rattle.birth_index.specs.Exchanges.{AreBefore}
use Rattle.birth_index.specs.declared.name.Exchange.{Exchange}
use Rattle.btree_map.specs.Trees.{with_exchanged}
use Rattle.bucket_pool.specs.Space.{emptied_all, have_free, noded, settled_space}
use Rattle.journal_writer.specs.Queues.{first_with}
use Rattle.journal_writer.specs.Writers.{unsettled_by}
use Rattle.journal_writer.specs.declared.stage.Stage.{Stage}
use Rattle.journal_writer.specs.declared.stage.Stage.TheVariants as stages
use Rattle.node_mem.specs.Nodes.{size_of}
use Rattle.node_writeback.specs.Due.{leaf_due}
use Rattle.node_writeback.specs.Durable.{durable_entries}
use Rattle.node_writeback.specs.Freezing.{HasBirth, IsTooLarge, fresh_leaf, leaf_set, next_birth}
use Rattle.node_writeback.specs.Placing.{exchanges_of, fresh_places, moved_pins, places_of}
use Rattle.node_writeback.specs.NodeWork.{IsFrozen, no_work, with_part}
use Rattle.vol_types.specs.KeyMaps.{Entries}
use Rattle.vol_types.specs.Limits.{node_limit}
use Rattle.vol_types.specs.Maps.{put_at}
use Rattle.vol_types.specs.declared.positions.Btree.{Btree}
use Rattle.core_volume.specs.Rulings.{no_space}
use Rattle.core_volume.specs.Volumes.{Volume, in_flight, is_exhausted, node_stage_of, undurable_in}
use Rattle.core_actors.specs.declared.answer.Refusal.{Refusal}
use Rattle.core_actors.specs.declared.answer.Refusal.TheVariants as refusals
use Rattle.core_volume.specs.declared.commit.VolumeFault.{VolumeFault}
use Rattle.core_volume.specs.declared.commit.VolumeFault.TheVariants as volume_faults

-- The session writes, and this is the stage of the nodes.
pub record IsNodeStage (stage : Stage) (volume : Volume) : Type 0 where
  pub writes : volume.halted ≡ None
  pub stage_is : node_stage_of volume ≡ stage

-- The session writes, and this isn't the stage of the nodes.
pub record IsOtherNodeStage (stage : Stage) (volume : Volume) : Type 0 where
  pub writes : volume.halted ≡ None
  pub other : node_stage_of volume ≢ stage

-- the btree whose leaf is to be frozen next, if there is one
abbrev pub due_in : Volume → Option Btree
due_in volume = leaf_due volume.writer.durable.sequence volume.trees.nodes volume.pins volume.work.finished

-- what a btree has by durable entries alone
abbrev pub durable_in : Volume → Btree → Entries
durable_in volume btree = durable_entries (in_flight volume.writer.flight) volume.queue volume.trees btree

-- The leaf of this birth is frozen: it is the only one of its btree, and what the btree has by durable entries alone is what is written of it, into
-- the first free bucket of each metadata device, under the next birth of the session, with the sequence of the last durable entry. Nothing else has changed, but that the first entry
-- that isn't durable and changes it is noted.
pub record IsLeafFrozen (node : ℕ) (old new : Volume) : Type 0 where
  pub stage : IsNodeStage (stages.Freeze node) old
  pub btree : Btree
  pub due : due_in old ≡ Some btree
  pub birth : HasBirth old.session old.work.born old.trees.nodes
  pub fits : size_of (durable_in old btree) ≤ node_limit
  pub free : have_free old.layout.metadata_replicas old.space ≡ true
  pub frozen : IsFrozen old.layout.id old.writer.durable.sequence node (fresh_leaf old.session old.work.born old.layout.metadata_replicas old.space) (leaf_set (next_birth old.session old.work.born) btree (durable_in old btree)) old.work new.work
  pub rest : new ≡ record old {
    later = put_at nat_cmp node (first_with btree (undurable_in old)) old.later;
    space = noded old.layout.metadata_replicas old.space;
    work = new.work;
  }

-- a volume in which the work on nodes is given up: the buckets of frozen nodes are free again
abbrev pub given_up : Volume → Volume
given_up volume =
    let durable = volume.writer.durable.sequence in
    record volume { later = []; space = settled_space durable (emptied_all (fresh_places volume.work.finished) durable volume.space); work = no_work volume.work.born }

-- Why the leaf of this birth isn't frozen: the session has stopped writing; or, where it is to be, no birth is left in the session or a node has the
-- next one, it is too large, or a metadata device has no free bucket.
abbrev pub IsFreezeRefused : ℕ → Volume → Refusal → Type 0
IsFreezeRefused node volume (refusals.Halted halt) = volume.halted ≡ Some halt
IsFreezeRefused node volume refusals.Spent = IsNodeStage (stages.Freeze node) volume × (¬ HasBirth volume.session volume.work.born volume.trees.nodes)
IsFreezeRefused node volume (refusals.NeedSplit need) =
    IsNodeStage (stages.Freeze node) volume × HasBirth volume.session volume.work.born volume.trees.nodes × (btree : Btree) × (due_in volume ≡ Some btree) × IsTooLarge node (durable_in volume btree) need
IsFreezeRefused node volume (refusals.NoSpace none) =
    IsNodeStage (stages.Freeze node) volume × HasBirth volume.session volume.work.born volume.trees.nodes × (btree : Btree) × (due_in volume ≡ Some btree) × (size_of (durable_in volume btree) ≤ node_limit)
    × (have_free volume.layout.metadata_replicas volume.space ≡ false) × (none ≡ no_space (is_exhausted volume) volume)
IsFreezeRefused node volume (refusals.RingFull full) = ⊥

-- the volume then: where there is no free bucket, the work on nodes ends
abbrev pub after_refused : Refusal → Volume → Volume
after_refused (refusals.NoSpace none) volume = given_up volume
after_refused other volume = volume

-- The leaf wasn't frozen for this cause, and the volume is so then; want of memory has no cause, and changes nothing.
abbrev pub IsUnfrozen : ℕ → Volume → Volume → VolumeFault → Type 0
IsUnfrozen node old new (volume_faults.Refused refusal) = IsFreezeRefused node old refusal × (new ≡ after_refused refusal old)
IsUnfrozen node old new volume_faults.NoMemory = new ≡ old

-- It is said that there is no space, and the work on nodes has ended; or there was no memory, and nothing has changed.
abbrev pub IsSpaceless : Volume → Volume → VolumeFault → Type 0
IsSpaceless old new (volume_faults.Refused (refusals.NoSpace none)) = (none ≡ no_space (is_exhausted old) old) × (new ≡ given_up old)
IsSpaceless old new (volume_faults.Refused other) = ⊥
IsSpaceless old new volume_faults.NoMemory = new ≡ old

-- a volume with one more block of the unfinished node written
abbrev pub with_block : Volume → Volume
with_block volume = record volume { writer = unsettled_by volume.writer; work = with_part volume.work }

-- The numbers are left that it takes to put nodes in place.
pub record HasPlacingNumbers (volume : Volume) : Type 0 where
  pub sequence : volume.queue.open_entry.after + 1 < 2 ^ 64
  pub changes : volume.changes + 1 < 2 ^ 64

-- The frozen leaves are in place: each pins the first entry that changed it and whose keys it lacks, or none, and the buckets of those that they
-- replaced wait for the open entry. Nothing else has changed.
pub record AreInPlace (old new : Volume) : Type 0 where
  pub stage : IsNodeStage stages.CommitNodes old
  pub numbers : HasPlacingNumbers old
  pub replaced : List Exchange
  pub before : AreBefore old.trees.nodes (exchanges_of old.work.finished) replaced
  pub rest : new ≡ record old {
    trees = with_exchanged (exchanges_of old.work.finished) old.trees;
    pins = moved_pins old.work.finished old.later old.pins;
    marks = moved_pins old.work.finished old.later old.marks;
    later = [];
    space = emptied_all (places_of replaced) (old.queue.open_entry.after + 1) old.space;
    work = no_work old.work.born;
    emptied = old.queue.open_entry.after + 1;
    changes = old.changes + 1;
  }

-- Why frozen leaves aren't put in place: the session has stopped writing; or, where they are to be, a number isn't left.
abbrev pub IsPlacingRefused : Volume → Refusal → Type 0
IsPlacingRefused volume (refusals.Halted halt) = volume.halted ≡ Some halt
IsPlacingRefused volume refusals.Spent = IsNodeStage stages.CommitNodes volume × (¬ HasPlacingNumbers volume)
IsPlacingRefused volume other = ⊥

-- The leaves weren't put in place for this cause; want of memory has none.
abbrev pub IsUnplaced : Volume → VolumeFault → Type 0
IsUnplaced volume (volume_faults.Refused refusal) = IsPlacingRefused volume refusal
IsUnplaced volume volume_faults.NoMemory = ⊤
