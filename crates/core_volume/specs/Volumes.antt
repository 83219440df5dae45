-- What is kept of a volume in memory, but for what actors have under way.
use Rattle.std.specs.Prelude.{◌≡◌, ℕ, ◌+◌, ◌-◌, ◌*◌, ◌^◌, ◌≤◌, ◌<◌, All, min, Bool, true, ◌||◌, ◌&&◌, not, ◌==◌, nat_lt, nat_le, if◌then◌else◌, Option, Some, None, IfSome, option_map, take, List, [], ◌∷◌, ◌++◌, length, sum_by}
use Rattle.std.specs.List.{list_all}
use Rattle.std.specs.Map.{values_of}
use Rattle.std.specs.Ordering.{nat_cmp}
use Rattle.birth_index.specs.Births.{levels_of}
use Rattle.birth_index.specs.Exchanges.{one_node}
use Rattle.bucket_pool.specs.NodeBuckets.{AreFixed, MayHoldNode}
use Rattle.bucket_pool.specs.Space.{Space}
use Rattle.btree_map.specs.Trees.{Trees, keys_in}
use Rattle.dirty_nodes.specs.Dirty.{AreKept, AreMarked}
use Rattle.journal_writer.specs.Changes.{LeadTo}
use Rattle.journal_writer.specs.Queues.{IsQueue, Queue, first_with, last_block, oldest, waiting}
use Rattle.node_writeback.specs.Due.{leaf_due, root_in}
use Rattle.node_writeback.specs.Durable.{undurable}
use Rattle.node_writeback.specs.Freezing.{next_birth}
use Rattle.node_writeback.specs.Placing.{AreFrozenLeaves}
use Rattle.node_writeback.specs.NodeWork.{IsWork, NodeWork, first_left, frozen_nodes}
use Rattle.node_writeback.specs.declared.node.FrozenNode.{FrozenNode}
use Rattle.pin_list.specs.Pins.{least_pin}
use Rattle.tree_nodes.specs.Levels.{Levels}
use Rattle.vol_types.specs.KeyMaps.{IsKeyMap, KeyMap, entries_of}
use Rattle.vol_types.specs.Standing.{MayStand}
use Rattle.vol_types.specs.Layouts.{is_layout}
use Rattle.vol_types.specs.Maps.{value_at}
use Rattle.vol_types.specs.declared.layout.Layout.{Layout}
use Rattle.vol_types.specs.declared.pointers.NodePtr.{NodePtr}
use Rattle.vol_types.specs.declared.positions.Btree.{Btree}
use Rattle.vol_types.specs.declared.failure.Halt.{Halt}
use Rattle.journal_writer.specs.Writers.{Writer, first_flag, flush_before, stage_of as writer_stage}
use Rattle.journal_writer.specs.declared.durable.Durable.{Durable}
use Rattle.journal_writer.specs.declared.stage.Stage.{Stage}
use Rattle.journal_writer.specs.declared.stage.Stage.TheVariants.{CommitNodes, Freeze, Rest, WriteSet}
use Rattle.journal_writer.specs.declared.writer.Flight.{Flight}
use Rattle.journal_writer.specs.declared.changes.KeyChanges.{KeyChanges}
use Rattle.journal_writer.specs.declared.changes.Pending.{Pending}
use Rattle.journal_ring.specs.Rings.{RingState}

-- How the volume lies on its devices; its session; its keys and nodes; the entries that wait to be written; the dirty nodes and the marked ones, each with the entry that it pins; the nodes that were changed, each with
-- the oldest entry that did and whose keys a frozen one lacks, which says nothing of a node that isn't frozen; the buckets of each device; the entry that is being written, and the last durable one; the nodes that are frozen; the sequence of the newest entry that emptied
-- buckets wait for, or 0; where the session stopped writing, if it did; and how many commits of updates and of nodes there were in it.
pub record Volume : Type 0 where
  pub layout : Layout
  pub session : ℕ
  pub trees : Trees
  pub queue : Queue
  pub pins : List (ℕ × ℕ)
  pub marks : List (ℕ × ℕ)
  pub later : List (ℕ × ℕ)
  pub space : Space
  pub writer : Writer
  pub work : NodeWork
  pub emptied : ℕ
  pub halted : Option Halt
  pub changes : ℕ

-- how many commits there were since format
abbrev pub commits_of : Volume → ℕ
commits_of volume = volume.queue.open_entry.commits

-- how many levels the btrees have in all
abbrev pub heights : List Levels → ℕ
heights nodes = sum_by length nodes

-- how many free buckets are held back for nodes on a metadata device, as far as 32 bits go
abbrev pub held : Volume → ℕ
held volume = min (2 * (length volume.marks + heights volume.trees.nodes) + 4) (2 ^ 32 - 1)

-- how many of a device's free buckets are held back: on the metadata devices, which are the first ones
abbrev pub held_on : Volume → ℕ → ℕ
held_on volume dev = if nat_lt dev volume.layout.metadata_replicas then held volume else 0

-- how many blocks of the journal area are left: not from the oldest needed entry of the last durable one to the end of the open one
abbrev pub blocks_left : Volume → ℕ
blocks_left volume = volume.layout.journal - (last_block volume.queue + 1 - volume.writer.durable.first)

-- the entry in flight, if there is one
abbrev pub in_flight : Option Flight → Option Pending
in_flight flight = option_map (λ (some : Flight). some.entry) flight

-- the entries that aren't durable, the oldest first
abbrev pub undurable_in : Volume → List Pending
undurable_in volume = undurable (in_flight volume.writer.flight) volume.queue

-- whether no bucket waits for an entry
abbrev pub none_waits : Volume → Bool
none_waits volume = nat_le volume.emptied volume.writer.durable.sequence

-- whether no node is dirty, no bucket waits, and no node is frozen
abbrev pub is_idle : Volume → Bool
is_idle volume = (length volume.pins == 0) && (none_waits volume && (length (frozen_nodes volume.work) == 0))

-- whether an entry has no updates
abbrev pub has_no_updates : Pending → Bool
has_no_updates entry = length entry.changes.updates == 0

-- whether no bucket waits, and no entry with updates isn't durable, so that a checkpoint begun anew would end alike
abbrev pub is_exhausted : Volume → Bool
is_exhausted volume = none_waits volume && list_all has_no_updates (undurable_in volume)

-- whether a number is below the least one that is pinned, which it is where none is
abbrev pub is_below : ℕ → Option ℕ → Bool
is_below number None = true
is_below number (Some pin) = nat_lt number pin

-- whether the last durable entry needs an older one that nothing pins any more
abbrev pub can_let_go : Durable → List (ℕ × ℕ) → Bool
can_let_go durable pins = nat_lt durable.oldest durable.sequence && is_below durable.oldest (least_pin pins)

-- whether an entry of the journal is to be written: a closed one waits, or the open one has keys or commits, or a bucket waits for it, or it
-- lets an older one go
abbrev pub needs_entry : Volume → Bool
needs_entry volume =
    not (length volume.queue.closed == 0)
    || not (length volume.queue.open_entry.changes.updates == 0)
    || not (commits_of volume == volume.writer.durable.commits)
    || nat_lt volume.queue.open_entry.after volume.emptied
    || can_let_go volume.writer.durable volume.pins

-- the next event that the journal needs
abbrev pub stage_of : Volume → Stage
stage_of volume = writer_stage (needs_entry volume) volume.writer

-- the birth of the leaf that is to be frozen next, if there is one
abbrev pub birth_due : Volume → Option ℕ
birth_due volume = option_map (λ btree. (root_in volume.trees.nodes btree).birth) (leaf_due volume.writer.durable.sequence volume.trees.nodes volume.pins volume.work.finished)

-- The stage of the nodes, where this one isn't finished, or none is, and this one is to be frozen, or none is: once all are written, the
-- metadata devices are flushed, and they are put in place.
abbrev pub node_stage_by : Option ℕ → Option ℕ → Volume → Stage
node_stage_by (Some left) due volume = WriteSet left
node_stage_by None (Some due) volume = Freeze due
node_stage_by None None volume =
    if length volume.work.finished == 0 then Rest else flush_before (first_flag 0 (take volume.writer.ring.mirrors volume.writer.unsettled)) CommitNodes

-- the next event that the work on nodes needs
abbrev pub node_stage_of : Volume → Stage
node_stage_of volume = node_stage_by (first_left volume.work) (birth_due volume) volume

-- whether so many commits are durable, or all of them where no number is given
abbrev pub are_durable : Option ℕ → Volume → Bool
are_durable None volume = nat_le (commits_of volume) volume.writer.durable.commits
are_durable (Some count) volume = nat_le count volume.writer.durable.commits

-- where a session stopped writing: the first time counts
abbrev pub first_halt : Halt → Option Halt → Option Halt
first_halt halt None = Some halt
first_halt halt (Some before) = Some before

-- a volume whose session stops writing
abbrev pub halted_at : Halt → Volume → Volume
halted_at halt volume = record volume { halted = first_halt halt volume.halted }

-- what an entry in flight changes, if there is one
abbrev pub changes_in : Option Flight → List KeyChanges
changes_in None = []
changes_in (Some flight) = flight.entry.changes ∷ []

-- the sequence of the last entry that was put in flight, where the last durable one has this sequence
abbrev pub last_sealed : Option Flight → ℕ → ℕ
last_sealed None durable = durable
last_sealed (Some flight) durable = flight.entry.after + 1

-- The ring is the one of a layout.
pub record IsRingOf (layout : Layout) (ring : RingState) : Type 0 where
  pub id : ring.id ≡ layout.id
  pub mirrors : ring.mirrors ≡ layout.metadata_replicas
  pub journal : ring.journal ≡ layout.journal

-- Entries have one sequence after the other: the durable one, the one in flight, and those that wait.
pub record AreInTurn (writer : Writer) (queue : Queue) : Type 0 where
  pub flying : IfSome writer.flight (λ flight. flight.entry.after ≡ writer.durable.sequence)
  pub waiting_ones : (oldest queue).after ≡ last_sealed writer.flight writer.durable.sequence

-- No node pins an older entry than the one of this sequence.
abbrev pub ArePinnedFrom : ℕ → List (ℕ × ℕ) → Type 0
ArePinnedFrom oldest pins = IfSome (least_pin pins) (λ pin. oldest ≤ pin)

-- the sequence of the oldest entry that a durable one needs: at most its own, whatever stands in it
abbrev pub needed_by : Durable → ℕ
needed_by durable = min durable.oldest durable.sequence

-- The entry in flight needs none that is older than what the last durable one needs, and at most itself; and no node pins an older one
-- than it needs.
pub record IsFlightHeld (durable : Durable) (pins : List (ℕ × ℕ)) (flight : Flight) : Type 0 where
  pub from : needed_by durable ≤ flight.oldest
  pub to : flight.oldest ≤ flight.entry.after + 1
  pub pinned : ArePinnedFrom flight.oldest pins

-- What the pins hold back: what a node pins is needed by the last durable entry, and by the one in flight.
pub record HoldsBack (writer : Writer) (pins : List (ℕ × ℕ)) : Type 0 where
  pub durable : ArePinnedFrom (needed_by writer.durable) pins
  pub flight : IfSome writer.flight (IsFlightHeld writer.durable pins)

-- Where there is a first entry, it is pinned, or an older one.
abbrev pub IsPinnedBy : (first pin : Option ℕ) → Type 0
IsPinnedBy first pin = (sequence : ℕ) → first ≡ Some sequence → (p : ℕ) × (pin ≡ Some p) × (p ≤ sequence)

-- Where there are two pins, the one isn't newer than the other.
abbrev pub IsNotNewer : (pin later : Option ℕ) → Type 0
IsNotNewer pin later = (p l : ℕ) → pin ≡ Some p → later ≡ Some l → p ≤ l

-- The root of each btree that is one node pins the first of the entries that change the btree, or an older one.
abbrev pub ArePinnedByRoots : List Levels → List Pending → List (ℕ × ℕ) → Type 0
ArePinnedByRoots nodes entries pins =
    (btree : Btree) (root : NodePtr) → levels_of nodes btree ≡ one_node root → IsPinnedBy (first_with btree entries) (value_at nat_cmp root.birth pins)

-- A frozen node lies where nodes may, and was born in the session. Of the entries that aren't durable the first that changes its btree is
-- noted, or an older one; and the node pins none that is newer than what is noted.
pub record IsFrozenKept (volume : Volume) (node : FrozenNode) : Type 0 where
  pub placed : All (MayHoldNode volume.layout) node.fresh.places
  pub born : node.fresh.birth < next_birth volume.session volume.work.born
  pub later : IsPinnedBy (first_with node.btree (undurable_in volume)) (value_at nat_cmp node.birth volume.later)
  pub since : IsNotNewer (value_at nat_cmp node.birth volume.pins) (value_at nat_cmp node.birth volume.later)

-- What is kept of the frozen nodes: each is the only leaf of its btree, and kept so.
pub record IsWorkKept (volume : Volume) : Type 0 where
  pub leaves : AreFrozenLeaves volume.trees.nodes volume.pins (frozen_nodes volume.work)
  pub each : All (IsFrozenKept volume) (frozen_nodes volume.work)

-- What the parts of a volume keep by themselves: the entries that wait follow one another; blocks are left of a node that isn't finished; and
-- births rise where nodes are pinned, marked, or noted as changed.
pub record KeepParts (volume : Volume) : Type 0 where
  pub queue : IsQueue volume.queue
  pub work : IsWork volume.work
  pub dirty : AreKept volume.pins volume.marks volume.later

-- Each value of the key map may stand in a leaf of its btree.
abbrev pub StandInLeaves : KeyMap → Type 0
StandInLeaves keys = (btree : Btree) → All (MayStand btree 0) (values_of (entries_of keys btree))

-- What is kept of a volume. The marked nodes are exactly those that are dirty or have a dirty node
-- under them; the changes that aren't durable lead from some key map, taken for what the durable entries mean, to the one in memory.
pub record IsVolume (volume : Volume) : Type 0 where
  pub placed : is_layout volume.layout ≡ true
  pub mirrors : volume.queue.mirrors ≡ volume.layout.metadata_replicas
  pub devices : length volume.space ≡ length volume.layout.blocks
  pub fixed : AreFixed volume.layout volume.space
  pub ring : IsRingOf volume.layout volume.writer.ring
  pub in_turn : AreInTurn volume.writer volume.queue
  pub marked : AreMarked volume.trees.nodes volume.pins volume.marks
  pub held_back : HoldsBack volume.writer volume.pins
  pub pinned : ArePinnedByRoots volume.trees.nodes (undurable_in volume) volume.pins
  pub work : IsWorkKept volume
  pub durable_keys : KeyMap
  pub are_keys : IsKeyMap durable_keys
  pub stand : StandInLeaves durable_keys
  pub lead : LeadTo (changes_in volume.writer.flight ++ waiting volume.queue) durable_keys (keys_in volume.trees)
