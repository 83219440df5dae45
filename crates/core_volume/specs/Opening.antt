-- What is kept of a volume that was loaded, but for its actors.
use Rattle.std.specs.Prelude.{◌≡◌, ℕ, ◌-◌, Some, None, List, [], length, slice_get}
use Rattle.std.specs.List.{flat_map}
use Rattle.bucket_pool.specs.Opening.{space_of}
use Rattle.btree_map.specs.Trees.{Trees, keys_in}
use Rattle.dirty_nodes.specs.Dirty.{changed_nodes, paths_of, with_pins}
use Rattle.journal_writer.specs.Queues.{empty_queue}
use Rattle.journal_writer.specs.Writers.{opened_by as writer_opened}
use Rattle.node_writeback.specs.NodeWork.{no_work}
use Rattle.journal_ring.specs.declared.found.FoundEntry.{FoundEntry}
use Rattle.vol_types.specs.KeyMaps.{KeyMap, answer_of}
use Rattle.vol_types.specs.Positions.{greatest_pos, least_pos}
use Rattle.vol_types.specs.declared.keys.Key.{Key}
use Rattle.vol_types.specs.declared.queries.Query.TheVariants.{Span}
use Rattle.vol_types.specs.declared.keys.Update.{Update}
use Rattle.vol_types.specs.declared.layout.Layout.{Layout}
use Rattle.vol_types.specs.declared.pointers.Place.{Place}
use Rattle.vol_types.specs.declared.positions.Btree.TheVariants.{Alloc}
use Rattle.core_volume.specs.Volumes.{Volume}

-- the updates of entries, in their order
abbrev pub updates_in : List FoundEntry → List Update
updates_in needed = flat_map (λ (found : FoundEntry). found.entry.updates) needed

-- the keys of buckets
abbrev pub keys_of_buckets : KeyMap → List Key
keys_of_buckets keys = answer_of (Span Alloc least_pos greatest_pos) keys

-- what is kept of a volume without its actors, given the needed entries and the newest of them
abbrev pub opened_by : Layout → ℕ → Trees → List FoundEntry → List Place → FoundEntry → Volume
opened_by layout session trees needed nodes newest = record {
  layout = layout;
  session = session;
  trees = trees;
  queue = empty_queue layout.metadata_replicas newest.entry.sequence (newest.end - 1) newest.entry.commits;
  pins = with_pins newest.entry.oldest (changed_nodes trees.nodes (updates_in needed)) [];
  marks = with_pins newest.entry.oldest (paths_of trees.nodes (updates_in needed)) [];
  later = [];
  space = space_of layout (keys_of_buckets (keys_in trees)) nodes;
  writer = writer_opened layout needed newest;
  work = no_work 0;
  emptied = 0;
  halted = None;
  changes = 0;
}

-- Nothing waits to be written behind the newest of the needed entries, which is the last durable one; each node that their updates
-- change is dirty, and pins the oldest of them; the buckets are as the keys and the places of the nodes say.
pub record IsVolumeOpened (layout : Layout) (session : ℕ) (trees : Trees) (needed : List FoundEntry) (nodes : List Place) (volume : Volume) : Type 0 where
  pub newest : FoundEntry
  pub last : slice_get needed (length needed - 1) ≡ Some newest
  pub is : volume ≡ opened_by layout session trees needed nodes newest
