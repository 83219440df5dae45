-- What is told of a volume, taken from what is found in its image.
use Rattle.std.specs.Prelude.{ℕ, ◌-◌, ◌==◌, Bool, false, List, [], length, map, count_by, slice_index_or}
use Rattle.std.specs.List.{flat_map, range_with_len}
use Rattle.std.specs.Map.{values_of}
use Rattle.bucket_pool.specs.Given.{is_used_state}
use Rattle.bucket_pool.specs.Opening.{space_of}
use Rattle.bucket_pool.specs.Space.{Space, free_count}
use Rattle.bucket_pool.specs.declared.bucket.Bucket.{Bucket}
use Rattle.image_view.specs.Found.{Found, node_places}
use Rattle.image_view.specs.Trees.{TreesRead, all_btrees}
use Rattle.journal_ring.specs.declared.found.FoundEntry.{FoundEntry}
use Rattle.image_reader.specs.Volumes.{no_entry}
use Rattle.image_reader.specs.declared.found.FoundBtree.{FoundBtree}
use Rattle.tree_nodes.specs.Levels.{Levels}
use Rattle.vol_types.specs.Btrees.{btree_code}
use Rattle.vol_types.specs.KeyMaps.{Entries, entries_of, keys_in}
use Rattle.vol_types.specs.Values.{snap_state_code}
use Rattle.vol_types.specs.declared.pointers.NodePtr.{NodePtr}
use Rattle.vol_types.specs.declared.pointers.Place.{Place}
use Rattle.vol_types.specs.declared.positions.Btree.{Btree}
use Rattle.vol_types.specs.declared.positions.Btree.TheVariants.{Alloc, Snapshots}
use Rattle.vol_types.specs.declared.positions.Pos.{Pos}
use Rattle.vol_types.specs.declared.values.SnapState.{SnapState}
use Rattle.vol_types.specs.declared.values.SnapState.TheVariants.{LiveLeaf, DeadLeaf}
use Rattle.vol_types.specs.declared.values.Value.{Value}
use Rattle.vol_types.specs.declared.values.Value.TheVariants.{Snap}
use Rattle.vol_info.specs.declared.facts.BtreeFacts.{BtreeFacts}
use Rattle.vol_info.specs.declared.facts.DeviceFacts.{DeviceFacts}
use Rattle.vol_info.specs.declared.facts.Facts.{Facts}
use Rattle.vol_info.specs.declared.facts.IdFacts.{IdFacts}
use Rattle.vol_info.specs.declared.facts.JournalFacts.{JournalFacts}

-- the first one of entries
abbrev pub first_of : List FoundEntry → FoundEntry
first_of entries = slice_index_or entries 0 no_entry

-- what is told of the journal: the newest entry, the oldest one that is needed, how many are, and from where to where they stand
abbrev pub journal_facts : Found → JournalFacts
journal_facts f = record {
  sequence = f.last.entry.sequence;
  oldest = (first_of f.needed).entry.sequence;
  entries = length f.needed;
  blocks = f.last.end - (first_of f.needed).number;
}

-- whether a value is the record of a snapshot id in this state
abbrev pub has_state : SnapState → Value → Bool
has_state state (Snap snap) = snap_state_code snap.state == snap_state_code state
has_state state other = false

-- whether it is the key of a snapshot id in this state
abbrev pub is_id_in : SnapState → Pos × Value → Bool
is_id_in state entry = has_state state entry.1

-- what is told of the snapshot ids: how many subvolumes there are, how many ids, and how many of these are dead
abbrev pub id_facts : Entries → IdFacts
id_facts records = record { subvolumes = count_by (is_id_in LiveLeaf) records; ids = length records; dead = count_by (is_id_in DeadLeaf) records }

-- the nodes of a btree, level by level from the leaves up
abbrev pub levels_in : TreesRead → Btree → Levels
levels_in trees btree = slice_index_or trees.nodes (btree_code btree) []

-- what is told of a btree
abbrev pub btree_facts : TreesRead → Btree → BtreeFacts
btree_facts trees btree = record {
  btree = btree;
  level = length (levels_in trees btree) - 1;
  nodes = length (flat_map values_of (levels_in trees btree));
  keys = length (entries_of trees.keys btree);
}

-- the places of the nodes of a btree that was found
abbrev pub places_in : FoundBtree → List Place
places_in btree = flat_map (λ (node : NodePtr). node.places) (flat_map values_of btree.levels)

-- the space of a volume that was found: its layout, the keys of its buckets and the places of its nodes say which bucket has what
abbrev pub space_in : Found → Space
space_in f = space_of f.layout (keys_in (entries_of f.trees.keys Alloc)) (node_places f)

-- whether a node or blocks of files lie in the bucket
abbrev pub is_used : Bucket → Bool
is_used bucket = is_used_state bucket.state

-- what is told of a device, given its buckets
abbrev pub facts_of_buckets : ℕ → List Bucket → DeviceFacts
facts_of_buckets dev buckets = record { dev = dev; buckets = length buckets; free = free_count buckets; used = count_by is_used buckets }

-- what is told of a device
abbrev pub device_facts : Space → ℕ → DeviceFacts
device_facts space dev = facts_of_buckets dev (slice_index_or space dev [])

-- what is told of a volume that was found
unfoldable pub facts_of : Found → Facts
facts_of f = record {
  layout = f.layout;
  session = f.session;
  commits = f.last.entry.commits;
  journal = journal_facts f;
  ids = id_facts (entries_of f.trees.keys Snapshots);
  btrees = map (btree_facts f.trees) all_btrees;
  devices = map (device_facts (space_in f)) (range_with_len 0 (length f.layout.blocks));
}
