-- The fresh volume: its nine roots, one leaf each, the first entry of its journal, and what is found in it.
use Rattle.std.specs.Prelude.{◌≡◌, ℕ, ◌+◌, ◌*◌, ◌<◌, ◌==◌, if◌then◌else◌, List, [], ◌∷◌, length, map, slice_index_or}
use Rattle.std.specs.List.{range_with_len}
use Rattle.vol_types.specs.KeyMaps.{entries_of, keys_in}
use Rattle.vol_types.specs.Limits.{bucket_blocks}
use Rattle.vol_types.specs.Positions.{greatest_pos, least_pos}
use Rattle.vol_types.specs.declared.layout.Layout.{Layout}
use Rattle.vol_types.specs.declared.pointers.NodePtr.{NodePtr}
use Rattle.vol_types.specs.declared.pointers.Place.{Place}
use Rattle.vol_types.specs.declared.positions.Btree.{Btree}
use Rattle.vol_types.specs.declared.positions.Btree.TheVariants.{Extents}
use Rattle.record_codec.specs.Sets.{set_format}
use Rattle.record_codec.specs.declared.entries.EntryRecord.{EntryRecord}
use Rattle.record_codec.specs.declared.sets.SetRecord.{SetRecord}
use Rattle.sealed_block.specs.declared.heads.Head.{Head}
use Rattle.sha2.specs.Sha256.{sha256}
use Rattle.key_meaning.specs.Fresh.{fresh_keys}
use Rattle.plain_forest.specs.Forest.{fresh}
use Rattle.node_store.specs.NodeContents.{NodeContent}
use Rattle.node_store.specs.Plans.{AreZerosFrom, HoldsAlone, IsReadAlone, blocks_for, planned_blocks, set_stored}
use Rattle.node_store.specs.declared.planning.Blocked.{Blocked}
use Rattle.journal_ring.specs.EntryBlocks.{AreEntryBlocks}
use Rattle.journal_ring.specs.declared.found.FoundEntry.{FoundEntry}
use Rattle.image_view.specs.Found.{Found, Volume}
use Rattle.image_view.specs.NewNodes.{leaf_trees}
use Rattle.image_view.specs.Trees.{all_btrees}
use Rattle.vol_format.specs.declared.fresh.FreshBlocks.{FreshBlocks}

-- the birth of the root of the btree with this number
abbrev pub root_birth : ℕ → ℕ
root_birth btree = 4294967296 + btree

-- where it lies on a metadata device: the roots' buckets lie one behind the other, behind the journal area
abbrev pub root_place : Layout → ℕ → ℕ → Place
root_place layout btree dev = record { dev = dev; block = 16 + layout.journal + 16 * btree }

-- that root, on each metadata device
abbrev pub fresh_root : Layout → ℕ → NodePtr
fresh_root layout btree = record { birth = root_birth btree; level = 0; places = map (root_place layout btree) (range_with_len 0 layout.metadata_replicas) }

-- the roots in the order of the btrees' numbers
abbrev pub fresh_roots : Layout → List NodePtr
fresh_roots layout = map (fresh_root layout) (range_with_len 0 9)

-- the btree with a number
abbrev pub btree_at : ℕ → Btree
btree_at number = slice_index_or all_btrees number Extents

-- the set of keys of a root
abbrev pub root_set : ℕ → SetRecord
root_set number = record { birth = root_birth number; btree = btree_at number; level = 0; least = least_pos; greatest = greatest_pos; keys = keys_in (entries_of fresh_keys (btree_at number)) }

-- the first entry: it names the roots, and needs itself alone
abbrev pub first_entry : Layout → EntryRecord
first_entry layout = record { sequence = 1; oldest = 1; session = 1; commits = 0; roots = fresh_roots layout; updates = [] }

-- that entry at the beginning of the journal area, in one block
abbrev pub first_found : Layout → FoundEntry
first_found layout = record { number = 0; end = 1; entry = first_entry layout }

-- what the root of a btree holds, in one block
abbrev pub fresh_content : Btree → NodeContent
fresh_content btree = record { entries = entries_of fresh_keys btree; end = 1 }

-- what is found in the fresh volume
abbrev pub fresh_found : Layout → Found
fresh_found layout = record {
  layout = layout;
  session = 1;
  last = first_found layout;
  needed = first_found layout ∷ [];
  trees = leaf_trees (fresh_roots layout) fresh_content;
}

-- the volume that this is: the fresh forest, without a commit
abbrev pub fresh_volume : Layout → Volume
fresh_volume layout = record { layout = layout; commits = 0; forest = fresh }

-- where a counter begins in the fresh volume: the first client's next number, those of the other clients, and the next snapshot id
abbrev pub count_at : ℕ → ℕ
count_at counter = if counter == 0 then 2 else if counter == 16 then 4294967294 else 1

-- the head of the block of the first entry with this payload
abbrev pub entry_head : Layout → List ℕ → Head
entry_head layout payload = record {
  kind = 2;
  version = 1;
  part = 0;
  parts = 1;
  id = layout.id;
  owner = 1;
  number = 0;
  sequence = 1;
  length = length payload;
  whole = sha256 payload;
}

-- where no bucket is planned
abbrev pub no_bucket : Blocked
no_bucket = record { places = []; block = 0; parts = [] }

-- The blocks are those of a bucket that holds the root of the btree with this number: its set, in whose head the sequence of the first entry
-- stands, and zero blocks behind it.
pub record IsRootPlan (layout : Layout) (number : ℕ) (blocked : Blocked) : Type 0 where
  pub places : blocked.places ≡ (fresh_root layout number).places
  pub first : blocked.block ≡ 0
  pub whole : planned_blocks blocked ≡ bucket_blocks
  pub size : length blocked.parts ≡ 65536
  pub alone : IsReadAlone layout.id (fresh_root layout number) (set_stored 0 (first_entry layout).sequence (set_format.encode (root_set number))) blocked
  pub zeros : AreZerosFrom (blocks_for (set_format.encode (root_set number))) blocked
  pub holds : HoldsAlone layout.id (fresh_root layout number) (root_set number) blocked

-- They are those of the nine roots.
pub record AreRootPlans (layout : Layout) (roots : List Blocked) : Type 0 where
  pub count : length roots ≡ 9
  pub each : (number : ℕ) → number < 9 → IsRootPlan layout number (slice_index_or roots number no_bucket)

-- The blocks are those that the metadata devices of the fresh volume have: the first entry, and the roots.
pub record AreFreshBlocks (layout : Layout) (blocks : FreshBlocks) : Type 0 where
  pub size : length blocks.entry ≡ 4096
  pub entry : AreEntryBlocks layout.id 0 (first_entry layout) (blocks.entry ∷ [])
  pub roots : AreRootPlans layout blocks.roots
