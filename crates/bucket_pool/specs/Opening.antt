-- The space of a volume as its layout, the keys of its buckets and the places of its nodes say.
use Rattle.std.specs.Prelude.{ℕ, ◌+◌, ◌/◌, ◌%◌, ◌==◌, nat_lt, if◌then◌else◌, Option, Some, List, map, fold, ◌++◌, drop, take}
use Rattle.std.specs.List.{range_with_len}
use Rattle.vol_types.specs.declared.keys.Key.{Key}
use Rattle.vol_types.specs.declared.layout.Layout.{Layout}
use Rattle.vol_types.specs.declared.pointers.Place.{Place}
use Rattle.vol_types.specs.declared.positions.Pos.{Pos}
use Rattle.vol_types.specs.declared.values.Live.{Live}
use Rattle.vol_types.specs.declared.values.Value.{Value}
use Rattle.vol_types.specs.declared.values.Value.TheVariants as values
use Rattle.vol_types.specs.Limits.{bucket_blocks}
use Rattle.bucket_pool.specs.declared.bucket.Bucket.{Bucket}
use Rattle.bucket_pool.specs.declared.bucket.State.{State}
use Rattle.bucket_pool.specs.declared.bucket.State.TheVariants.{Super, Journal, Node, User, Free}
use Rattle.bucket_pool.specs.Buckets.{in_state, released}
use Rattle.bucket_pool.specs.Places.{changed}
use Rattle.bucket_pool.specs.Space.{Space}

-- where the key of a bucket stands: under its device, by its number
abbrev pub bucket_pos : ℕ → ℕ → Pos
bucket_pos dev at = record { inode = dev; offset = at; snapshot = 0 }

-- the number of the first bucket after the journal area
abbrev pub first_bucket : ℕ → ℕ
first_bucket journal = 1 + journal / bucket_blocks

-- a bucket of a blank device, given the first one that is free: bucket 0 has the superblocks, the next ones have the
-- journal, and all others are free
abbrev pub blank_bucket : ℕ → ℕ → Bucket
blank_bucket first at = record { generation = 0; state = if at == 0 then Super else if nat_lt at first then Journal else Free }

-- the buckets of a blank device of so many blocks, given the first one that is free
abbrev pub blank_device : ℕ → ℕ → List Bucket
blank_device first blocks = map (blank_bucket first) (range_with_len 0 (blocks / bucket_blocks))

-- the space as the layout says: the metadata devices, which come first, keep the journal, and the others don't
abbrev pub blank : Layout → Space
blank layout =
    map (blank_device (first_bucket layout.journal)) (take layout.metadata_replicas layout.blocks)
    ++ map (blank_device 1) (drop layout.metadata_replicas layout.blocks)

-- the state of a bucket whose key says this: blocks of files are in it, or it is free or retired
abbrev pub live_state : Live → State → State
live_state live Super = Super
live_state live Journal = Journal
live_state live _ = if live.blocks == 0 then released live.generation else User

-- a bucket with the generation and the state that its key says
abbrev pub as_live : Live → Bucket → Bucket
as_live live bucket = record { generation = live.generation; state = live_state live bucket.state }

-- the space where a key says what its bucket is
abbrev pub with_value : Pos → Option Value → Space → Space
with_value pos (Some (values.Live live)) space = if pos.snapshot == 0 then changed (changed (as_live live) pos.offset) pos.inode space else space
with_value pos _ space = space

-- the space where a key says what its bucket is
abbrev pub with_key : Space → Key → Space
with_key space key = with_value key.pos key.value space

-- a bucket in which a node lies keeps its generation
abbrev pub node_state : State → State
node_state Super = Super
node_state Journal = Journal
node_state _ = Node

-- a bucket in which a node lies
abbrev pub holds_node : Bucket → Bucket
holds_node bucket = in_state bucket (node_state bucket.state)

-- the space where a node lies at a place, if this is the first block of a bucket
abbrev pub with_place : Space → Place → Space
with_place space place = if place.block % bucket_blocks == 0 then changed (changed holds_node (place.block / bucket_blocks)) place.dev space else space

-- the space of a volume with this layout, these keys of buckets and nodes at these places
abbrev pub space_of : Layout → List Key → List Place → Space
space_of layout live nodes = fold with_place (fold with_key (blank layout) live) nodes
