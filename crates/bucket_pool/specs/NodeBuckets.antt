-- Which buckets hold nodes or are held back, and which are never given.
use Rattle.std.specs.Prelude.{◌≡◌, ◌≢◌, ℕ, ◌+◌, ◌*◌, ◌/◌, ◌%◌, ◌<◌, ◌≤◌, ◌⊎◌, Option, Some, option_map, [], length, map, slice_index_or}
use Rattle.vol_types.specs.declared.layout.Layout.{Layout}
use Rattle.vol_types.specs.declared.pointers.Place.{Place}
use Rattle.vol_types.specs.Limits.{bucket_blocks}
use Rattle.bucket_pool.specs.declared.bucket.State.{State}
use Rattle.bucket_pool.specs.declared.bucket.State.TheVariants.{Super, Journal, Node, Waiting}
use Rattle.bucket_pool.specs.Given.{bucket_at}
use Rattle.bucket_pool.specs.Space.{Space}

-- the state of a bucket of a device
abbrev pub bucket_state : Space → ℕ → ℕ → Option State
bucket_state space dev at = option_map (λ bucket. bucket.state) (bucket_at space dev at)

-- the state of the bucket that a place lies in
abbrev pub state_at : Space → Place → Option State
state_at space place = bucket_state space place.dev (place.block / bucket_blocks)

-- The place lies in a bucket that holds a node.
abbrev pub HoldsNode : Space → Place → Type 0
HoldsNode space place = state_at space place ≡ Some Node

-- The place's bucket holds a node, or waits for an entry behind this number.
abbrev pub IsHeldPast : ℕ → Space → Place → Type 0
IsHeldPast seq space place = HoldsNode space place ⊎ ((entry : ℕ) × (state_at space place ≡ Some (Waiting entry)) × (seq < entry))

-- Two places lie in different buckets.
abbrev pub AreInOtherBuckets : Place → Place → Type 0
AreInOtherBuckets one other = (one.dev ≢ other.dev) ⊎ (one.block / bucket_blocks ≢ other.block / bucket_blocks)

-- The place is the first block of a bucket that is there.
pub record BeginsBucket (space : Space) (place : Place) : Type 0 where
  pub at : ℕ
  pub begins : place.block ≡ bucket_blocks * at
  pub within : at < length (slice_index_or space place.dev [])

-- By the layout a node may lie at the place: it is the first block of a bucket of its device, behind the superblocks, and
-- behind the journal area on a metadata device.
pub record MayHoldNode (layout : Layout) (place : Place) : Type 0 where
  pub begins : place.block % bucket_blocks ≡ 0
  pub within : place.block + bucket_blocks ≤ slice_index_or layout.blocks place.dev 0
  pub past_superblocks : bucket_blocks ≤ place.block
  pub past_journal : place.dev < layout.metadata_replicas → bucket_blocks + layout.journal ≤ place.block

-- Each of the layout's devices has all its buckets. The first one has the superblocks, and on the metadata devices, which
-- come first, the next ones have the journal.
pub record AreFixed (layout : Layout) (space : Space) : Type 0 where
  pub sizes : map length space ≡ map (λ blocks. blocks / bucket_blocks) layout.blocks
  pub superblocks : (dev : ℕ) → dev < length layout.blocks → bucket_state space dev 0 ≡ Some Super
  pub journal : (dev at : ℕ) → dev < layout.metadata_replicas → 0 < at → bucket_blocks * at < bucket_blocks + layout.journal → bucket_state space dev at ≡ Some Journal

-- What held a node still does, what was held past this number still is, and the superblocks and the journal stay.
pub record KeepsNodes (past : ℕ) (before after : Space) : Type 0 where
  pub nodes : (place : Place) → HoldsNode before place → HoldsNode after place
  pub held : (place : Place) → IsHeldPast past before place → IsHeldPast past after place
  pub fixed : (layout : Layout) → AreFixed layout before → AreFixed layout after
