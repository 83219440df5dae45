-- The base of an entry: the blocks of an image on which it hangs what the image means where this entry is the newest.
use Rattle.std.specs.Prelude.{◌≡◌, ◌≢◌, ℕ, ◌+◌, ◌<◌, length, map, All, Some, Ok}
use Rattle.dev_model.specs.Disk.{Image, block_at}
use Rattle.journal_ring.specs.Counting.{needed_by, newest}
use Rattle.journal_ring.specs.Entries.{AgreeFrom}
use Rattle.journal_ring.specs.Parts.{area_of}
use Rattle.key_meaning.specs.Blocks.{Block, block_of}
use Rattle.vol_types.specs.Limits.{bucket_blocks}
use Rattle.vol_types.specs.declared.pointers.NodePtr.{NodePtr}
use Rattle.vol_types.specs.declared.pointers.Place.{Place}
use Rattle.vol_types.specs.declared.positions.Pos.{Pos}
use Rattle.vol_types.specs.declared.values.Extent.{Extent}
use Rattle.vol_types.specs.declared.values.Value.{Value}
use Rattle.vol_types.specs.declared.values.Value.TheVariants as values
use Rattle.image_view.specs.Found.{Found}
use Rattle.image_view.specs.Trees.{nodes_of}

-- Two images hold the same in a block of a device.
abbrev pub AgreeAt : Image → Image → ℕ → ℕ → Type 0
AgreeAt one other dev block = block_at one dev block ≡ block_at other dev block

-- Two images agree on all blocks of the bucket at a place.
abbrev pub AgreeInBucket : Image → Image → Place → Type 0
AgreeInBucket one other place = (n : ℕ) → n < bucket_blocks → AgreeAt one other place.dev (place.block + n)

-- They agree on the bucket of a node at each of its places.
abbrev pub AgreeOnNode : Image → Image → NodePtr → Type 0
AgreeOnNode one other pointer = All (AgreeInBucket one other) pointer.places

-- They agree on each place of a block of a file.
abbrev pub AgreeOnBlock : Image → Image → Block → Type 0
AgreeOnBlock one other block = All (λ place. AgreeAt one other place.dev place.block) block.places

-- They agree on the blocks of an extent.
abbrev pub AgreeOnExtent : Image → Image → Extent → Type 0
AgreeOnExtent one other extent = (index : ℕ) → index < length extent.digests → AgreeOnBlock one other (block_of extent index)

-- They agree on the blocks of an entry of a btree, if it is an extent.
abbrev pub AgreeOnEntry : Image → Image → Pos × Value → Type 0
AgreeOnEntry one other entry = (extent : Extent) → entry.1 ≡ values.Extent extent → AgreeOnExtent one other extent

-- Two images of equal lengths agree on the superblocks, and on the buckets of all nodes that were read.
pub record AgreeOnNodes (f : Found) (one other : Image) : Type 0 where
  pub lengths : map (λ blocks. length blocks) one ≡ map (λ blocks. length blocks) other
  pub first_copies : (dev : ℕ) → AgreeAt one other dev 0
  pub second_copies : (dev : ℕ) → AgreeAt one other dev 8
  pub nodes : All (AgreeOnNode one other) (nodes_of f.trees.nodes)

-- Two images of equal lengths agree on the base of what was found: the superblocks, the session blocks, the places of the needed
-- entries, and the buckets of all nodes that were read.
pub record AgreeOnBase (f : Found) (one other : Image) : Type 0 where
  pub lengths : map (λ blocks. length blocks) one ≡ map (λ blocks. length blocks) other
  pub first_copies : (dev : ℕ) → AgreeAt one other dev 0
  pub second_copies : (dev : ℕ) → AgreeAt one other dev 8
  pub even_sessions : (dev : ℕ) → dev < f.layout.metadata_replicas → AgreeAt one other dev 4
  pub odd_sessions : (dev : ℕ) → dev < f.layout.metadata_replicas → AgreeAt one other dev 5
  pub entries : All (λ entry. AgreeFrom f.layout (area_of one) (area_of other) entry.number entry.end) f.needed
  pub nodes : All (AgreeOnNode one other) (nodes_of f.trees.nodes)

-- They also agree on the blocks of all extents of its keys.
pub record AgreeOnContent (f : Found) (one other : Image) : Type 0 where
  pub extents : All (AgreeOnEntry one other) f.trees.keys.extents

-- What was found has an image's newest entry, and its needed entries are the ones that count for their sequences.
pub record IsNewest (f : Found) (image : Image) : Type 0 where
  pub last : newest f.layout (area_of image) ≡ Some f.last
  pub needed : needed_by f.layout (area_of image) f.last ≡ Ok f.needed

-- Two images of equal lengths agree everywhere but in blocks 4 and 5, in which sessions are sealed.
pub record DifferInSessions (one other : Image) : Type 0 where
  pub lengths : map (λ blocks. length blocks) one ≡ map (λ blocks. length blocks) other
  pub elsewhere : (dev block : ℕ) → block ≢ 4 → block ≢ 5 → AgreeAt one other dev block
