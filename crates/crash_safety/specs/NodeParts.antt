-- The blocks of a new node while they are written one after the other, each on every place of the node.
use Rattle.std.specs.Prelude.{◌≡◌, ℕ, ◌+◌, ◌*◌, ◌<◌, ◌^◌, List, [], All, Contains, Option, None}
use Rattle.dev_model.specs.Devices.{DevicesState, now}
use Rattle.dev_model.specs.Disk.{as_read}
use Rattle.image_view.specs.Found.{Found, IsMirrored}
use Rattle.crash_safety.specs.Elsewhere.{IsElsewhereOfBoth}
use Rattle.crash_safety.specs.Writings.{Writing}
use Rattle.crash_safety.specs.Parts.{AsksAt}
use Rattle.key_meaning.specs.Checks.{IsNodePlaced}
use Rattle.node_mem.specs.Nodes.{with_keys}
use Rattle.node_store.specs.NodeContents.{NodeContent}
use Rattle.node_store.specs.Plans.{HoldsAlone, blocks_for, part_bytes, planned_blocks}
use Rattle.node_store.specs.Writes.{HoldCopies, IsCopyBlock, IsCopyOf, KeepsLengths}
use Rattle.node_store.specs.declared.planning.Blocked.{Blocked}
use Rattle.record_codec.specs.Sets.{set_format}
use Rattle.record_codec.specs.declared.sets.SetRecord.{SetRecord}
use Rattle.vol_types.specs.Limits.{bucket_blocks}
use Rattle.vol_types.specs.Positions.{greatest_pos, least_pos}
use Rattle.vol_types.specs.declared.layout.Layout.{Layout}
use Rattle.vol_types.specs.declared.pointers.NodePtr.{NodePtr}
use Rattle.vol_types.specs.declared.pointers.Place.{Place}
use Rattle.vol_types.specs.declared.positions.Btree.{Btree}

-- A planned block was written at each place, or a device failed.
pub record IsNodePartWritten (blocked : Blocked) (part : ℕ) (failed : Option ℕ) (old new : DevicesState) : Type 0 where
  pub at : AsksAt (IsCopyOf blocked.places (blocked.block + part)) (IsCopyBlock blocked.places (blocked.block + part) (part_bytes blocked part)) old new
  pub lengths : KeepsLengths old new
  pub held : failed ≡ None → HoldCopies blocked.places (blocked.block + part) (part_bytes blocked part) (as_read (now new))

-- The first so many planned blocks stand at each place, as it is read.
abbrev pub StandParts : Blocked → ℕ → DevicesState → Type 0
StandParts blocked count state = (part : ℕ) → part < count → HoldCopies blocked.places (blocked.block + part) (part_bytes blocked part) (as_read (now state))

-- Each block of the buckets at these places counts neither for what was found nor for the nodes of the entry that is written.
abbrev pub AreElsewhere : Found → Option Writing → List Place → Type 0
AreElsewhere f writing places = (place : Place) → Contains places place → (n : ℕ) → n < bucket_blocks → IsElsewhereOfBoth f writing (record { dev = place.dev; block = place.block + n })

-- what a leaf holds that is written whole, as this set
abbrev pub leaf_content : SetRecord → NodeContent
leaf_content set = record { entries = with_keys set.keys []; end = blocks_for (set_format.encode set) }

-- The blocks are those of a new leaf, the root of its btree, as this set: they fill its buckets, one on every metadata device, where nodes
-- may lie; and it is born in a session up to this one.
pub record IsLeafPlanned (layout : Layout) (session : ℕ) (btree : Btree) (fresh : NodePtr) (set : SetRecord) (blocked : Blocked) : Type 0 where
  pub holds : HoldsAlone layout.id fresh set blocked
  pub places : blocked.places ≡ fresh.places
  pub block : blocked.block ≡ 0
  pub whole : planned_blocks blocked ≡ bucket_blocks
  pub of_btree : set.btree ≡ btree
  pub least : set.least ≡ least_pos
  pub greatest : set.greatest ≡ greatest_pos
  pub leaf : fresh.level ≡ 0
  pub mirrored : IsMirrored layout fresh
  pub born : fresh.birth < (session + 1) * 2 ^ 32
  pub placed : All (IsNodePlaced layout) fresh.places
