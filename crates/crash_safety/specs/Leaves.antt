-- A leaf that is the root of its btree, as it stands on the devices, and the nine roots of a volume whose btrees are such leaves.
use Rattle.std.specs.Prelude.{◌≡◌, ◌≢◌, ℕ, ◌+◌, ◌*◌, ◌/◌, ◌%◌, ◌<◌, ◌^◌, List, [], ◌∷◌, length, map, All, Contains, Ok, Some, slice_get}
use Rattle.std.specs.List.{flat_map}
use Rattle.dev_model.specs.Devices.{DevicesState, now}
use Rattle.dev_model.specs.Disk.{Image, IsCrashImage, as_read, block_at}
use Rattle.image_view.specs.Bases.{AgreeOnNode}
use Rattle.image_view.specs.Found.{IsMirrored, PlacesAgree, sets_in}
use Rattle.image_view.specs.NewNodes.{wanted_root}
use Rattle.key_meaning.specs.Checks.{AreNodesPlaced, IsNodePlaced}
use Rattle.node_store.specs.Answers.{AreAlike}
use Rattle.node_store.specs.Copies.{copies_at}
use Rattle.node_store.specs.NodeContents.{NodeContent}
use Rattle.tree_nodes.specs.Levels.{Levels}
use Rattle.vol_types.specs.Btrees.{btree_code}
use Rattle.vol_types.specs.KeyMaps.{KeyMap, key_map}
use Rattle.vol_types.specs.Limits.{bucket_blocks}
use Rattle.vol_types.specs.Positions.{greatest_pos}
use Rattle.vol_types.specs.declared.layout.Layout.{Layout}
use Rattle.vol_types.specs.declared.pointers.NodePtr.{NodePtr}
use Rattle.vol_types.specs.declared.pointers.Place.{Place}
use Rattle.vol_types.specs.declared.positions.Btree.{Btree}

-- It is a block of the node's bucket on one of its places.
abbrev pub IsOfNode : NodePtr → ℕ → ℕ → Type 0
IsOfNode node dev block = (place : Place) × (n : ℕ) × Contains node.places place × (n < bucket_blocks) × (dev ≡ place.dev) × (block ≡ place.block + n)

-- What is touched keeps off the node: none of its blocks is touched.
abbrev pub KeepsOff : (ℕ → ℕ → Type 0) → NodePtr → Type 0
KeepsOff touched node = (dev block : ℕ) → IsOfNode node dev block → ¬ touched dev block

-- The place is the first block of a bucket.
abbrev pub IsFirstBlock : Place → Type 0
IsFirstBlock place = place.block % bucket_blocks ≡ 0

-- Two places are in buckets of their own.
abbrev pub AreInOwnBuckets : Place → Place → Type 0
AreInOwnBuckets place other = place.dev ≡ other.dev → place.block / bucket_blocks ≢ other.block / bucket_blocks

-- No bucket of the one node is a bucket of the other one.
pub record AreNodesApart (one other : NodePtr) : Type 0 where
  pub first : All IsFirstBlock one.places
  pub second : All IsFirstBlock other.places
  pub apart : All (λ place. All (AreInOwnBuckets place) other.places) one.places

-- The root is a leaf that stands on every metadata device: there its sets come to this content, and its copies are alike up to their end and
-- agree behind it; it was born in a session up to this one, and lies where nodes may; and a crash leaves its buckets as they are read.
pub record StandsAsLeaf (layout : Layout) (session : ℕ) (btree : Btree) (root : NodePtr) (content : NodeContent) (state : DevicesState) : Type 0 where
  pub leaf : root.level ≡ 0
  pub reads : sets_in layout (as_read (now state)) (wanted_root btree root) ≡ Ok content
  pub mirrored : IsMirrored layout root
  pub alike : AreAlike content.end (copies_at (block_at (as_read (now state))) root.places)
  pub agree : PlacesAgree layout.id (as_read (now state)) root
  pub born : root.birth < (session + 1) * 2 ^ 32
  pub placed : All (IsNodePlaced layout) root.places
  pub left : (image : Image) → IsCrashImage (now state) image → AgreeOnNode (as_read (now state)) image root

-- Each of the nine roots stands as the leaf of its btree; no two of them have one birth, and no two share a bucket.
pub record StandAsLeaves (layout : Layout) (session : ℕ) (roots : List NodePtr) (content : Btree → NodeContent) (state : DevicesState) : Type 0 where
  pub nine : length roots ≡ 9
  pub each : (btree : Btree) (root : NodePtr) → slice_get roots (btree_code btree) ≡ Some root → StandsAsLeaf layout session btree root (content btree) state
  pub births : (place other : ℕ) (one same : NodePtr) → slice_get roots place ≡ Some one → slice_get roots other ≡ Some same → one.birth ≡ same.birth → place ≡ other
  pub apart : AreNodesPlaced (flat_map (λ root. root.places) roots) layout

-- the keys of btrees that are leaves
abbrev pub leaf_keys : (Btree → NodeContent) → KeyMap
leaf_keys content = key_map (λ btree. (content btree).entries)

-- the nodes of btrees that are leaves
abbrev pub leaf_nodes : List NodePtr → List Levels
leaf_nodes roots = map (λ root. ((greatest_pos, root) ∷ []) ∷ []) roots
