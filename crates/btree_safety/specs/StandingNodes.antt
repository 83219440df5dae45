-- A node of a btree, of whichever level, as it stands on the devices, and all nodes of a volume's nine btrees.
use Rattle.std.specs.Prelude.{ℕ, ◌+◌, ◌*◌, ◌<◌, ◌^◌, List, All}
use Rattle.std.specs.List.{flat_map}
use Rattle.birth_index.specs.Births.{levels_of}
use Rattle.btree_laws.specs.Standing.{Contents, IsNodeIn, StandAsBtrees}
use Rattle.dev_model.specs.Devices.{DevicesState, now}
use Rattle.dev_model.specs.Disk.{Image, IsCrashImage, as_read, block_at}
use Rattle.image_view.specs.Bases.{AgreeOnNode}
use Rattle.image_view.specs.Found.{IsMirrored, PlacesAgree, sets_in}
use Rattle.image_view.specs.Trees.{nodes_of}
use Rattle.key_meaning.specs.Checks.{AreNodesPlaced, IsNodePlaced}
use Rattle.node_store.specs.Answers.{AreAlike}
use Rattle.node_store.specs.Copies.{copies_at}
use Rattle.tree_nodes.specs.Levels.{Levels}
use Rattle.vol_types.specs.declared.layout.Layout.{Layout}
use Rattle.vol_types.specs.declared.pointers.NodePtr.{NodePtr}
use Rattle.vol_types.specs.declared.positions.Btree.{Btree}
use Rattle.vol_types.specs.declared.positions.Pos.{Pos}

-- A crash leaves the node's buckets as they are read.
abbrev pub IsLeftAsRead : DevicesState → NodePtr → Type 0
IsLeftAsRead state node = (image : Image) → IsCrashImage (now state) image → AgreeOnNode (as_read (now state)) image node

-- The node stands on every metadata device: there its copies are alike up to this block, and agree behind it; it was born in a session up to this
-- one, and lies where nodes may; and a crash leaves its buckets as they are read.
pub record StandsOnDevices (layout : Layout) (session end : ℕ) (state : DevicesState) (node : NodePtr) : Type 0 where
  pub mirrored : IsMirrored layout node
  pub alike : AreAlike end (copies_at (block_at (as_read (now state))) node.places)
  pub agree : PlacesAgree layout.id (as_read (now state)) node
  pub born : node.birth < (session + 1) * 2 ^ 32
  pub placed : All (IsNodePlaced layout) node.places
  pub left : IsLeftAsRead state node

-- The btrees stand on the devices: what is read there are these btrees under these roots, with this content of their nodes; each node stands on
-- every metadata device, alike up to where its sets end; and no two of them share a bucket.
pub record BtreesStand (layout : Layout) (session : ℕ) (roots : List NodePtr) (trees : List Levels) (content : Btree → Contents) (state : DevicesState) : Type 0 where
  pub stand : StandAsBtrees (sets_in layout (as_read (now state))) roots trees content
  pub each : (btree : Btree) (level : ℕ) (at : Pos) (node : NodePtr) → IsNodeIn (levels_of trees btree) level at node → StandsOnDevices layout session (content btree node).end state node
  pub apart : AreNodesPlaced (flat_map (λ node. node.places) (nodes_of trees)) layout
