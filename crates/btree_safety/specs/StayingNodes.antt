-- What happens to a node's buckets while devices are called: nothing.
use Rattle.std.specs.Prelude.{List, All}
use Rattle.dev_model.specs.Devices.{DevicesState, now}
use Rattle.dev_model.specs.Disk.{Image, IsCrashImage, as_read}
use Rattle.image_view.specs.Bases.{AgreeOnNode}
use Rattle.image_view.specs.Trees.{nodes_of}
use Rattle.tree_nodes.specs.Levels.{Levels}
use Rattle.vol_types.specs.declared.pointers.NodePtr.{NodePtr}

-- The node's buckets stay between two states: they are read as they were, and whatever a crash leaves of them now, one might have left before.
pub record StaysAsRead (old new : DevicesState) (node : NodePtr) : Type 0 where
  pub read : AgreeOnNode (as_read (now old)) (as_read (now new)) node
  pub left : (image : Image) → IsCrashImage (now new) image → (before : Image) × IsCrashImage (now old) before × AgreeOnNode before image node

-- So it is of all nodes of btrees.
abbrev pub StayAsRead : DevicesState → DevicesState → List Levels → Type 0
StayAsRead old new trees = All (StaysAsRead old new) (nodes_of trees)
