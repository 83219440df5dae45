-- A volume each of whose btrees is one leaf, as btrees of any number of levels, where roots are written again.
use Rattle.std.specs.Prelude.{◌≡◌, ◌≢◌, List, map, Contains}
use Rattle.btree_laws.specs.Standing.{AreLeafKeys}
use Rattle.crash_safety.specs.LeafSteps.{PinsAsMuch}
use Rattle.image_view.specs.NewNodes.{wanted_root}
use Rattle.image_view.specs.Trees.{all_btrees}
use Rattle.vol_types.specs.Positions.{greatest_pos, least_pos}
use Rattle.vol_types.specs.declared.pointers.NodePtr.{NodePtr}
use Rattle.vol_types.specs.declared.positions.Btree.{Btree}
use Rattle.btree_safety.specs.CheckpointBtrees.{Btrees, FreshNode}
use Rattle.btree_safety.specs.FreshNodes.{content_of_set}
use Rattle.btree_safety.specs.KeptKeys.{Pins}

-- the roots, in the order of their btrees' numbers
abbrev pub in_order : (Btree → NodePtr) → List NodePtr
in_order root = map root all_btrees

-- The root of a btree stays, and pins as much as it did.
pub record IsRootKept (b : Btrees) (root fresh : Btree → NodePtr) (pin : Pins) (btree : Btree) : Type 0 where
  pub same : fresh btree ≡ root btree
  pub pins : PinsAsMuch (b.pin (fresh btree).birth) (pin (fresh btree).birth)

-- The new root of a btree is a leaf that was written: its set has keys of a leaf, its birth is that of no old root and of no other new one, and it
-- pins what it lacks.
pub record IsRootWritten (b : Btrees) (root fresh : Btree → NodePtr) (pin : Pins) (btree : Btree) : Type 0 where
  pub node : FreshNode
  pub one : Contains b.fresh node
  pub wanted : node.wanted ≡ wanted_root btree (fresh btree)
  pub keys : AreLeafKeys least_pos greatest_pos (content_of_set node.set).entries
  pub unused : (other : Btree) → (root other).birth ≢ (fresh btree).birth
  pub own : (other : Btree) → (fresh other).birth ≡ (fresh btree).birth → other ≡ btree
  pub pins : PinsAsMuch node.later (pin (fresh btree).birth)

-- The node is a root to whose btree another one was given.
pub record IsReplaced (root fresh : Btree → NodePtr) (node : NodePtr) : Type 0 where
  pub btree : Btree
  pub is : node ≡ root btree
  pub other : fresh btree ≢ root btree
