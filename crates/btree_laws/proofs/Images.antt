-- Btrees stand in each image that agrees with one in which they stand on the buckets of their nodes.
use Rattle.std.proofs.Common.{List}
use Rattle.std.specs.Prelude.{All}
use Rattle.std.proofs.lemmas.List.Elements.{recursion_from_All}
use Rattle.birth_index.specs.Births.{levels_of}
use Rattle.dev_model.specs.Disk.{Image}
use Rattle.image_view.specs.BaseLaws.{node-same}
use Rattle.image_view.specs.Bases.{AgreeOnNode}
use Rattle.image_view.specs.Found.{sets_in}
use Rattle.image_view.specs.Trees.{nodes_of}
use Rattle.tree_nodes.specs.Levels.{Levels}
use Rattle.vol_types.specs.Btrees.{btree_code}
use Rattle.vol_types.specs.declared.layout.Layout.{Layout}
use Rattle.vol_types.specs.declared.pointers.NodePtr.{NodePtr}
use Rattle.vol_types.specs.declared.positions.Btree.{Btree}
use Rattle.btree_laws.specs.Standing.{Contents, StandAsBtrees}
use Rattle.btree_laws.proofs.Kept.{of_trees, stands_still}

-- They stand there.
pub stand_still : (layout : Layout) (one other : Image) (roots : List NodePtr) (trees : List Levels) (content : Btree → Contents) → StandAsBtrees (sets_in layout one) roots trees content → All (AgreeOnNode one other) (nodes_of trees) → StandAsBtrees (sets_in layout other) roots trees content
stand_still layout one other roots trees content stand agree = record {
  roots_are = stand.roots_are;
  trees_are = stand.trees_are;
  each = λ btree root is. stands_still (sets_in layout one) (sets_in layout other) btree root (levels_of trees btree) (content btree) (stand.each btree root is)
      (λ level at node there. node-same layout one other node (of_trees (AgreeOnNode one other) trees (btree_code btree) level at node (recursion_from_All (AgreeOnNode one other) (nodes_of trees) agree) there));
  births = stand.births;
}
