-- Btrees stand on the devices still where the buckets of all their nodes stay.
use Rattle.std.proofs.Common.{ℕ, List}
use Rattle.std.specs.Prelude.{All}
use Rattle.std.proofs.lemmas.List.Elements.{All-weaker}
use Rattle.dev_model.specs.Devices.{DevicesState, now}
use Rattle.dev_model.specs.Disk.{Image, as_read}
use Rattle.image_view.specs.Bases.{AgreeOnNode}
use Rattle.image_view.specs.Found.{sets_in}
use Rattle.image_view.specs.Trees.{nodes_of}
use Rattle.key_meaning.specs.Checks.{IsNodePlaced}
use Rattle.tree_nodes.specs.Levels.{Levels}
use Rattle.vol_types.specs.declared.layout.Layout.{Layout}
use Rattle.vol_types.specs.declared.pointers.NodePtr.{NodePtr}
use Rattle.vol_types.specs.declared.positions.Btree.{Btree}
use Rattle.btree_laws.specs.Standing.{Contents, StandAsBtrees}
use Rattle.btree_safety.specs.StandingNodes.{BtreesStand}
use Rattle.btree_safety.specs.StayingNodes.{StayAsRead, StaysAsRead}
use Rattle.btree_safety.proofs.AllNodes.{each_node, of_trees}
use Rattle.btree_safety.proofs.StayingNodes.{node_stays}

-- Btrees stand in each image that agrees on the buckets of their nodes.
abbrev pub StayLaw : Type 0
StayLaw = (layout : Layout) (one other : Image) (roots : List NodePtr) (trees : List Levels) (content : Btree → Contents) → StandAsBtrees (sets_in layout one) roots trees content → All (AgreeOnNode one other) (nodes_of trees) → StandAsBtrees (sets_in layout other) roots trees content

pub btrees_stay : StayLaw → (layout : Layout) (session : ℕ) (roots : List NodePtr) (trees : List Levels) (content : Btree → Contents) (old new : DevicesState) → StayAsRead old new trees → BtreesStand layout session roots trees content old → BtreesStand layout session roots trees content new
btrees_stay law layout session roots trees content old new stay stands = record {
  stand = law layout (as_read (now old)) (as_read (now new)) roots trees content stands.stand (All-weaker (StaysAsRead old new) (AgreeOnNode (as_read (now old)) (as_read (now new))) (λ node stays. stays.read) (nodes_of trees) stay);
  each = λ btree level at node is. node_stays layout session (content btree node).end old new node (of_trees (StaysAsRead old new) trees stay btree level at node is) (stands.each btree level at node is);
  apart = stands.apart;
}

-- What holds of each node that stands where nodes may holds of all nodes of btrees that stand.
pub all_stay : (layout : Layout) (session : ℕ) (roots : List NodePtr) (trees : List Levels) (content : Btree → Contents) (old new : DevicesState) → BtreesStand layout session roots trees content old
    → ((node : NodePtr) → All (IsNodePlaced layout) node.places → StaysAsRead old new node) → StayAsRead old new trees
all_stay layout session roots trees content old new stands so = each_node (sets_in layout (as_read (now old))) roots trees content stands.stand (StaysAsRead old new) (λ btree level at node is. so node (stands.each btree level at node is).placed)
