-- The nodes of a next entry are in order where each is one that was found or one that was written whole, and images that agree on the base
-- and on the new nodes agree on all of them.
use Rattle.std.proofs.Common.{◌≡◌, ◌⊎◌, ⊎_elim, ℕ, ◌+◌, ◌*◌, ◌<◌, ◌^◌, Ok}
use Rattle.std.proofs.lemmas.List.Elements.{All-contains, All-weaker}
use Rattle.std.specs.Prelude.{All, Contains}
use Rattle.dev_model.specs.Disk.{Image}
use Rattle.journal_ring.specs.declared.found.FoundEntry.{FoundEntry}
use Rattle.vol_types.specs.declared.pointers.NodePtr.{NodePtr}
use Rattle.image_view.specs.BaseLaws.{found-mirrored}
use Rattle.image_view.specs.Bases.{AgreeOnBase, AgreeOnNode, AgreeOnNodes}
use Rattle.image_view.specs.CopyLaws.{copies_agree}
use Rattle.image_view.specs.Found.{Found, IsInOrder, IsMirrored, PlacesAgree, found}
use Rattle.image_view.specs.NewNodes.{AreNodesInOrder, IsKeptNode, IsNewNode}
use Rattle.image_view.specs.NextEntries.{with_entry}
use Rattle.image_view.specs.Trees.{TreesRead, nodes_of}

-- Nodes are in order, each of which is kept or new.
pub each_in_order : (image : Image) (f : Found) (passed : ℕ) (next : FoundEntry) (trees : TreesRead) → found image ≡ Ok f → IsInOrder f image → All (λ node. IsKeptNode f trees node ⊎ IsNewNode f image node) (nodes_of trees.nodes) → AreNodesInOrder (with_entry passed next trees f) image
each_in_order image f passed next trees is_found order each = record {
  places = All-weaker (λ node. IsKeptNode f trees node ⊎ IsNewNode f image node) (IsMirrored f.layout)
      (λ node is. ⊎_elim (λ (kept : IsKeptNode f trees node). All-contains (IsMirrored f.layout) (nodes_of f.trees.nodes) node (found-mirrored image f is_found) kept.found) (λ (new : IsNewNode f image node). new.mirrored) is) (nodes_of trees.nodes) each;
  agree = record {
    each = All-weaker (λ node. IsKeptNode f trees node ⊎ IsNewNode f image node) (PlacesAgree f.layout.id image)
        (λ node is. ⊎_elim
        (λ (kept : IsKeptNode f trees node). All-contains (PlacesAgree f.layout.id image) (nodes_of f.trees.nodes) node order.agree.each kept.found)
        (λ (new : IsNewNode f image node). copies_agree f.layout.id image node new.same)
        is) (nodes_of trees.nodes) each;
  };
  births = All-weaker (λ node. IsKeptNode f trees node ⊎ IsNewNode f image node) (λ (node : NodePtr). node.birth < (f.session + 1) * 2 ^ 32)
      (λ node is. ⊎_elim
      (λ (kept : IsKeptNode f trees node). All-contains (λ (node : NodePtr). node.birth < (f.session + 1) * 2 ^ 32) (nodes_of f.trees.nodes) node order.births kept.found)
      (λ (new : IsNewNode f image node). new.born)
      is) (nodes_of trees.nodes) each;
}

-- Images that agree on the base and on each node that wasn't found agree on all nodes.
pub each_agrees : (one other : Image) (f : Found) (passed : ℕ) (next : FoundEntry) (trees : TreesRead) → AgreeOnBase f one other → All (λ node. Contains (nodes_of f.trees.nodes) node ⊎ AgreeOnNode one other node) (nodes_of trees.nodes)
    → AgreeOnNodes (with_entry passed next trees f) one other
each_agrees one other f passed next trees agree each = record {
  lengths = agree.lengths;
  first_copies = agree.first_copies;
  second_copies = agree.second_copies;
  nodes = All-weaker (λ node. Contains (nodes_of f.trees.nodes) node ⊎ AgreeOnNode one other node) (AgreeOnNode one other)
      (λ node is. ⊎_elim (λ (kept : Contains (nodes_of f.trees.nodes) node). All-contains (AgreeOnNode one other) (nodes_of f.trees.nodes) node agree.nodes kept) (λ (new : AgreeOnNode one other node). new) is) (nodes_of trees.nodes) each;
}
