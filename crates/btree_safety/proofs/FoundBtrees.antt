-- Btrees that were found where nothing is pending stand on the devices, where their nodes are alike.
use Rattle.std.proofs.Common.{◌≡◌, ◌+◌, ◌*◌, ◌<◌, ◌^◌, List, [], ◌∷◌, Ok, get_or, refl, sym, ap, subst}
use Rattle.std.specs.Prelude.{All, Contains}
use Rattle.std.specs.List.{flat_map}
use Rattle.std.proofs.lemmas.List.Elements.{All-cons, All-nil}
use Rattle.dev_model.specs.Devices.{DevicesState, now}
use Rattle.dev_model.specs.Disk.{Image, as_read, block_at}
use Rattle.image_view.specs.BaseLaws.{found-mirrored}
use Rattle.image_view.specs.Found.{Found, IsAlike, IsMirrored, PlacesAgree, found, sets_in, updates_of}
use Rattle.image_view.specs.Trees.{TreesRead, nodes_of}
use Rattle.image_view.specs.UpdatedTrees.{IsOfLeaf, with_key_updates}
use Rattle.key_meaning.specs.Checks.{IsNodePlaced}
use Rattle.replay.specs.Mending.{IsInOrderOn}
use Rattle.vol_types.specs.KeyMaps.{with_updates}
use Rattle.vol_types.specs.declared.pointers.NodePtr.{NodePtr}
use Rattle.vol_types.specs.declared.pointers.Place.{Place}
use Rattle.vol_types.specs.declared.positions.Btree.{Btree}
use Rattle.btree_laws.specs.HeldContents.{held_in}
use Rattle.btree_laws.specs.Standing.{Contents, StandAsBtrees, keys_in_leaves, reads_of}
use Rattle.btree_safety.specs.StandingNodes.{BtreesStand}
use Rattle.btree_safety.proofs.AllNodes.{All-left, All-right, end_of, has_end, of_trees}

-- What was found in an image stands there, and it is that with the updates of the needed entries.
abbrev pub FoundLaw : Type 0
FoundLaw = (image : Image) (f : Found) → found image ≡ Ok f → All IsOfLeaf (updates_of f.needed)
    → StandAsBtrees (sets_in f.layout image) f.last.entry.roots f.trees.nodes (λ btree. held_in f.layout image) × (f.trees ≡ with_key_updates (updates_of f.needed) (reads_of (λ btree. held_in f.layout image) f.trees.nodes))

-- What holds of all places of nodes holds of those of each.
each_places : (P : Place → Type 0) (nodes : List NodePtr) → All P (flat_map (λ (node : NodePtr). node.places) nodes) → All (λ (node : NodePtr). All P node.places) nodes
each_places P [] all = All-nil (λ (node : NodePtr). All P node.places)
each_places P (node ∷ nodes) all =
    All-cons (λ (n : NodePtr). All P n.places) node nodes (All-left P node.places (flat_map (λ (n : NodePtr). n.places) nodes) all) (each_places P nodes (All-right P node.places (flat_map (λ (n : NodePtr). n.places) nodes) all))

module _ (law : FoundLaw) (f : Found) (state : DevicesState) (on : IsInOrderOn f (now state)) (leaves : All IsOfLeaf (updates_of f.needed)) where
  abbrev image : Image
  image = as_read (now state)

  abbrev content : Btree → Contents
  content btree = held_in f.layout image

  found_is : StandAsBtrees (sets_in f.layout image) f.last.entry.roots f.trees.nodes content × (f.trees ≡ with_key_updates (updates_of f.needed) (reads_of content f.trees.nodes))
  found_is = law image f on.on.finds leaves

  pub found_keys : f.trees.keys ≡ with_updates (updates_of f.needed) (keys_in_leaves content f.trees.nodes)
  found_keys = ap (λ (t : TreesRead). t.keys) found_is.1

  pub found_stand : All (IsAlike f image) (nodes_of f.trees.nodes) → BtreesStand f.layout f.session f.last.entry.roots f.trees.nodes content state
  found_stand alike = record {
    stand = found_is.0;
    each = λ btree level at node is. record {
      mirrored = of_trees (IsMirrored f.layout) f.trees.nodes (found-mirrored image f on.on.finds) btree level at node is;
      alike = of_trees (IsAlike f image) f.trees.nodes alike btree level at node is (end_of (content btree) node)
          (subst (λ (t : TreesRead). Contains t.ends (end_of (content btree) node)) (sym found_is.1) (has_end f.trees.nodes content btree level at node is)) refl;
      agree = of_trees (PlacesAgree f.layout.id image) f.trees.nodes on.order.agree.each btree level at node is;
      born = of_trees (λ (n : NodePtr). n.birth < (f.session + 1) * 2 ^ 32) f.trees.nodes on.order.births btree level at node is;
      placed = of_trees (λ (n : NodePtr). All (IsNodePlaced f.layout) n.places) f.trees.nodes (each_places (IsNodePlaced f.layout) (nodes_of f.trees.nodes) on.on.placed.each) btree level at node is;
      left = λ other may k d lower n few. ap (λ (i : Image). block_at i (get_or node.places k d).dev ((get_or node.places k d).block + n)) (sym (on.on.quiet other may));
    };
    apart = on.on.placed;
  }
