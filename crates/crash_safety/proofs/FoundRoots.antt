-- What was found in a volume that is mended leads to nine leaves, where its roots are leaves.
use Rattle.std.proofs.Common.{◌≡◌, ◌*◌, ◌+◌, ◌<◌, ◌≤◌, ◌^◌, List, [], ◌∷◌, length, get_or, Option, Some, Result, Ok, Err, refl, sym, ap, subst, ◌∙◌, arith}
use Rattle.std.proofs.lemmas.List.Elements.{All-append, All-from_recursion, All-head, All-nil, All-tail}
use Rattle.std.proofs.lemmas.Option.{get_or_from_slice_get}
use Rattle.std.specs.List.{AllByRecursion, flat_map}
use Rattle.std.specs.Prelude.{All, Contains, IfSome, slice_get}
use Rattle.dev_model.specs.Devices.{DevicesState, now}
use Rattle.dev_model.specs.Disk.{Image, as_read, block_at}
use Rattle.image_view.specs.BaseLaws.{found-mirrored, found-trees}
use Rattle.image_view.specs.Found.{Found, IsAlike, IsMirrored, PlacesAgree, found, sets_in, updates_of}
use Rattle.image_view.specs.NewNodes.{AreLeafRoots, leaf_trees, root_end, wanted_root}
use Rattle.image_view.specs.Trees.{SetsOf, TreesRead, nodes_of, with_roots}
use Rattle.image_view.specs.UpdatedTrees.{IsOfLeaf, with_key_updates}
use Rattle.journal_ring.specs.declared.found.FoundEntry.{FoundEntry}
use Rattle.key_codec.specs.Combined.{ok_is}
use Rattle.key_meaning.specs.Checks.{AreNodesPlaced, IsNodePlaced}
use Rattle.node_store.specs.Answers.{AreAlike}
use Rattle.node_store.specs.Copies.{copies_at}
use Rattle.node_store.specs.NodeContents.{NodeContent}
use Rattle.record_codec.specs.Entries.{IsEntry}
use Rattle.replay.specs.Mending.{HasMended, IsInOrderOn}
use Rattle.replay.specs.NodeUpdates.{EachUpdate, IsBelowRoot}
use Rattle.replay.specs.Roots.{AreRootsAlike}
use Rattle.vol_types.specs.Btrees.{btree_code}
use Rattle.vol_types.specs.KeyMaps.{IsKeyMap}
use Rattle.vol_types.specs.declared.keys.Update.{Update}
use Rattle.vol_types.specs.declared.layout.Layout.{Layout}
use Rattle.vol_types.specs.declared.pointers.NodePtr.{NodePtr}
use Rattle.vol_types.specs.declared.pointers.Place.{Place}
use Rattle.vol_types.specs.declared.positions.Btree.{Btree}
use Rattle.crash_safety.specs.Leaves.{StandAsLeaves}
use Rattle.crash_safety.specs.Naming.{LeadsToLeaves}
use Rattle.crash_safety.proofs.LeafReads.{IsRead, leaves_read}
use Rattle.crash_safety.proofs.NamedRoots.{LeafTreeLaws}
use Rattle.crash_safety.proofs.NineRoots.{all_at, contained_at, contained_map, each_pair, each_places, root_nodes, root_of, with_root}

-- What is known of trees of leaves, and of what is found.
pub record FoundLaws : Type 0 where
  pub trees : LeafTreeLaws
  pub rises : (layout : Layout) (image : Image) (roots : List NodePtr) (content : Btree → NodeContent) → AreLeafRoots (sets_in layout image) roots content → IsKeyMap (leaf_trees roots content).keys
  pub nine : (image : Image) (f : Found) → found image ≡ Ok f → length f.last.entry.roots ≡ 9
  pub entries : (image : Image) (f : Found) → found image ≡ Ok f → All (λ (e : FoundEntry). IsEntry e.entry) f.needed

-- ---- what the sets come to

abbrev pub content_or : Result NodeContent Place → NodeContent
content_or (Ok content) = content
content_or (Err place) = record { entries = []; end = 0 }

-- what the sets of a btree's root come to
abbrev pub content_of_root : SetsOf → List NodePtr → Btree → NodeContent
content_of_root sets roots btree = content_or (sets (wanted_root btree (get_or roots (btree_code btree) (record { birth = 0; level = 0; places = [] }))))

-- They come to it.
comes_to : (sets : SetsOf) (roots : List NodePtr) → length roots ≡ 9 → AllByRecursion (IsRead sets) (with_roots roots) → (btree : Btree) (root : NodePtr) → slice_get roots (btree_code btree) ≡ Some root → sets (wanted_root btree root) ≡ Ok (content_of_root sets roots btree)
comes_to sets roots nine are btree root at =
    let read : IsRead sets (btree, root) = all_at (IsRead sets) (with_roots roots) (All-from_recursion (IsRead sets) (with_roots roots) are) (btree_code btree) (btree, root) (with_root roots nine btree root at) in
    let here : content_of_root sets roots btree ≡ read.content = ap (λ (r : NodePtr). content_or (sets (wanted_root btree r))) (get_or_from_slice_get roots (btree_code btree) root _ at) ∙ ap content_or read.comes in
    read.comes ∙ ap (λ (c : NodeContent). Ok c) (sym here)

-- ---- the updates

-- An update that isn't above its root, which is a leaf, is of one.
of_leaf : (roots : List NodePtr) → length roots ≡ 9 → All (λ (root : NodePtr). root.level ≡ 0) roots → (update : Update) → IsBelowRoot roots update → update.level ≡ 0
of_leaf roots nine leaves update below =
    let root = root_of roots nine update.btree in
    let leaf : root.0.level ≡ 0 = all_at (λ (r : NodePtr). r.level ≡ 0) roots leaves (btree_code update.btree) root.0 root.1 in
    let least : update.level ≤ root.0.level = subst (λ (o : Option NodePtr). IfSome o (λ (r : NodePtr). update.level ≤ r.level)) root.1 below in
    omega (arith, least, leaf)

updates_of_leaves : (roots : List NodePtr) → length roots ≡ 9 → All (λ (root : NodePtr). root.level ≡ 0) roots → (needed : List FoundEntry) → All (λ (e : FoundEntry). IsEntry e.entry) needed → All (λ (e : FoundEntry). All (IsBelowRoot roots) e.entry.updates) needed
    → All IsOfLeaf (updates_of needed)
updates_of_leaves roots nine leaves [] are below = All-nil IsOfLeaf
updates_of_leaves roots nine leaves (e ∷ es) are below =
    let is = All-head (λ (e : FoundEntry). IsEntry e.entry) e es are in
    let low = All-head (λ (e : FoundEntry). All (IsBelowRoot roots) e.entry.updates) e es below in
    All-append IsOfLeaf e.entry.updates (updates_of es) (λ k d lt. record { level = of_leaf roots nine leaves (get_or e.entry.updates k d) (low k d lt); fits = (is.fits.updates k d lt).pos })
    (updates_of_leaves roots nine leaves es (All-tail (λ (e : FoundEntry). IsEntry e.entry) e es are) (All-tail (λ (e : FoundEntry). All (IsBelowRoot roots) e.entry.updates) e es below))

-- ---- what was found

module _ (laws : FoundLaws) (f : Found) (state : DevicesState) (mended : HasMended f (length f.needed) (now state)) (alike : AreRootsAlike f (as_read (now state))) (leaves : All (λ (root : NodePtr). root.level ≡ 0) f.last.entry.roots) (below : EachUpdate f (IsBelowRoot f.last.entry.roots)) where
  abbrev image : Image
  image = as_read (now state)

  abbrev roots : List NodePtr
  roots = f.last.entry.roots

  abbrev content : Btree → NodeContent
  content = content_of_root (sets_in f.layout image) roots

  on : IsInOrderOn f (now state)
  on = mended.found_on

  nine : length roots ≡ 9
  nine = laws.nine image f on.on.finds

  are_leaves : All IsOfLeaf (updates_of f.needed)
  are_leaves = updates_of_leaves roots nine leaves f.needed (laws.entries image f on.on.finds) below

  leaf_at : (btree : Btree) (root : NodePtr) → slice_get roots (btree_code btree) ≡ Some root → root.level ≡ 0
  leaf_at btree root at = all_at (λ (r : NodePtr). r.level ≡ 0) roots leaves (btree_code btree) root at

  leaf_roots : AreLeafRoots (sets_in f.layout image) roots content
  leaf_roots =
      let read = leaves_read (sets_in f.layout image) (updates_of f.needed) roots f.trees nine (each_pair (λ (pair : Btree × NodePtr). pair.1.level ≡ 0) roots nine leaf_at) (found-trees image f on.on.finds) in
      record { nine = nine; leaves = leaves; each = comes_to (sets_in f.layout image) roots nine read.0; births = read.1 }

  -- They are the leaves with the updates of the needed entries.
  trees_are : f.trees ≡ with_key_updates (updates_of f.needed) (leaf_trees roots content)
  trees_are = ok_is f.trees (with_key_updates (updates_of f.needed) (leaf_trees roots content))
      (sym (found-trees image f on.on.finds) ∙ laws.trees.joined f.layout image [] (updates_of f.needed) roots (leaf_trees roots content) (laws.trees.leaves f.layout image roots content leaf_roots) nine are_leaves)

  nodes_are : nodes_of f.trees.nodes ≡ roots
  nodes_are = ap (λ (t : TreesRead). nodes_of t.nodes) trees_are ∙ root_nodes roots

  -- The end of a root's sets is one that was found.
  has_end : (btree : Btree) (root : NodePtr) → slice_get roots (btree_code btree) ≡ Some root → IsAlike f image root → AreAlike (content btree).end (copies_at (block_at image) root.places)
  has_end btree root at same =
      same (root_end content (btree, root))
      (subst (λ (t : TreesRead). Contains t.ends (root_end content (btree, root))) (sym trees_are)
      (contained_map (root_end content) (with_roots roots) (btree, root) (contained_at (with_roots roots) (btree_code btree) (btree, root) (with_root roots nine btree root at))))
      refl

  stand : StandAsLeaves f.layout f.session roots content state
  stand = record {
    nine = nine;
    each = λ btree root at. record {
      leaf = leaf_at btree root at;
      reads = leaf_roots.each btree root at;
      mirrored = all_at (IsMirrored f.layout) roots (subst (All (IsMirrored f.layout)) nodes_are (found-mirrored image f on.on.finds)) (btree_code btree) root at;
      alike = has_end btree root at (all_at (IsAlike f image) roots alike (btree_code btree) root at);
      agree = all_at (PlacesAgree f.layout.id image) roots (subst (All (PlacesAgree f.layout.id image)) nodes_are on.order.agree.each) (btree_code btree) root at;
      born = all_at (λ (r : NodePtr). r.birth < (f.session + 1) * 2 ^ 32) roots (subst (All (λ (r : NodePtr). r.birth < (f.session + 1) * 2 ^ 32)) nodes_are on.order.births) (btree_code btree) root at;
      placed = each_places (IsNodePlaced f.layout) roots (subst (λ (ns : List NodePtr). All (IsNodePlaced f.layout) (flat_map (λ (r : NodePtr). r.places) ns)) nodes_are on.on.placed.each) (btree_code btree) root at;
      left = λ other may k d lower n few. ap (λ (i : Image). block_at i (get_or root.places k d).dev ((get_or root.places k d).block + n)) (sym (on.on.quiet other may));
    };
    births = leaf_roots.births;
    apart = subst (λ (ns : List NodePtr). AreNodesPlaced (flat_map (λ (r : NodePtr). r.places) ns) f.layout) nodes_are on.on.placed;
  }

  pub roots_lead : LeadsToLeaves f state
  roots_lead = record {
    content = content;
    stand = stand;
    keys = ap (λ (t : TreesRead). t.keys) trees_are;
    updates = are_leaves;
    rises = laws.rises f.layout image roots content leaf_roots;
    nodes = ap (λ (t : TreesRead). t.nodes) trees_are;
  }
