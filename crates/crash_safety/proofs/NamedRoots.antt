-- An entry that names nine leaves may be put in flight.
use Rattle.std.proofs.Common.{◌≡◌, ℕ, ◌*◌, ◌+◌, ◌<◌, ◌^◌, List, [], ◌∷◌, ◌++◌, length, map, take, drop, None, Some, Ok, sym, ap, subst, ◌∙◌}
use Rattle.std.proofs.lemmas.List.{append-nil, take-append-drop}
use Rattle.std.proofs.lemmas.List.Elements.{All-append, All-contains, All-from_recursion}
use Rattle.std.proofs.lemmas.Option.{same_Some}
use Rattle.std.specs.List.{flat_map}
use Rattle.std.specs.Prelude.{All, slice_get}
use Rattle.dev_model.specs.Devices.{DevicesState, now}
use Rattle.dev_model.specs.Disk.{Image, as_read, block_at}
use Rattle.image_view.specs.Bases.{AgreeOnNode}
use Rattle.image_view.specs.EntryUpdates.{updates_of-append}
use Rattle.image_view.specs.Found.{Found, IsAlike, IsMirrored, PlacesAgree, sets_in, updates_of}
use Rattle.image_view.specs.NewNodes.{AreLeafRoots, AreNodesInOrder, leaf_trees, root_end}
use Rattle.image_view.specs.NextEntries.{IsNext}
use Rattle.image_view.specs.Trees.{TreesRead, nodes_of, trees_of, with_roots}
use Rattle.image_view.specs.UpdatedTrees.{IsOfLeaf, with_key_updates}
use Rattle.journal_ring.specs.EntryBlocks.{AreEntryBlocks}
use Rattle.journal_ring.specs.declared.found.FoundEntry.{FoundEntry}
use Rattle.crash_safety.specs.JournalLaws.{JournalLaws}
use Rattle.crash_safety.specs.Safety.{IsJournalSafe}
use Rattle.crash_safety.specs.Standing.{AreNodesLeft}
use Rattle.crash_safety.specs.Writings.{IsWriting, Writing, after}
use Rattle.key_meaning.specs.Checks.{AreNodesPlaced}
use Rattle.node_store.specs.Answers.{AreAlike}
use Rattle.node_store.specs.Copies.{copies_at}
use Rattle.node_store.specs.NodeContents.{NodeContent}
use Rattle.vol_types.specs.Btrees.{btree_code}
use Rattle.vol_types.specs.KeyMapLaws.{same_key_maps, with_updates-append}
use Rattle.vol_types.specs.KeyMaps.{KeyMap, entries_of, with_updates}
use Rattle.vol_types.specs.declared.keys.Update.{Update}
use Rattle.vol_types.specs.declared.layout.Layout.{Layout}
use Rattle.vol_types.specs.declared.pointers.NodeEnd.{NodeEnd}
use Rattle.vol_types.specs.declared.pointers.NodePtr.{NodePtr}
use Rattle.vol_types.specs.declared.positions.Btree.{Btree}
use Rattle.crash_safety.specs.Leaves.{StandAsLeaves, leaf_keys, leaf_nodes}
use Rattle.crash_safety.specs.Naming.{leaf_writing}
use Rattle.crash_safety.proofs.NineRoots.{all_right, each_pair, each_root, made_of_one, root_nodes}

-- What is known of trees of leaves.
pub record LeafTreeLaws : Type 0 where
  pub leaves : (layout : Layout) (image : Image) (roots : List NodePtr) (content : Btree → NodeContent) → AreLeafRoots (sets_in layout image) roots content → trees_of (sets_in layout image) [] roots ≡ Ok (leaf_trees roots content)
  pub joined : (layout : Layout) (image : Image) (updates more : List Update) (roots : List NodePtr) (read : TreesRead) → trees_of (sets_in layout image) updates roots ≡ Ok read → length roots ≡ 9 → All IsOfLeaf more
      → trees_of (sets_in layout image) (updates ++ more) roots ≡ Ok (with_key_updates more read)

-- Roots that stand as leaves are leaves of what is read.
pub leaf_roots : (layout : Layout) (session : ℕ) (roots : List NodePtr) (content : Btree → NodeContent) (state : DevicesState) → StandAsLeaves layout session roots content state → AreLeafRoots (sets_in layout (as_read (now state))) roots content
leaf_roots layout session roots content state stand = record {
  nine = stand.nine;
  leaves = each_root (λ (root : NodePtr). root.level ≡ 0) roots stand.nine (λ btree root at. (stand.each btree root at).leaf);
  each = λ btree root at. (stand.each btree root at).reads;
  births = stand.births;
}

-- the updates of the entries that are still needed, and of the next one
next_updates : (passed : ℕ) (needed : List FoundEntry) (next : FoundEntry) → updates_of (drop passed needed ++ next ∷ []) ≡ updates_of (drop passed needed) ++ next.entry.updates
next_updates passed needed next = updates_of-append (drop passed needed) (next ∷ []) ∙ ap (λ (us : List Update). updates_of (drop passed needed) ++ us) (append-nil next.entry.updates)

-- They are of leaves.
next_of_leaves : (passed : ℕ) (needed : List FoundEntry) (next : FoundEntry) → All IsOfLeaf (updates_of needed) → All IsOfLeaf next.entry.updates → All IsOfLeaf (updates_of (drop passed needed ++ next ∷ []))
next_of_leaves passed needed next leaves more =
    let split : updates_of needed ≡ updates_of (take passed needed) ++ updates_of (drop passed needed) = ap updates_of (sym (take-append-drop passed needed)) ∙ updates_of-append (take passed needed) (drop passed needed) in
    subst (All IsOfLeaf) (sym (next_updates passed needed next))
    (All-append IsOfLeaf (updates_of (drop passed needed)) next.entry.updates (all_right IsOfLeaf (updates_of (take passed needed)) (updates_of (drop passed needed)) (subst (All IsOfLeaf) split leaves)) more)

module _ (f : Found) (state : DevicesState) (roots : List NodePtr) (content : Btree → NodeContent) (passed : ℕ) (next : FoundEntry) (blocks : List (List ℕ)) (stand : StandAsLeaves f.layout f.session roots content state) where
  abbrev image : Image
  image = as_read (now state)

  abbrev w : Writing
  w = leaf_writing f roots content passed next blocks

  -- The trees of the entry are the leaves with its updates.
  trees_are : LeafTreeLaws → next.entry.roots ≡ roots → All IsOfLeaf (updates_of f.needed) → All IsOfLeaf next.entry.updates
      → ((btree : Btree) → entries_of (with_updates (updates_of (drop passed f.needed)) (leaf_keys content)) btree ≡ entries_of f.trees.keys btree)
      → trees_of (sets_in f.layout image) (updates_of (drop passed f.needed ++ next ∷ [])) next.entry.roots ≡ Ok w.trees
  trees_are laws named leaves more same =
      let updates : List Update = updates_of (drop passed f.needed ++ next ∷ []) in
      let keys : with_updates updates (leaf_keys content) ≡ with_updates next.entry.updates f.trees.keys =
      ap (λ (us : List Update). with_updates us (leaf_keys content)) (next_updates passed f.needed next)
      ∙ with_updates-append (updates_of (drop passed f.needed)) next.entry.updates (leaf_keys content)
      ∙ ap (with_updates next.entry.updates) (same_key_maps (with_updates (updates_of (drop passed f.needed)) (leaf_keys content)) f.trees.keys same) in
      ap (trees_of (sets_in f.layout image) updates) named
      ∙ laws.joined f.layout image [] updates roots (leaf_trees roots content) (laws.leaves f.layout image roots content (leaf_roots f.layout f.session roots content state stand)) stand.nine (next_of_leaves passed f.needed next leaves more)
      ∙ ap (λ (ks : KeyMap). Ok (record { keys = ks; nodes = leaf_nodes roots; ends = map (root_end content) (with_roots roots) })) keys

  -- Each of them has the same sets on every metadata device.
  alike_at : (btree : Btree) (root : NodePtr) → slice_get roots (btree_code btree) ≡ Some root → IsAlike (after w f) image root
  alike_at btree root at end found birth =
      let IsAtCode : Btree × NodePtr → Type 0 = λ pair. slice_get roots (btree_code pair.0) ≡ Some pair.1 in
      let made = made_of_one (root_end content) (with_roots roots) end found in
      let pair : Btree × NodePtr = made.0 in
      let there : slice_get roots (btree_code pair.0) ≡ Some pair.1 =
      All-contains IsAtCode (with_roots roots) pair (All-from_recursion IsAtCode (with_roots roots) (each_pair IsAtCode roots stand.nine (λ b r here. here))) made.1 in
      let born : root.birth ≡ pair.1.birth = sym birth ∙ sym (ap (λ (e : NodeEnd). e.birth) made.2) in
      let place : btree_code btree ≡ btree_code pair.0 = stand.births (btree_code btree) (btree_code pair.0) root pair.1 at there born in
      let same : pair.1 ≡ root = same_Some pair.1 root (sym there ∙ ap (slice_get roots) (sym place) ∙ at) in
      subst (λ (e : NodeEnd). AreAlike e.block (copies_at (block_at image) root.places)) made.2
      (subst (λ (r : NodePtr). AreAlike (content pair.0).end (copies_at (block_at image) r.places)) same (stand.each pair.0 pair.1 there).alike)

  pub roots_alike : All (IsAlike (after w f) image) (nodes_of w.trees.nodes)
  roots_alike = subst (All (IsAlike (after w f) image)) (sym (root_nodes roots)) (each_root (IsAlike (after w f) image) roots stand.nine alike_at)

  in_order : AreNodesInOrder (after w f) image
  in_order = record {
    places = subst (All (IsMirrored f.layout)) (sym (root_nodes roots)) (each_root (IsMirrored f.layout) roots stand.nine (λ btree root at. (stand.each btree root at).mirrored));
    agree = record { each = subst (All (PlacesAgree f.layout.id image)) (sym (root_nodes roots)) (each_root (PlacesAgree f.layout.id image) roots stand.nine (λ btree root at. (stand.each btree root at).agree)) };
    births = subst (All (λ (root : NodePtr). root.birth < (f.session + 1) * 2 ^ 32)) (sym (root_nodes roots))
        (each_root (λ (root : NodePtr). root.birth < (f.session + 1) * 2 ^ 32) roots stand.nine (λ btree root at. (stand.each btree root at).born));
  }

  pub writing_is : LeafTreeLaws → IsNext f passed next → AreEntryBlocks f.layout.id next.number next.entry blocks → next.entry.roots ≡ roots → All IsOfLeaf (updates_of f.needed) → All IsOfLeaf next.entry.updates
      → ((btree : Btree) → entries_of (with_updates (updates_of (drop passed f.needed)) (leaf_keys content)) btree ≡ entries_of f.trees.keys btree) → IsWriting f image w
  writing_is laws is sealed named leaves more same = record {
    next = is;
    sealed = sealed;
    trees = trees_are laws named leaves more same;
    in_order = in_order;
    placed = subst (λ (ns : List NodePtr). AreNodesPlaced (flat_map (λ (root : NodePtr). root.places) ns) f.layout) (sym (root_nodes roots)) stand.apart;
  }

  -- A crash leaves them.
  pub roots_left : (bases : List Found) (durable : List ℕ) (first : ℕ) → IsJournalSafe f image None 0 0 bases durable first state → AreNodesLeft f image (Some w) state
  roots_left bases durable first safe other may =
      let base = (safe.stands.crashes other may).base in
      record {
        lengths = base.lengths;
        first_copies = base.first_copies;
        second_copies = base.second_copies;
        nodes = subst (All (AgreeOnNode image other)) (sym (root_nodes roots)) (each_root (AgreeOnNode image other) roots stand.nine (λ btree root at. (stand.each btree root at).left other may));
      }

-- So the entry is put in flight.
pub roots_named : LeafTreeLaws → JournalLaws → (f : Found) (image : Image) (bases : List Found) (durable : List ℕ) (first : ℕ) (state : DevicesState) (roots : List NodePtr) (content : Btree → NodeContent) (passed : ℕ) (next : FoundEntry) (blocks : List (List ℕ))
    → IsJournalSafe f image None 0 0 bases durable first state → StandAsLeaves f.layout f.session roots content state → IsNext f passed next → AreEntryBlocks f.layout.id next.number next.entry blocks → next.entry.roots ≡ roots
    → All IsOfLeaf (updates_of f.needed) → All IsOfLeaf next.entry.updates → ((btree : Btree) → entries_of (with_updates (updates_of (drop passed f.needed)) (leaf_keys content)) btree ≡ entries_of f.trees.keys btree)
    → IsJournalSafe f (as_read (now state)) (Some (leaf_writing f roots content passed next blocks)) 0 0 (bases ++ after (leaf_writing f roots content passed next blocks) f ∷ []) durable first state
roots_named trees journals f image bases durable first state roots content passed next blocks safe stand is sealed named leaves more same =
    let here = journals.again f image bases durable first state safe in
    journals.seals f (as_read (now state)) bases durable first state (leaf_writing f roots content passed next blocks) here
    (writing_is f state roots content passed next blocks stand trees is sealed named leaves more same)
    (roots_alike f state roots content passed next blocks stand)
    (roots_left f state roots content passed next blocks stand bases durable first here)
