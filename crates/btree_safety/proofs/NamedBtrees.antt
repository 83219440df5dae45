-- An entry that names the roots of btrees that stand on the devices may be put in flight.
use Rattle.std.proofs.Common.{◌≡◌, ℕ, ◌*◌, ◌+◌, ◌<◌, ◌^◌, List, [], ◌∷◌, ◌++◌, take, drop, None, Some, Ok, sym, ap, subst, ◌∙◌}
use Rattle.std.specs.Prelude.{All}
use Rattle.std.proofs.lemmas.List.{append-nil, take-append-drop}
use Rattle.std.proofs.lemmas.List.Elements.{All-append}
use Rattle.birth_index.specs.Births.{levels_of}
use Rattle.dev_model.specs.Devices.{DevicesState, now}
use Rattle.dev_model.specs.Disk.{Image, as_read, block_at}
use Rattle.image_view.specs.Bases.{AgreeOnNode}
use Rattle.image_view.specs.EntryUpdates.{updates_of-append}
use Rattle.image_view.specs.Found.{Found, IsAlike, IsMirrored, PlacesAgree, sets_in, updates_of}
use Rattle.image_view.specs.NewNodes.{AreNodesInOrder}
use Rattle.image_view.specs.NextEntries.{IsNext}
use Rattle.image_view.specs.Trees.{TreesRead, nodes_of, trees_of}
use Rattle.image_view.specs.UpdatedTrees.{IsOfLeaf, with_key_updates}
use Rattle.journal_ring.specs.EntryBlocks.{AreEntryBlocks}
use Rattle.journal_ring.specs.declared.found.FoundEntry.{FoundEntry}
use Rattle.node_store.specs.Answers.{AreAlike}
use Rattle.node_store.specs.Copies.{copies_at}
use Rattle.tree_nodes.specs.Levels.{Levels}
use Rattle.vol_types.specs.KeyMapLaws.{with_updates-append}
use Rattle.vol_types.specs.KeyMaps.{KeyMap, with_updates}
use Rattle.vol_types.specs.declared.keys.Update.{Update}
use Rattle.vol_types.specs.declared.layout.Layout.{Layout}
use Rattle.vol_types.specs.declared.pointers.NodeEnd.{NodeEnd}
use Rattle.vol_types.specs.declared.pointers.NodePtr.{NodePtr}
use Rattle.vol_types.specs.declared.positions.Btree.{Btree}
use Rattle.vol_types.specs.declared.positions.Pos.{Pos}
use Rattle.btree_laws.specs.Standing.{Contents, IsNodeIn, StandAsBtrees, keys_in_leaves, reads_of}
use Rattle.crash_safety.specs.JournalLaws.{JournalLaws}
use Rattle.crash_safety.specs.Safety.{IsJournalSafe}
use Rattle.crash_safety.specs.Standing.{AreNodesLeft}
use Rattle.crash_safety.specs.Writings.{IsWriting, Writing, after}
use Rattle.btree_safety.specs.NextBtrees.{writing_of_btrees}
use Rattle.btree_safety.specs.StandingNodes.{BtreesStand}
use Rattle.btree_safety.proofs.AllNodes.{All-right, each_node, own_end}

-- What is read of btrees that stand, with updates of leaves.
abbrev pub UpdatedLaw : Type 0
UpdatedLaw = (layout : Layout) (image : Image) (roots : List NodePtr) (trees : List Levels) (content : Btree → Contents) (updates : List Update) → StandAsBtrees (sets_in layout image) roots trees content → All IsOfLeaf updates
    → trees_of (sets_in layout image) updates roots ≡ Ok (with_key_updates updates (reads_of content trees))

-- the updates of the entries that are still needed, and of the next one
next_updates : (passed : ℕ) (needed : List FoundEntry) (next : FoundEntry) → updates_of (drop passed needed ++ next ∷ []) ≡ updates_of (drop passed needed) ++ next.entry.updates
next_updates passed needed next = updates_of-append (drop passed needed) (next ∷ []) ∙ ap (λ (us : List Update). updates_of (drop passed needed) ++ us) (append-nil next.entry.updates)

-- They are of leaves.
pub next_of_leaves : (passed : ℕ) (needed : List FoundEntry) (next : FoundEntry) → All IsOfLeaf (updates_of needed) → All IsOfLeaf next.entry.updates → All IsOfLeaf (updates_of (drop passed needed ++ next ∷ []))
next_of_leaves passed needed next leaves more =
    let split : updates_of needed ≡ updates_of (take passed needed) ++ updates_of (drop passed needed) = ap updates_of (sym (take-append-drop passed needed)) ∙ updates_of-append (take passed needed) (drop passed needed) in
    subst (All IsOfLeaf) (sym (next_updates passed needed next))
    (All-append IsOfLeaf (updates_of (drop passed needed)) next.entry.updates (All-right IsOfLeaf (updates_of (take passed needed)) (updates_of (drop passed needed)) (subst (All IsOfLeaf) split leaves)) more)

module _ (f : Found) (state : DevicesState) (roots : List NodePtr) (trees : List Levels) (content : Btree → Contents) (passed : ℕ) (next : FoundEntry) (blocks : List (List ℕ)) (stands : BtreesStand f.layout f.session roots trees content state) where
  abbrev image : Image
  image = as_read (now state)

  abbrev w : Writing
  w = writing_of_btrees f trees content passed next blocks

  -- What is so of each node that stands is so of all nodes of the entry.
  all : (P : NodePtr → Type 0) → ((btree : Btree) (level : ℕ) (at : Pos) (node : NodePtr) → IsNodeIn (levels_of trees btree) level at node → P node) → All P (nodes_of trees)
  all P so = each_node (sets_in f.layout image) roots trees content stands.stand P so

  trees_are : UpdatedLaw → next.entry.roots ≡ roots → All IsOfLeaf (updates_of f.needed) → All IsOfLeaf next.entry.updates → with_updates (updates_of (drop passed f.needed)) (keys_in_leaves content trees) ≡ f.trees.keys
      → trees_of (sets_in f.layout image) (updates_of (drop passed f.needed ++ next ∷ [])) next.entry.roots ≡ Ok w.trees
  trees_are law named leaves more same =
      let updates : List Update = updates_of (drop passed f.needed ++ next ∷ []) in
      let read : TreesRead = reads_of content trees in
      let keys : with_updates updates (keys_in_leaves content trees) ≡ with_updates next.entry.updates f.trees.keys =
      ap (λ (us : List Update). with_updates us (keys_in_leaves content trees)) (next_updates passed f.needed next)
      ∙ with_updates-append (updates_of (drop passed f.needed)) next.entry.updates (keys_in_leaves content trees)
      ∙ ap (with_updates next.entry.updates) same in
      ap (trees_of (sets_in f.layout image) updates) named
      ∙ law f.layout image roots trees content updates stands.stand (next_of_leaves passed f.needed next leaves more)
      ∙ ap (λ (ks : KeyMap). Ok (record { keys = ks; nodes = read.nodes; ends = read.ends })) keys

  pub nodes_alike : All (IsAlike (after w f) image) (nodes_of w.trees.nodes)
  nodes_alike = all (IsAlike (after w f) image) (λ btree level at node is end there birth.
      subst (λ (e : NodeEnd). AreAlike e.block (copies_at (block_at image) node.places)) (sym (own_end (sets_in f.layout image) roots trees content stands.stand btree level at node is end there birth)) (stands.each btree level at node is).alike)

  in_order : AreNodesInOrder (after w f) image
  in_order = record {
    places = all (IsMirrored f.layout) (λ btree level at node is. (stands.each btree level at node is).mirrored);
    agree = record { each = all (PlacesAgree f.layout.id image) (λ btree level at node is. (stands.each btree level at node is).agree) };
    births = all (λ (node : NodePtr). node.birth < (f.session + 1) * 2 ^ 32) (λ btree level at node is. (stands.each btree level at node is).born);
  }

  pub writing_is : UpdatedLaw → IsNext f passed next → AreEntryBlocks f.layout.id next.number next.entry blocks → next.entry.roots ≡ roots → All IsOfLeaf (updates_of f.needed) → All IsOfLeaf next.entry.updates
      → with_updates (updates_of (drop passed f.needed)) (keys_in_leaves content trees) ≡ f.trees.keys → IsWriting f image w
  writing_is law is sealed named leaves more same = record { next = is; sealed = sealed; trees = trees_are law named leaves more same; in_order = in_order; placed = stands.apart }

  -- A crash leaves them.
  pub nodes_left : (bases : List Found) (durable : List ℕ) (first : ℕ) → IsJournalSafe f image None 0 0 bases durable first state → AreNodesLeft f image (Some w) state
  nodes_left bases durable first safe other may =
      let base = (safe.stands.crashes other may).base in
      record {
        lengths = base.lengths;
        first_copies = base.first_copies;
        second_copies = base.second_copies;
        nodes = all (AgreeOnNode image other) (λ btree level at node is. (stands.each btree level at node is).left other may);
      }

-- So the entry is put in flight.
pub btrees_named : UpdatedLaw → JournalLaws → (f : Found) (image : Image) (bases : List Found) (durable : List ℕ) (first : ℕ) (state : DevicesState) (roots : List NodePtr) (trees : List Levels) (content : Btree → Contents) (passed : ℕ) (next : FoundEntry) (blocks : List (List ℕ))
    → IsJournalSafe f image None 0 0 bases durable first state → BtreesStand f.layout f.session roots trees content state → IsNext f passed next → AreEntryBlocks f.layout.id next.number next.entry blocks → next.entry.roots ≡ roots
    → All IsOfLeaf (updates_of f.needed) → All IsOfLeaf next.entry.updates → with_updates (updates_of (drop passed f.needed)) (keys_in_leaves content trees) ≡ f.trees.keys
    → IsJournalSafe f (as_read (now state)) (Some (writing_of_btrees f trees content passed next blocks)) 0 0 (bases ++ after (writing_of_btrees f trees content passed next blocks) f ∷ []) durable first state
btrees_named law journals f image bases durable first state roots trees content passed next blocks safe stands is sealed named leaves more same =
    let here = journals.again f image bases durable first state safe in
    journals.seals f (as_read (now state)) bases durable first state (writing_of_btrees f trees content passed next blocks) here
    (writing_is f state roots trees content passed next blocks stands law is sealed named leaves more same)
    (nodes_alike f state roots trees content passed next blocks stands)
    (nodes_left f state roots trees content passed next blocks stands bases durable first here)
