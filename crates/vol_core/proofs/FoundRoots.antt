-- What was found in a volume whose roots are leaves: each btree is one node, which lies where nodes may; and it is pinned where an update of the needed
-- entries is of its btree.
use Rattle.std.proofs.Common.{◌≡◌, ◌≤◌, ◌<◌, ◌+◌, ◌/◌, ℕ, zero, suc, Bool, true, false, List, [], ◌∷◌, ◌++◌, cond, length, map, get_or, Option, Some, None, Ok, refl, sym, ap, subst, ◌∙◌, arith}
use Rattle.std.proofs.lemmas.Bool.{and_parts, eq-eqb, eqb-true, lt-ltb, true≢false}
use Rattle.std.proofs.lemmas.List.{get_or-append-add, get_or-map, get_or_append_left, length-append, length-map}
use Rattle.std.proofs.lemmas.List.Elements.{All-contains, All-head, Contains-append_left, Contains-append_right}
use Rattle.std.proofs.lemmas.List.Folds.{list_any_at}
use Rattle.std.proofs.lemmas.Nat.{div-add-mod'}
use Rattle.std.proofs.lemmas.Option.{none-some, slice_get-get_or}
use Rattle.std.specs.List.{flat_map, list_any}
use Rattle.std.specs.Option.{option_to_list}
use Rattle.std.specs.Ordering.{is_le, nat_cmp}
use Rattle.std.specs.Prelude.{◌==◌, ◌%◌, nat_lt, All, Contains, IsSome, option_map, slice_get}
use Rattle.birth_index.specs.Births.{levels_of}
use Rattle.birth_index.specs.Exchanges.{HaveOneNode, one_node}
use Rattle.btree_map.specs.Sizes.{all_btrees}
use Rattle.btree_map.specs.StandLaws.{same_btree}
use Rattle.bucket_pool.specs.NodeBuckets.{MayHoldNode}
use Rattle.dirty_nodes.specs.Dirty.{birth_at, birth_in, changed_node, changed_nodes, with_pins}
use Rattle.core_volume.specs.Opening.{updates_in}
use Rattle.dev_model.specs.Disk.{Image}
use Rattle.image_view.specs.BaseLaws.{found-trees}
use Rattle.image_view.specs.Found.{Found, found, node_places, sets_in, updates_of}
use Rattle.image_view.specs.Trees.{nodes_of}
use Rattle.journal_ring.specs.declared.found.FoundEntry.{FoundEntry}
use Rattle.key_meaning.specs.Checks.{AreNodesPlaced, IsNodePlaced, kept_buckets}
use Rattle.crash_safety.specs.Contents.{ChangesBtree, IsPinnedUpTo}
use Rattle.node_writeback.specs.Due.{no_node, root_in, root_of}
use Rattle.replay.specs.NodeUpdates.{ChangesNode, EachUpdate, IsBelowRoot}
use Rattle.tree_nodes.specs.Levels.{IsNodeOf, IsTree, Level, Levels, level_of, node_at}
use Rattle.vol_types.specs.Btrees.{btree_code}
use Rattle.vol_types.specs.KeyMaps.{is_update_of}
use Rattle.vol_types.specs.LayoutLaws.{layout_found}
use Rattle.vol_types.specs.Layouts.{IsLayout, is_layout}
use Rattle.vol_types.specs.Maps.{value_at}
use Rattle.vol_types.specs.Positions.{greatest_pos, pos_cmp}
use Rattle.vol_types.specs.Ranges.{IsBucket, IsNode}
use Rattle.vol_types.specs.declared.keys.Update.{Update}
use Rattle.vol_types.specs.declared.layout.Layout.{Layout}
use Rattle.vol_types.specs.declared.pointers.NodePtr.{NodePtr}
use Rattle.vol_types.specs.declared.pointers.Place.{Place}
use Rattle.vol_types.specs.declared.positions.Btree.{Btree}
use Rattle.vol_types.specs.declared.positions.Btree.TheVariants.{Alloc, Backptrs, Counters, Deleted, Dirents, Extents, Inodes, Snapshots, Subvols}
use Rattle.vol_types.specs.declared.positions.Pos.{Pos}
use Rattle.vol_core.specs.CoreLaws.{FoundLaws, PinLaws}
use Rattle.vol_core.proofs.LeafTrees.{IsLeafRoot, leaves_read}
use Rattle.vol_core.proofs.NamedRoots.{nine_roots}

-- ---- lists

-- Of joined lists each has what all have.
pub all_left : {X : Type 0} (P : X → Type 0) (xs ys : List X) → All P (xs ++ ys) → All P xs
all_left P xs ys all k d lt = subst P (get_or_append_left xs ys d k lt) (all k d (let whole : length (xs ++ ys) ≡ length xs + length ys = length-append xs ys in omega (arith, lt, whole)))

pub all_right : {X : Type 0} (P : X → Type 0) (xs ys : List X) → All P (xs ++ ys) → All P ys
all_right P xs ys all k d lt = subst P (get_or-append-add xs ys k d) (all (length xs + k) d (let whole : length (xs ++ ys) ≡ length xs + length ys = length-append xs ys in omega (arith, lt, whole)))

-- What holds of all places of nodes holds of those of each.
each_places : (P : Place → Type 0) (roots : List NodePtr) → All P (flat_map (λ (root : NodePtr). root.places) roots) → (k : ℕ) (root : NodePtr) → slice_get roots k ≡ Some root → All P root.places
each_places P [] all k root at = absurd (none-some root at)
each_places P (one ∷ roots) all zero root at =
    let same : one ≡ root = cc in
    subst (λ (r : NodePtr). All P r.places) same (all_left P one.places (flat_map (λ (r : NodePtr). r.places) roots) all)
each_places P (one ∷ roots) all (suc k) root at = each_places P roots (all_right P one.places (flat_map (λ (r : NodePtr). r.places) roots) all) k root at

-- What is of a member is of all that are joined.
contained_by : {X Y : Type 0} (f : X → List Y) (xs : List X) (k : ℕ) (x : X) (y : Y) → k < length xs → get_or xs k x ≡ x → Contains (f x) y → Contains (flat_map f xs) y
contained_by f [] k x y within is there = absurd (omega (arith, within))
contained_by f (first ∷ xs) zero x y within is there = Contains-append_left (f first) (flat_map f xs) y (subst (λ x. Contains (f x) y) (sym is) there)
contained_by f (first ∷ xs) (suc k) x y within is there = Contains-append_right (f first) (flat_map f xs) y (contained_by f xs k x y (omega (arith, within)) is there)

contained_flat : {X Y : Type 0} (f : X → List Y) (xs : List X) (x : X) (y : Y) → Contains xs x → Contains (f x) y → Contains (flat_map f xs) y
contained_flat f xs x y member there = contained_by f xs member.0 x y member.1 member.2 there

-- ---- roots

below_nine : (btree : Btree) → btree_code btree < 9
below_nine Extents = omega arith
below_nine Inodes = omega arith
below_nine Dirents = omega arith
below_nine Subvols = omega arith
below_nine Snapshots = omega arith
below_nine Alloc = omega arith
below_nine Backptrs = omega arith
below_nine Deleted = omega arith
below_nine Counters = omega arith

-- The nodes of btrees of one node are their roots.
root_nodes : (roots : List NodePtr) → nodes_of (map one_node roots) ≡ roots
root_nodes [] = refl
root_nodes (root ∷ roots) = ap (λ (rest : List NodePtr). root ∷ rest) (root_nodes roots)

roots_back : (roots : List NodePtr) → map root_of (map one_node roots) ≡ roots
roots_back [] = refl
roots_back (root ∷ roots) = ap (λ (rest : List NodePtr). root ∷ rest) (roots_back roots)

-- ---- places

pub at_least : (mirror : Bool) (journal : ℕ) → 1 ≤ cond mirror (1 + journal) 1
at_least true journal = omega arith
at_least false journal = omega arith

-- A bucket behind the superblocks, and behind the journal area on a metadata device, may hold a node.
may_hold_node : (layout : Layout) → IsLayout layout → (place : Place) → IsBucket place → IsNodePlaced layout place → MayHoldNode layout place
may_hold_node layout is place bucket placed =
    let behind : kept_buckets layout place.dev ≤ place.block / 16 = placed.behind in
    let block = div-add-mod' place.block 16 in
    let journal = div-add-mod' layout.journal 16 in
    let whole : layout.journal % 16 ≡ 0 = is.journal_buckets in
    record {
      begins = bucket.first;
      within = placed.on_device;
      past_superblocks = let least : 1 ≤ kept_buckets layout place.dev = at_least (nat_lt place.dev layout.metadata_replicas) (layout.journal / 16) in omega (arith, behind, least, block);
      past_journal = λ mirror.
          let kept : kept_buckets layout place.dev ≡ 1 + layout.journal / 16 = ap (λ (b : Bool). cond b (1 + layout.journal / 16) 1) (lt-ltb place.dev layout.metadata_replicas mirror) in
          omega (arith, behind, kept, block, journal, whole);
    }

-- ---- updates

-- The only node of a level is the one that covers a position, where one does.
only_birth : (pos : Pos) (root : NodePtr) → IsSome (node_at pos ((greatest_pos, root) ∷ [])) → birth_in pos ((greatest_pos, root) ∷ []) ≡ Some root.birth
only_birth pos root some = by (is_le (pos_cmp pos greatest_pos)) some
  where
    by : (within : Bool) → IsSome {T = Pos × NodePtr} (slice_get (cond within ((greatest_pos, root) ∷ []) []) 0) → option_map (λ (node : Pos × NodePtr). node.1.birth) (slice_get (cond within ((greatest_pos, root) ∷ []) []) 0) ≡ Some root.birth
    by true some = refl
    by false some = absurd (true≢false (sym some))

-- An update of a btree that is one node changes it.
changes_root : (nodes : List Levels) (btree : Btree) (root : NodePtr) (update : Update) → levels_of nodes btree ≡ one_node root → is_update_of btree update ≡ true → ChangesNode nodes update → Contains (changed_node nodes update) root.birth
changes_root nodes btree root update alone of change =
    let parts = and_parts (update.level == 0) (btree_code update.btree == btree_code btree) of in
    let level : update.level ≡ 0 = eqb-true update.level 0 parts.0 in
    let same : update.btree ≡ btree = same_btree update.btree btree (eqb-true (btree_code update.btree) (btree_code btree) parts.1) in
    let only : level_of (levels_of nodes update.btree) update.level ≡ (greatest_pos, root) ∷ [] =
    ap (level_of (levels_of nodes update.btree)) level ∙ ap (λ (b : Btree). level_of (levels_of nodes b) 0) same ∙ ap (λ (levels : Levels). level_of levels 0) alone in
    let birth : birth_at nodes update.btree update.level update.pos ≡ Some root.birth = ap (birth_in update.pos) only ∙ only_birth update.pos root (subst (λ (level : Level). IsSome (node_at update.pos level)) only change) in
    subst (λ (o : Option ℕ). Contains (option_to_list o) root.birth) (sym birth) (0, omega arith, refl)

module _ (of_found : FoundLaws) (f : Found) (image : Image) (finds : found image ≡ Ok f) (leaves : All IsLeafRoot f.last.entry.roots) where
  abbrev roots : List NodePtr
  roots = f.last.entry.roots

  nine : length roots ≡ 9
  nine = of_found.roots image f finds

  nodes_are : f.trees.nodes ≡ map one_node roots
  nodes_are = leaves_read (sets_in f.layout image) (updates_of f.needed) roots f.trees nine leaves (found-trees image f finds)

  -- the root of a btree, as the newest entry names it
  abbrev root_at : Btree → NodePtr
  root_at btree = get_or roots (btree_code btree) no_node

  within : (btree : Btree) → btree_code btree < length roots
  within btree = let less = below_nine btree in let count = nine in omega (arith, less, count)

  -- Each btree is this one node.
  alone : (btree : Btree) → levels_of f.trees.nodes btree ≡ one_node (root_at btree)
  alone btree = ap (λ (nodes : List Levels). levels_of nodes btree) nodes_are ∙ get_or-map one_node roots (btree_code btree) no_node [] (within btree)

  pub one : HaveOneNode f.trees.nodes
  one btree = (root_at btree, alone btree)

  root_is : (btree : Btree) → root_in f.trees.nodes btree ≡ root_at btree
  root_is btree = ap root_of (alone btree)

  -- The newest entry names the roots.
  pub roots_are : roots ≡ map (root_in f.trees.nodes) all_btrees
  roots_are = sym (roots_back roots) ∙ ap (map root_of) (sym nodes_are) ∙ nine_roots f.trees.nodes (ap (λ (nodes : List Levels). length nodes) nodes_are ∙ length-map roots one_node ∙ nine)

  -- What holds of all places of nodes holds of those of each root.
  pub each_root : (P : Place → Type 0) → All P (node_places f) → (btree : Btree) → All P (root_in f.trees.nodes btree).places
  each_root P all btree =
      subst (λ (root : NodePtr). All P root.places) (sym (root_is btree))
      (each_places P roots (subst (λ (nodes : List NodePtr). All P (flat_map (λ (node : NodePtr). node.places) nodes)) (ap nodes_of nodes_are ∙ root_nodes roots) all) (btree_code btree) (root_at btree) (slice_get-get_or roots (btree_code btree) no_node (within btree)))

  root_in_range : (btree : Btree) → IsNode (root_in f.trees.nodes btree)
  root_in_range btree =
      let tree : IsTree (one_node (root_at btree)) = subst IsTree (alone btree) ((of_found.trees image f finds).each btree).nodes in
      let node = All-head (IsNodeOf 0) (root_at btree) [] (tree.each 0 (omega arith)).each in
      subst IsNode (sym (root_is btree)) node.in_range

  -- Each root lies where nodes may.
  pub roots_placed : is_layout f.layout ≡ true → AreNodesPlaced (node_places f) f.layout → (btree : Btree) → All (MayHoldNode f.layout) (root_in f.trees.nodes btree).places
  roots_placed layout placed btree k d less =
      let is = layout_found f.layout layout in
      may_hold_node f.layout is (get_or (root_in f.trees.nodes btree).places k d) ((root_in_range btree).each k d less) (each_root (IsNodePlaced f.layout) placed.each btree k d less)

  -- A root is pinned where an update of the needed entries is of its btree.
  pub roots_pinned : PinLaws → EachUpdate f (IsBelowRoot roots) → (seq : ℕ) (btree : Btree) (entry : FoundEntry) → Contains f.needed entry → ChangesBtree btree entry.entry.updates
      → IsPinnedUpTo (value_at nat_cmp (root_in f.trees.nodes btree).birth (with_pins seq (changed_nodes f.trees.nodes (updates_in f.needed)) [])) seq
  roots_pinned pins below seq btree entry needed changes =
      let update : Update = changes.0 in
      let birth : ℕ = (root_in f.trees.nodes btree).birth in
      let births : List ℕ = changed_nodes f.trees.nodes (updates_in f.needed) in
      let change : ChangesNode f.trees.nodes update =
      All-contains (ChangesNode f.trees.nodes) entry.entry.updates update
      (All-contains (λ (e : FoundEntry). All (ChangesNode f.trees.nodes) e.entry.updates) f.needed entry (λ k d lt i e less. (of_found.changed image f finds k d lt i e less).1 (below k d lt i e less)) needed)
      changes.1 in
      let alone_in : levels_of f.trees.nodes btree ≡ one_node (root_in f.trees.nodes btree) = alone btree ∙ ap one_node (sym (root_is btree)) in
      let there : Contains births birth =
      contained_flat (changed_node f.trees.nodes) (updates_in f.needed) update birth (contained_flat (λ (e : FoundEntry). e.entry.updates) f.needed entry update needed changes.1)
      (changes_root f.trees.nodes btree (root_in f.trees.nodes btree) update alone_in changes.2 change) in
      let any : list_any (λ (b : ℕ). b == birth) births ≡ true = list_any_at (λ (b : ℕ). b == birth) births there.0 birth there.1 (ap (λ (b : ℕ). b == birth) there.2 ∙ eq-eqb birth birth refl) in
      (seq, pins.each seq birth births [] ∙ ap (λ (b : Bool). cond b (Some seq) None) any, omega arith)
