-- An image that differs in blocks of the roots alone, and shows the same of each root, means the same.
use Rattle.std.proofs.Common.{◌≡◌, ◌⊎◌, inl, inr, ⊎_elim, ℕ, zero, suc, ◌+◌, ◌/◌, ◌%◌, ◌<◌, ◌≤◌, cond, List, [], ◌∷◌, length, map, get_or, Some, Ok, Err, refl, sym, ap, subst, ◌∙◌, arith}
use Rattle.std.specs.List.{flat_map}
use Rattle.std.specs.Map.{values_of}
use Rattle.std.specs.Option.{ok_or}
use Rattle.std.specs.Prelude.{All, Contains}
use Rattle.std.proofs.lemmas.Bool.{cases_eq}
use Rattle.std.proofs.lemmas.List.{get_or_default}
use Rattle.std.proofs.lemmas.List.Elements.{All-append, All-contains, All-from_get_or, All-head, All-map, All-nil, All-weaker, recursion_from_All}
use Rattle.btree_map.specs.Trees.{IsTrees, levels_in}
use Rattle.dev_model.specs.Disk.{Image, block_at}
use Rattle.geometry.specs.LayoutFacts.{HasPlaces, has_places}
use Rattle.geometry.specs.Sessions.{session_in}
use Rattle.geometry.specs.SuperLaws.{layout_fits, same_counting, same_layout}
use Rattle.geometry.specs.Superblocks.{layout_in}
use Rattle.image_view.specs.BaseLaws.{found-layout, found-newest, found-session, found-trees, greatest_session-same, node-same}
use Rattle.image_view.specs.Bases.{AgreeAt, AgreeOnContent, AgreeOnEntry, AgreeOnNode, IsNewest}
use Rattle.image_view.specs.CopyLaws.{agree-same}
use Rattle.image_view.specs.Found.{Found, IsInOrder, NodesAgree, PlacesAgree, are_mirrored, bad_place, found, node_places, sets_in, super_fault, updates_of}
use Rattle.image_view.specs.TreeLaws.{HasSameSets, HaveSameSets, trees_of-same}
use Rattle.image_view.specs.Trees.{TreesRead, first_place, nodes_of, trees_of}
use Rattle.image_view.specs.declared.fault.MountFault.TheVariants.{BadNode, MissingEntry, NoEntry}
use Rattle.journal_ring.specs.Counting.{needed_by, newest}
use Rattle.journal_ring.specs.Entries.{IsMadeOf}
use Rattle.journal_ring.specs.Parts.{Area, AreSame, area_of}
use Rattle.journal_ring.specs.declared.found.FoundEntry.{FoundEntry}
use Rattle.key_codec.specs.Formats.{◌>>=◌, carried}
use Rattle.key_meaning.specs.Blocks.{block_of, blocks_of, place_at}
use Rattle.key_meaning.specs.Checks.{AreNodesPlaced, HasWellPlaced, IsSound, IsWellPlaced, count_in_bucket, pointers_of}
use Rattle.node_store.specs.Copies.{copies_at}
use Rattle.node_store.specs.NodeContents.{content_if, wanted_of}
use Rattle.record_codec.specs.Entries.{IsEntry}
use Rattle.tree_nodes.specs.Levels.{IsNodeOf, IsTree, Levels, level_of}
use Rattle.vol_types.specs.Btrees.{btree_code}
use Rattle.vol_types.specs.Limits.{bucket_blocks}
use Rattle.vol_types.specs.Ranges.{IsNode}
use Rattle.vol_types.specs.declared.layout.Layout.{Layout}
use Rattle.vol_types.specs.declared.pointers.NodePtr.{NodePtr}
use Rattle.vol_types.specs.declared.pointers.Place.{Place}
use Rattle.vol_types.specs.declared.pointers.Pointer.{Pointer}
use Rattle.vol_types.specs.declared.positions.Btree.{Btree}
use Rattle.vol_types.specs.declared.positions.Btree.TheVariants.{Extents, Inodes, Dirents, Subvols, Snapshots, Alloc, Backptrs, Deleted, Counters}
use Rattle.vol_types.specs.declared.positions.Pos.{Pos}
use Rattle.vol_types.specs.declared.values.Extent.{Extent}
use Rattle.vol_types.specs.declared.values.Value.{Value}
use Rattle.vol_types.specs.declared.values.Value.TheVariants as values
use Rattle.replay.specs.Beginning.{MeansTheSame}
use Rattle.replay.specs.Roots.{DifferInRoots, IsBlockOf, ShareNoBlock, ShowTheSame, no_node}
use Rattle.replay.specs.Volumes.{trees_read}
use Rattle.replay.proofs.EndsRead.{IsIn, contained_in, in_contained, trees_read_by}
use Rattle.replay.proofs.MendedMeaning.{means_by_content}
use Rattle.replay.proofs.MendedRoots.{block_of_place}
use Rattle.replay.proofs.MendedSets.{agree_too, held_same}
use Rattle.replay.proofs.OwnBirths.{one_birth}
use Rattle.replay.proofs.RootPlaces.{root_far}
use Rattle.replay.proofs.RootsRead.{at_least, block_counts, roots_among, share_none}

-- ---- all nodes are in range

all_of_lists : {A B : Type 0} (P : B → Type 0) (g : A → List B) (none : A) (xs : List A) → ((k : ℕ) → k < length xs → All P (g (get_or xs k none))) → All P (flat_map g xs)
all_of_lists P g none [] each = All-nil P
all_of_lists P g none (x ∷ xs) each = All-append P (g x) (flat_map g xs) (each 0 (omega arith)) (all_of_lists P g none xs (λ k lower. each (suc k) (omega (arith, lower))))

nodes_in_range : (levels : Levels) → IsTree levels → All IsNode (flat_map values_of levels)
nodes_in_range levels is = all_of_lists IsNode values_of [] levels (λ k lower. All-weaker (IsNodeOf k) IsNode (λ node of_level. of_level.in_range) (values_of (level_of levels k)) (is.each k lower).each)

-- Each number below nine is a btree's.
btree_at : (code : ℕ) → code < 9 → (btree : Btree) × (btree_code btree ≡ code)
btree_at zero lower = (Extents, refl)
btree_at (suc zero) lower = (Inodes, refl)
btree_at (suc (suc zero)) lower = (Dirents, refl)
btree_at (suc (suc (suc zero))) lower = (Subvols, refl)
btree_at (suc (suc (suc (suc zero)))) lower = (Snapshots, refl)
btree_at (suc (suc (suc (suc (suc zero))))) lower = (Alloc, refl)
btree_at (suc (suc (suc (suc (suc (suc zero)))))) lower = (Backptrs, refl)
btree_at (suc (suc (suc (suc (suc (suc (suc zero))))))) lower = (Deleted, refl)
btree_at (suc (suc (suc (suc (suc (suc (suc (suc zero)))))))) lower = (Counters, refl)
btree_at (suc (suc (suc (suc (suc (suc (suc (suc (suc more))))))))) lower = absurd (omega (arith, lower))

trees_in_range : (read : TreesRead) → IsTrees (trees_read read) → All IsNode (nodes_of read.nodes)
trees_in_range read is = all_of_lists IsNode (λ (levels : Levels). flat_map values_of levels) [] read.nodes (λ k lower.
    let count : length read.nodes ≡ 9 = is.node_count in
    let btree = btree_at k (omega (arith, lower, count)) in
    subst (λ n. All IsNode (flat_map values_of (get_or read.nodes n []))) btree.1 (nodes_in_range (levels_in (trees_read read) btree.0) (is.each btree.0).nodes))

-- ---- one of some nodes has a birth, or none has

has_born : (birth : ℕ) (nodes : List NodePtr) → ((node : NodePtr) × Contains nodes node × (node.birth ≡ birth)) ⊎ ((node : NodePtr) → Contains nodes node → node.birth ≡ birth → ⊥)
has_born birth [] = inr (λ node there born. let lower = there.1 in omega (arith, lower))
has_born birth (first ∷ nodes) = ⊎_elim
    (λ (here : first.birth ≡ birth). inl (first, (0, omega arith, refl), here))
    (λ (other : ¬ (first.birth ≡ birth)). ⊎_elim
    (λ (later : (node : NodePtr) × Contains nodes node × (node.birth ≡ birth)). inl (later.0, (suc later.1.0, (let lower = later.1.1 in omega (arith, lower)), later.1.2), later.2))
    (λ (none : (node : NodePtr) → Contains nodes node → node.birth ≡ birth → ⊥). inr (λ node there born. elsewhere other none node there born))
    (has_born birth nodes))
    (cases_eq first.birth birth)
  where
    elsewhere : ¬ (first.birth ≡ birth) → ((node : NodePtr) → Contains nodes node → node.birth ≡ birth → ⊥) → (node : NodePtr) → Contains (first ∷ nodes) node → node.birth ≡ birth → ⊥
    elsewhere other none node (zero, within, at) born = other (ap (λ (n : NodePtr). n.birth) at ∙ born)
    elsewhere other none node (suc k, within, at) born = none node (k, (let lower : k < length nodes = omega (arith, within) in lower), at) born

-- ---- what makes what is found

-- What an image's layout, session, newest entry, needed entries and btrees are is what is found in it.
found_of_parts : (image : Image) (f : Found) → layout_in image ≡ Ok f.layout → session_in f.layout image ≡ Some f.session → IsNewest f image → trees_of (sets_in f.layout image) (updates_of f.needed) f.last.entry.roots ≡ Ok f.trees → found image ≡ Ok f
unfolding found
found_of_parts image f layout session new trees =
    ap (λ r. carried super_fault r >>= (λ l. ok_or (session_in l image) NoEntry >>= (λ s. ok_or (newest l (area_of image)) NoEntry >>= (λ e. carried MissingEntry (needed_by l (area_of image) e) >>= (λ es. carried BadNode (trees_of (sets_in l image) (updates_of es) e.entry.roots) >>= (λ t. Ok (record { layout = l; session = s; last = e; needed = es; trees = t }))))))) layout
    ∙ ap (λ o. ok_or o NoEntry >>= (λ s. ok_or (newest f.layout (area_of image)) NoEntry >>= (λ e. carried MissingEntry (needed_by f.layout (area_of image) e) >>= (λ es. carried BadNode (trees_of (sets_in f.layout image) (updates_of es) e.entry.roots) >>= (λ t. Ok (record { layout = f.layout; session = s; last = e; needed = es; trees = t })))))) session
    ∙ ap (λ o. ok_or o NoEntry >>= (λ e. carried MissingEntry (needed_by f.layout (area_of image) e) >>= (λ es. carried BadNode (trees_of (sets_in f.layout image) (updates_of es) e.entry.roots) >>= (λ t. Ok (record { layout = f.layout; session = f.session; last = e; needed = es; trees = t }))))) new.last
    ∙ ap (λ r. carried MissingEntry r >>= (λ es. carried BadNode (trees_of (sets_in f.layout image) (updates_of es) f.last.entry.roots) >>= (λ t. Ok (record { layout = f.layout; session = f.session; last = f.last; needed = es; trees = t })))) new.needed
    ∙ ap (λ r. carried BadNode r >>= (λ t. Ok (record { layout = f.layout; session = f.session; last = f.last; needed = f.needed; trees = t }))) trees

-- What the laws of the journal and of what is found say.
pub record RootLaws : Type 0 where
  pub entries : (image : Image) (f : Found) → found image ≡ Ok f → All (λ (e : FoundEntry). IsEntry e.entry) f.needed
  pub some : (image : Image) (f : Found) → found image ≡ Ok f → 0 < length f.needed
  pub trees : (image : Image) (f : Found) → found image ≡ Ok f → IsTrees (trees_read f.trees)
  pub newest : (layout : Layout) (one other : Area) → AreSame layout one other → newest layout one ≡ newest layout other
  pub needed : (layout : Layout) (one other : Area) (last : FoundEntry) → AreSame layout one other → needed_by layout one last ≡ needed_by layout other last
  pub made : (layout : Layout) (one other : Area) (entry : FoundEntry) (blocks : List (List ℕ)) → 0 < layout.journal → AreSame layout one other → IsMadeOf layout one entry blocks → IsMadeOf layout other entry blocks

module _ (laws : RootLaws) (one other : Image) (f : Found) (is : found one ≡ Ok f) (entry : IsEntry f.last.entry) (placed : AreNodesPlaced (node_places f) f.layout) (agree : NodesAgree one f) (differ : DifferInRoots f one other) where
  abbrev nodes : List NodePtr
  nodes = nodes_of f.trees.nodes

  abbrev roots : List NodePtr
  roots = f.last.entry.roots

  places : HasPlaces (map (λ blocks. length blocks) one) f.layout
  places = has_places (map (λ blocks. length blocks) one) f.layout (layout_fits one f.layout (found-layout one f is))

  -- ---- which blocks are the same

  in_range : All IsNode nodes
  in_range = trees_in_range f.trees (laws.trees one f is)

  -- No two nodes share a block.
  apart : ShareNoBlock nodes
  apart = share_none nodes in_range placed.apart

  root_there : (root : NodePtr) → Contains roots root → IsIn root nodes
  root_there root at = All-contains (λ (r : NodePtr). IsIn r nodes) roots root (roots_among one f is entry) at

  -- What isn't behind the journals is the same,
  low_same : (dev block : ℕ) → block < 16 + f.layout.journal → AgreeAt one other dev block
  low_same dev block low = differ.elsewhere dev block (λ at. let far = (root_far one f is placed entry dev block at).1 in omega (arith, low, far))

  areas : AreSame f.layout (area_of one) (area_of other)
  areas dev place mirror within = low_same dev (16 + place) (omega (arith, within))

  -- and so is each node that isn't a root,
  node_of : (node : NodePtr) → IsIn node nodes → (k : ℕ) × (k < length nodes) × (get_or nodes k no_node ≡ node)
  node_of node there = let at = contained_in node nodes there in (at.0, at.1, get_or_default nodes at.0 no_node node at.1 ∙ at.2)

  one_node : (node root : NodePtr) (dev block : ℕ) → IsIn node nodes → IsIn root nodes → IsBlockOf node dev block → IsBlockOf root dev block → root ≡ node
  one_node node root dev block there also of_node of_root =
      let first = node_of node there in
      let second = node_of root also in
      let same : second.0 ≡ first.0 = apart second.0 first.0 dev block second.1 first.1
      (subst (λ (n : NodePtr). IsBlockOf n dev block) (sym second.2) of_root) (subst (λ (n : NodePtr). IsBlockOf n dev block) (sym first.2) of_node) in
      sym second.2 ∙ ap (λ k. get_or nodes k no_node) same ∙ first.2

  other_same : (node : NodePtr) → IsIn node nodes → ((root : NodePtr) → Contains roots root → root.birth ≡ node.birth → ⊥) → AgreeOnNode one other node
  other_same node there none k place lower n below =
      let lies : Place = get_or node.places k place in
      differ.elsewhere lies.dev (lies.block + n) (λ at.
      none at.root at.one (ap (λ (r : NodePtr). r.birth) (one_node node at.root lies.dev (lies.block + n) there (root_there at.root at.one)
      (block_of_place node lies n (k, lower, get_or_default node.places k lies place lower) below) at.of_root)))

  -- ---- which sets nodes have

  -- A root has the same sets, and its places agree on it.
  root_sets : (node : NodePtr) → ShowTheSame f.layout.id node.birth (copies_at (block_at one) node.places) (copies_at (block_at other) node.places) → PlacesAgree f.layout.id one node → HasSameSets (sets_in f.layout one) (sets_in f.layout other) node
  root_sets node shown agreed btree least greatest =
      ap (λ sets. cond (are_mirrored f.layout 0 node.places) (carried (bad_place node) (content_if (wanted_of btree least greatest node) sets)) (Err (first_place node)))
      (held_same f.layout.id node.birth (copies_at (block_at one) node.places) (copies_at (block_at other) node.places) agreed shown)

  is_root : (node : NodePtr) → IsIn node nodes → (root : NodePtr) → Contains roots root → root.birth ≡ node.birth → Contains roots node
  is_root node there root at born =
      let apart_births = (trees_read_by (sets_in f.layout one) (updates_of f.needed) roots f.trees (found-trees one f is)).1 in
      subst (λ (n : NodePtr). Contains roots n) (one_birth nodes apart_births root node (root_there root at) there born) at

  shown_of : (node : NodePtr) → Contains roots node → ShowTheSame f.layout.id node.birth (copies_at (block_at one) node.places) (copies_at (block_at other) node.places)
  shown_of node at = All-contains (λ (root : NodePtr). ShowTheSame f.layout.id root.birth (copies_at (block_at one) root.places) (copies_at (block_at other) root.places)) roots node differ.shown at

  agreed_of : (node : NodePtr) → IsIn node nodes → PlacesAgree f.layout.id one node
  agreed_of node there = All-contains (PlacesAgree f.layout.id one) nodes node agree.each (contained_in node nodes there)

  node_sets : (node : NodePtr) → IsIn node nodes → HasSameSets (sets_in f.layout one) (sets_in f.layout other) node
  node_sets node there = ⊎_elim
      (λ (root : (r : NodePtr) × Contains roots r × (r.birth ≡ node.birth)). root_sets node (shown_of node (is_root node there root.0 root.1 root.2)) (agreed_of node there))
      (λ (none : (r : NodePtr) → Contains roots r → r.birth ≡ node.birth → ⊥). node-same f.layout one other node (other_same node there none))
      (has_born node.birth roots)

  node_agrees : (node : NodePtr) → IsIn node nodes → PlacesAgree f.layout.id other node
  node_agrees node there = ⊎_elim
      (λ (root : (r : NodePtr) × Contains roots r × (r.birth ≡ node.birth)).
      agree_too f.layout.id node.birth (copies_at (block_at one) node.places) (copies_at (block_at other) node.places) (agreed_of node there) (shown_of node (is_root node there root.0 root.1 root.2)))
      (λ (none : (r : NodePtr) → Contains roots r → r.birth ≡ node.birth → ⊥).
      All-head (PlacesAgree f.layout.id other) node [] (agree-same f.layout.id one other (node ∷ []) (one_of (AgreeOnNode one other) node (other_same node there none)) (one_of (PlacesAgree f.layout.id one) node (agreed_of node there))))
      (has_born node.birth roots)
    where
      one_of : (P : NodePtr → Type 0) (node : NodePtr) → P node → All P (node ∷ [])
      one_of P node is = All-from_get_or P (node ∷ []) node (λ k lower. subst (λ n. P (get_or (node ∷ []) n node)) (let e : 0 ≡ k = omega (arith, lower) in e) is)

  nth : (k : ℕ) → k < length nodes → IsIn (get_or nodes k no_node) nodes
  nth k lower = in_contained (get_or nodes k no_node) nodes (k, lower, get_or_default nodes k (get_or nodes k no_node) no_node lower)

  all_sets : HaveSameSets (sets_in f.layout one) (sets_in f.layout other) nodes
  all_sets = recursion_from_All (HasSameSets (sets_in f.layout one) (sets_in f.layout other)) nodes (All-from_get_or (HasSameSets (sets_in f.layout one) (sets_in f.layout other)) nodes no_node (λ k lower. node_sets (get_or nodes k no_node) (nth k lower)))

  -- ---- what is found

  layout_same : layout_in other ≡ Ok f.layout
  layout_same = sym (same_layout one other differ.lengths (λ dev. same_counting one other dev (low_same dev 0 (omega arith)) (low_same dev 8 (omega arith)))) ∙ found-layout one f is

  pub session_same : session_in f.layout other ≡ Some f.session
  session_same = greatest_session-same f.layout.id one other f.layout.metadata_replicas (λ dev within. low_same dev 4 (omega arith)) (λ dev within. low_same dev 5 (omega arith)) ∙ found-session one f is

  newest_again : IsNewest f other
  newest_again =
      let new = found-newest one f is in
      record {
        last = sym (laws.newest f.layout (area_of one) (area_of other) areas) ∙ new.last;
        needed = sym (laws.needed f.layout (area_of one) (area_of other) f.last areas) ∙ new.needed;
      }

  -- The same is found,
  pub same_found : found other ≡ Ok f
  same_found = found_of_parts other f layout_same session_same newest_again (trees_of-same (sets_in f.layout one) (sets_in f.layout other) (updates_of f.needed) roots f.trees (found-trees one f is) all_sets)

  -- and the places of its nodes agree,
  pub same_agree : NodesAgree other f
  same_agree = record { each = All-from_get_or (PlacesAgree f.layout.id other) nodes no_node (λ k lower. node_agrees (get_or nodes k no_node) (nth k lower)) }

  -- and it is in order where it was.
  same_order : IsInOrder f one → IsInOrder f other
  same_order order =
      let some : 0 < f.layout.journal = let least = places.least in omega (arith, least) in
      record {
        entries = order.entries;
        fits = order.fits;
        others = λ entry blocks made. order.others entry blocks (laws.made f.layout (area_of other) (area_of one) entry blocks some (λ dev place mirror within. sym (areas dev place mirror within)) made);
        owners = λ dev place bytes head mirror within stands. order.owners dev place bytes head mirror within (areas dev place mirror within ∙ stands);
        levels = order.levels;
        agree = same_agree;
        births = order.births;
      }

  -- ---- the blocks of files

  -- No block of a bucket without a node is a root's.
  free_same : (dev block index : ℕ) → count_in_bucket (node_places f) dev (block / bucket_blocks) ≡ 0 → block % bucket_blocks + index < bucket_blocks → AgreeAt one other dev (block + index)
  free_same dev block index none within = differ.elsewhere dev (block + index) (λ at.
      let root = node_of at.root (root_there at.root at.one) in
      let buckets = (All-contains IsNode nodes at.root in_range (contained_in at.root nodes (root_there at.root at.one))).each in
      let some = block_counts at.root dev (block + index) buckets at.of_root in
      let here : (block + index) / bucket_blocks ≡ block / bucket_blocks = omega (arith, within) in
      let counts : 1 ≤ count_in_bucket (get_or nodes root.0 no_node).places dev (block / bucket_blocks) =
      subst (λ (n : NodePtr). 1 ≤ count_in_bucket n.places dev (block / bucket_blocks)) (sym root.2) (subst (λ n. 1 ≤ count_in_bucket at.root.places dev n) here some) in
      let least = at_least dev (block / bucket_blocks) nodes root.0 root.1 in
      omega (arith, counts, least, none))

  extent_same : (extent : Extent) (count index : ℕ) → index < count → All (IsWellPlaced (node_places f) f.layout count) extent.pointers → All (λ place. AgreeAt one other place.dev place.block) (block_of extent index).places
  extent_same extent count index lower all = All-map (λ place. AgreeAt one other place.dev place.block) (place_at index) extent.pointers
      (All-weaker (IsWellPlaced (node_places f) f.layout count) (λ (pointer : Pointer). AgreeAt one other (place_at index pointer).dev (place_at index pointer).block)
      (λ pointer lies.
      let within = lies.one_bucket in
      free_same pointer.place.dev pointer.place.block index lies.for_no_node (omega (arith, within, lower))) extent.pointers all)

  content_same : IsSound f.trees.keys (node_places f) f.layout → AgreeOnContent f one other
  content_same sound = record {
    extents = All-weaker (HasWellPlaced (node_places f) f.layout) (AgreeOnEntry one other)
        (λ (entry : Pos × Value) lies extent is_extent index lower.
        extent_same extent (blocks_of (values.Extent extent)) index lower (subst (λ (v : Value). All (IsWellPlaced (node_places f) f.layout (blocks_of v)) (pointers_of v)) is_extent lies))
        f.trees.keys.extents sound.blocks.placed;
  }

  -- So the image means the same.
  pub same_meaning : MeansTheSame f one other
  same_meaning = means_by_content f one other is same_found same_order content_same
