-- Where the roots of a volume lie, which sets they have, and that they can be mended.
use Rattle.std.proofs.Common.{◌≡◌, ℕ, zero, suc, ◌+◌, ◌<◌, ◌≤◌, Bool, true, false, cond, List, [], ◌∷◌, length, map, get_or, Some, Ok, refl, sym, ap, subst, ◌∙◌, arith}
use Rattle.std.specs.Prelude.{All, Contains, ◌==◌, slice_index}
use Rattle.std.proofs.lemmas.Bool.{eq-eqb, eqb-true, false≢true}
use Rattle.std.proofs.lemmas.List.{get_or-map, get_or_default, length-map}
use Rattle.std.proofs.lemmas.List.Elements.{All-contains}
use Rattle.std.proofs.lemmas.List.FromFn.{get_or-range_with_len, length-range_with_len}
use Rattle.dev_model.specs.Crashes.{SameBut}
use Rattle.dev_model.specs.Disk.{Image, block_at}
use Rattle.geometry.specs.LayoutFacts.{HasPlaces, has_places}
use Rattle.geometry.specs.Layouts.{is_layout_of}
use Rattle.geometry.specs.SessionLaws.{place_is_low}
use Rattle.geometry.specs.Sessions.{IsSessionPlace}
use Rattle.geometry.specs.SuperLaws.{layout_fits}
use Rattle.image_view.proofs.OtherSession.{all_of_each}
use Rattle.image_view.specs.BaseLaws.{copies-same, found-layout, found-mirrored, found-placed, found-trees, mirrored-inside, sets_in-ok}
use Rattle.image_view.specs.Bases.{AgreeInBucket}
use Rattle.image_view.specs.Found.{Found, IsAlike, IsMirrored, NodesAgree, PlacesAgree, are_mirrored, found, node_places, sets_in, updates_of}
use Rattle.image_view.specs.Trees.{SetsOf, Wanted, nodes_of}
use Rattle.key_codec.specs.Combined.{ok_is}
use Rattle.key_meaning.specs.Checks.{AreNodesPlaced, IsNodePlaced}
use Rattle.node_store.specs.Answers.{AgreeOn, AreAlike}
use Rattle.node_store.specs.Copies.{copies_at}
use Rattle.node_store.specs.Mending.{ArePlaced, CanBeMended}
use Rattle.node_store.specs.NodeContents.{NodeContent, wanted_of}
use Rattle.node_store.specs.StoredSets.{sets_of}
use Rattle.node_store.specs.Writes.{HaveCopies}
use Rattle.node_store.specs.declared.sets.StoredSets.{StoredSets}
use Rattle.record_codec.specs.Entries.{IsEntry}
use Rattle.vol_types.specs.Limits.{bucket_blocks}
use Rattle.vol_types.specs.declared.layout.Layout.{Layout}
use Rattle.vol_types.specs.declared.pointers.NodeEnd.{NodeEnd}
use Rattle.vol_types.specs.declared.pointers.NodePtr.{NodePtr}
use Rattle.vol_types.specs.declared.pointers.Place.{Place}
use Rattle.replay.specs.Mending.{IsJournalBlock}
use Rattle.replay.specs.Roots.{AreRootsAlike, IsMendedIn, IsOnMirror, IsRootBlock, listed_end}
use Rattle.replay.proofs.EndsRead.{IsIn, contained_in, end_of_one, has_end, trees_read_by}
use Rattle.replay.proofs.MendedMeaning.{behind_journal}
use Rattle.replay.proofs.OwnBirths.{one_birth}
use Rattle.replay.proofs.RootsRead.{roots_among}
use Rattle.replay.proofs.ShownSets.{block_shown, content_of_sets, sets_within}

-- ---- listed ends

-- Where all ends of a birth are one, that is the listed one.
pub listed_is : (ends : List NodeEnd) (birth block : ℕ) → Contains ends (record { birth = birth; block = block }) → ((end : NodeEnd) → Contains ends end → end.birth ≡ birth → end.block ≡ block) → listed_end ends birth ≡ Some block
listed_is [] birth block there one = absurd (let lower = there.1 in omega (arith, lower))
listed_is (end ∷ ends) birth block there one = by (end.birth == birth) refl (λ later. listed_is ends birth block later (λ e at. one e (suc at.0, (let lower = at.1 in omega (arith, lower)), at.2)))
  where
    behind : (end.birth == birth) ≡ false → Contains (end ∷ ends) (record { birth = birth; block = block }) → Contains ends (record { birth = birth; block = block })
    behind other (zero, within, at) = absurd (false≢true (sym other ∙ eq-eqb end.birth birth (ap (λ (e : NodeEnd). e.birth) at)))
    behind other (suc k, within, at) = (k, (let lower : k < length ends = omega (arith, within) in lower), at)

    by : (b : Bool) → (end.birth == birth) ≡ b → (Contains ends (record { birth = birth; block = block }) → listed_end ends birth ≡ Some block) → cond b (Some end.block) (listed_end ends birth) ≡ Some block
    by true is later = ap (λ n. Some n) (one end (0, omega arith, refl) (eqb-true end.birth birth is))
    by false is later = later (behind is there)

-- ---- images that agree on a node's buckets

module _ (one other : Image) (places : List Place) (agree : All (AgreeInBucket one other) places) where
  at_block : (place : Place) (n : ℕ) → Contains places place → n < bucket_blocks → block_at one place.dev (place.block + n) ≡ block_at other place.dev (place.block + n)
  at_block place n there below = All-contains (AgreeInBucket one other) places place agree there n below

  -- A node can be mended in both or in none.
  pub can_again : (layout : Layout) (birth end : ℕ) (sizes : List ℕ) → CanBeMended layout birth places end sizes one → CanBeMended layout birth places end sizes other
  can_again layout birth end sizes can = record {
    may = can.may;
    inside = can.inside;
    shown = λ n lower.
        let shown = can.shown n lower in
        let few = can.may.within in (
          shown.0,
          record { place = shown.1.place; one = shown.1.one; stands = sym (at_block shown.1.place n shown.1.one (omega (arith, lower, few))) ∙ shown.1.stands; opens = shown.1.opens },
        );
    agree = subst (λ copies. AgreeOn layout.id birth copies) (sym (copies-same one other places agree)) can.agree;
  }

-- ---- which sets a root has

module _ (image : Image) (f : Found) (is : found image ≡ Ok f) where
  abbrev nodes : List NodePtr
  nodes = nodes_of f.trees.nodes

  abbrev sets_by : SetsOf
  sets_by = sets_in f.layout image

  abbrev read_sets : NodePtr → StoredSets → Type 0
  read_sets node sets = sets_of (block_at image) f.layout.id node ≡ Ok sets

  -- What a node's sets come to ends where they do.
  sets_are : (node : NodePtr) (wanted : Wanted) (content : NodeContent) → wanted.pointer ≡ node → sets_by wanted ≡ Ok content → (sets : StoredSets) × read_sets node sets × (sets.end ≡ content.end)
  sets_are node wanted content same comes =
      let held = (sets_in-ok f.layout image wanted content comes).1 in
      let found = content_of_sets (copies_at (block_at image) wanted.pointer.places) f.layout.id (wanted_of wanted.btree wanted.least wanted.greatest wanted.pointer) content held in
      (found.0, subst (λ (p : NodePtr). read_sets p found.0) same found.1, found.2)

  ends_there : (node : NodePtr) (wanted : Wanted) (content : NodeContent) → wanted.pointer ≡ node → sets_by wanted ≡ Ok content → (sets : StoredSets) → read_sets node sets → sets.end ≡ content.end
  ends_there node wanted content same comes sets read =
      let are = sets_are node wanted content same comes in
      ap (λ (s : StoredSets). s.end) (ok_is sets are.0 (sym read ∙ are.1)) ∙ are.2

  -- A node that was read has sets, and their end is one that was found.
  pub has_sets : (node : NodePtr) → IsIn node nodes → (sets : StoredSets) × read_sets node sets
  has_sets node there =
      let has = has_end sets_by nodes f.trees.ends (trees_read_by sets_by (updates_of f.needed) f.last.entry.roots f.trees (found-trees image f is)).0 node there in
      let are = sets_are node has.wanted has.content has.pointer_is has.comes in
      (are.0, are.1)

  pub end_found : (node : NodePtr) → IsIn node nodes → (sets : StoredSets) → read_sets node sets → Contains f.trees.ends (record { birth = node.birth; block = sets.end })
  end_found node there sets read =
      let has = has_end sets_by nodes f.trees.ends (trees_read_by sets_by (updates_of f.needed) f.last.entry.roots f.trees (found-trees image f is)).0 node there in
      subst (λ n. Contains f.trees.ends (record { birth = node.birth; block = n })) (sym (ends_there node has.wanted has.content has.pointer_is has.comes sets read)) has.there

  -- Each end that was found of a node is where its sets end.
  end_of_sets : (node : NodePtr) → IsIn node nodes → (sets : StoredSets) → read_sets node sets → (end : NodeEnd) → Contains f.trees.ends end → end.birth ≡ node.birth → sets.end ≡ end.block
  end_of_sets node there sets read end found birth =
      let reads = trees_read_by sets_by (updates_of f.needed) f.last.entry.roots f.trees (found-trees image f is) in
      let one = end_of_one sets_by nodes f.trees.ends reads.0 end found in
      let same : one.wanted.pointer ≡ node = one_birth nodes reads.1 one.wanted.pointer node one.one there (one.born ∙ birth) in
      ends_there node one.wanted one.content same one.comes sets read ∙ one.end_is

  -- So that is its listed end.
  pub end_listed : (node : NodePtr) → IsIn node nodes → (sets : StoredSets) → read_sets node sets → listed_end f.trees.ends node.birth ≡ Some sets.end
  end_listed node there sets read = listed_is f.trees.ends node.birth sets.end (end_found node there sets read) (λ end found birth. sym (end_of_sets node there sets read end found birth))

  -- A node whose places show the same up to where its sets ended has the same sets on each.
  pub alike_then : (node : NodePtr) → IsIn node nodes → (sets : StoredSets) → read_sets node sets → (other : Image) → AreAlike sets.end (copies_at (block_at other) node.places) → IsAlike f other node
  alike_then node there sets read other alike end found birth =
      subst (λ n. AreAlike n (copies_at (block_at other) node.places)) (end_of_sets node there sets read end found birth) alike

  -- ---- which nodes can be mended

  module _ (placed : AreNodesPlaced (node_places f) f.layout) where
    fits : HasPlaces (map (λ blocks. length blocks) image) f.layout
    fits = has_places (map (λ blocks. length blocks) image) f.layout (layout_fits image f.layout (found-layout image f is))

    module _ (node : NodePtr) (there : IsIn node nodes) where
      one : Contains nodes node
      one = contained_in node nodes there

      places_placed : All (IsNodePlaced f.layout) node.places
      places_placed = All-contains (λ (n : NodePtr). All (IsNodePlaced f.layout) n.places) nodes node (all_of_each (IsNodePlaced f.layout) (λ (n : NodePtr). n.places) nodes placed.each) one

      mirrored : IsMirrored f.layout node
      mirrored = All-contains (IsMirrored f.layout) nodes node (found-mirrored image f is) one

      as_many : length node.places ≡ f.layout.metadata_replicas
      as_many = sym (length-map {B = ℕ} node.places (λ (place : Place). place.dev)) ∙ ap (λ (ds : List ℕ). length ds) mirrored ∙ length-range_with_len 0 f.layout.metadata_replicas

      device_at : (k : ℕ) (none : Place) → k < length node.places → (get_or node.places k none).dev ≡ k
      device_at k none lower =
          let few : k < f.layout.metadata_replicas = omega (arith, lower, as_many) in
          sym (get_or-map (λ (place : Place). place.dev) node.places k none 0 lower) ∙ ap (λ (ds : List ℕ). get_or ds k 0) mirrored
          ∙ get_or-range_with_len 0 f.layout.metadata_replicas k 0 few ∙ (let e : 0 + k ≡ k = omega arith in e)

      pub on_mirror : (place : Place) → Contains node.places place → place.dev < f.layout.metadata_replicas
      on_mirror place at =
          let device : place.dev ≡ at.0 = subst (λ (p : Place). p.dev ≡ at.0) at.2 (device_at at.0 place at.1) in
          let lower = at.1 in
          omega (arith, device, lower, as_many)

      pub on_mirrors : All (IsOnMirror f.layout) node.places
      on_mirrors k none lower =
          let device = device_at k none lower in
          omega (arith, device, lower, as_many)

      pub behind : (place : Place) → Contains node.places place → 16 + f.layout.journal ≤ place.block
      behind place at = behind_journal f.layout place.dev place.block fits.journal_whole (on_mirror place at) (All-contains (IsNodePlaced f.layout) node.places place places_placed at).behind

      pub are_placed : ArePlaced f.layout node.places
      are_placed k none lower = record { device = device_at k none lower; behind = behind (get_or node.places k none) (k, lower, get_or_default node.places k (get_or node.places k none) none lower) }

      have : (sizes : List ℕ) → is_layout_of sizes f.layout ≡ true → (n : ℕ) → n < bucket_blocks → HaveCopies sizes node.places n
      have sizes fit n below place at =
          let passes = All-contains (λ (n : NodePtr). are_mirrored f.layout 0 n.places ≡ true) nodes node (found-placed image f is) one in
          let inside = All-contains (λ (p : Place). p.block + bucket_blocks ≤ slice_index f.layout.blocks p.dev) node.places place (mirrored-inside f.layout node passes) at in
          let has = has_places sizes f.layout fit in
          let mirrors = has.mirrors in
          let mirror = on_mirror place at in
          let within : place.dev < length sizes = omega (arith, mirror, mirrors) in
          let longer = has.longer place.dev within in
          omega (arith, inside, longer, below)

      pub can_mend : (sizes : List ℕ) → is_layout_of sizes f.layout ≡ true → PlacesAgree f.layout.id image node → (sets : StoredSets) → read_sets node sets → CanBeMended f.layout node.birth node.places sets.end sizes image
      can_mend sizes fit agree sets read =
          let few = sets_within (copies_at (block_at image) node.places) f.layout.id node.birth sets read in
          record {
            may = record { placed = are_placed; within = few };
            inside = λ n lower. have sizes fit n (omega (arith, lower, few));
            shown = block_shown f.layout.id node.birth node.places image sets read;
            agree = agree;
          }

      -- The buckets are the same where sessions are sealed, and where the journal changes.
      pub buckets_same : (session : ℕ) (mid other : Image) → SameBut (IsSessionPlace f.layout session) image mid → SameBut (IsJournalBlock f.layout) mid other → All (AgreeInBucket image other) node.places
      buckets_same session mid other begun mended k none lower n below =
          let place = get_or node.places k none in
          let far = behind place (k, lower, get_or_default node.places k place none lower) in
          let low = place_is_low session in
          begun place.dev (place.block + n) (λ at. let here = at.1 in omega (arith, low, here, far))
          ∙ mended place.dev (place.block + n) (λ at. let within = at.within in omega (arith, within, far))

    -- Each block of a root is on a metadata device, behind its journal.
    pub root_far : IsEntry f.last.entry → (dev block : ℕ) → IsRootBlock f dev block → (dev < f.layout.metadata_replicas) × (16 + f.layout.journal ≤ block)
    root_far entry dev block at =
        let there = All-contains (λ (root : NodePtr). IsIn root nodes) f.last.entry.roots at.root (roots_among image f is entry) at.one in
        let copy = at.of_root.copy in
        let device = copy.2 in
        let lies = copy.3 in
        let mirror = on_mirror at.root there copy.0 copy.1 in
        let far = behind at.root there copy.0 copy.1 in
        ((let e : dev < f.layout.metadata_replicas = omega (arith, device, mirror) in e), (let e : 16 + f.layout.journal ≤ block = omega (arith, lies, far) in e))

-- ---- roots that were mended

-- Roots that were mended in an image with the same buckets have the same sets on every metadata device.
pub roots_alike : (image : Image) (f : Found) → found image ≡ Ok f → IsEntry f.last.entry → AreNodesPlaced (node_places f) f.layout → NodesAgree image f → (sizes : List ℕ) → is_layout_of sizes f.layout ≡ true
    → (mid other : Image) → ((node : NodePtr) → IsIn node (nodes_of f.trees.nodes) → All (AgreeInBucket image mid) node.places) → All (IsMendedIn f.layout f.trees.ends sizes mid other) f.last.entry.roots → AreRootsAlike f other
roots_alike image f is entry placed agree sizes fit mid other same mended k none lower =
    let root : NodePtr = get_or f.last.entry.roots k none in
    let there : IsIn root (nodes_of f.trees.nodes) = roots_among image f is entry k none lower in
    let sets = has_sets image f is root there in
    let can = can_mend image f is placed root there sizes fit (All-contains (PlacesAgree f.layout.id image) (nodes_of f.trees.nodes) root agree.each (contained_in root (nodes_of f.trees.nodes) there)) sets.0 sets.1 in
    alike_then image f is root there sets.0 sets.1 other
    (mended k none lower sets.0.end (end_listed image f is root there sets.0 sets.1) (on_mirrors image f is placed root there) (can_again image mid root.places (same root there) f.layout root.birth sets.0.end sizes can))
