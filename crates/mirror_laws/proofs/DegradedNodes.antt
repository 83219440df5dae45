-- The btrees of an image are those of the degraded one, where each node stands whole on the device that is left.
use Rattle.std.proofs.Common.{◌≡◌, ⊎_elim, ℕ, zero, suc, ◌+◌, ◌<◌, ◌≤◌, cond, List, [], ◌∷◌, length, get_or, Ok, Err, refl, sym, ap, subst, ◌∙◌, arith}
use Rattle.std.proofs.lemmas.Bool.{cases_lt}
use Rattle.std.proofs.lemmas.List.{get_or-map, get_or_default, length-map}
use Rattle.std.proofs.lemmas.List.Elements.{All-contains, recursion_from_All}
use Rattle.std.proofs.lemmas.List.FromFn.{get_or-range_with_len, length-range_with_len}
use Rattle.std.specs.Prelude.{All, Contains, option_and_then}
use Rattle.dev_model.specs.Disk.{Image, block_at}
use Rattle.image_view.specs.BaseLaws.{mirrored-is, sets_in-ok}
use Rattle.image_view.specs.Bases.{AgreeAt}
use Rattle.image_view.specs.Found.{Found, IsMirrored, NodesAgree, PlacesAgree, are_mirrored, bad_place, sets_in, updates_of}
use Rattle.image_view.specs.TreeLaws.{HasSameSets, trees_of-same}
use Rattle.image_view.specs.Trees.{first_place, nodes_of, trees_of}
use Rattle.key_codec.specs.Formats.{carried}
use Rattle.node_store.specs.Copies.{Reading, block_in, copies_at, copy_at, shown_in}
use Rattle.node_store.specs.NodeContents.{content_if, wanted_of}
use Rattle.node_store.specs.StoredSets.{sets_of}
use Rattle.node_store.specs.declared.opening.OpenBlock.{OpenBlock}
use Rattle.node_store.specs.declared.sets.StoredSets.{StoredSets}
use Rattle.node_store.proofs.NoBlocks.{behind-copy_at, block_in-copy_at}
use Rattle.replay.specs.Roots.{Shows}
use Rattle.replay.proofs.EndsRead.{has_end, in_contained, trees_read_by}
use Rattle.replay.proofs.ShownSets.{content_of_sets}
use Rattle.vol_types.specs.declared.layout.Layout.{Layout}
use Rattle.vol_types.specs.declared.pointers.NodeEnd.{NodeEnd}
use Rattle.vol_types.specs.declared.pointers.NodePtr.{NodePtr}
use Rattle.vol_types.specs.declared.pointers.Place.{Place}
use Rattle.mirror_laws.specs.Degraded.{IsDegradedTo, IsLostAt}
use Rattle.mirror_laws.specs.Standing.{LacksNone, NodeStandsOn}
use Rattle.mirror_laws.proofs.KeptSets.{agree_still, held_still}
use Rattle.mirror_laws.proofs.LostBlocks.{copies_lost, lost_shows}

-- The copy at a place is one of the copies.
pub copy_there : (read : Reading) (places : List Place) (place : Place) → Contains places place → Contains (copies_at read places) (copy_at read place)
copy_there read [] place there = absurd (let lower = there.1 in omega (arith, lower))
copy_there read (p ∷ places) place (zero, within, at) = (0, omega arith, ap (copy_at read) at)
copy_there read (p ∷ places) place (suc k, within, at) =
    let rest = copy_there read places place (k, (let lower : k < length places = omega (arith, within) in lower), at) in
    (suc rest.0, (let lower = rest.1 in omega (arith, lower)), rest.2)

-- A node has a place on each metadata device.
place_on : (layout : Layout) (mirror : ℕ) (node : NodePtr) → IsMirrored layout node → mirror < layout.metadata_replicas → (place : Place) × Contains node.places place × (place.dev ≡ mirror)
place_on layout mirror node mirrored low =
    let none : Place = record { dev = 0; block = 0 } in
    let many : length node.places ≡ layout.metadata_replicas = sym (length-map {B = ℕ} node.places (λ (place : Place). place.dev)) ∙ ap (λ (ds : List ℕ). length ds) mirrored ∙ length-range_with_len 0 layout.metadata_replicas in
    let lower : mirror < length node.places = omega (arith, low, many) in
    let device : (get_or node.places mirror none).dev ≡ mirror =
    sym (get_or-map (λ (place : Place). place.dev) node.places mirror none 0 lower) ∙ ap (λ (ds : List ℕ). get_or ds mirror 0) mirrored
    ∙ get_or-range_with_len 0 layout.metadata_replicas mirror 0 low ∙ (let e : 0 + mirror ≡ mirror = omega arith in e) in
    (get_or node.places mirror none, (mirror, lower, get_or_default node.places mirror (get_or node.places mirror none) none lower), device)

module _ (layout : Layout) (mirror : ℕ) (low : mirror < layout.metadata_replicas) (one other : Image) (degraded : IsDegradedTo layout mirror one other) where
  -- What the device that is left holds stays.
  pub own_block : (block : ℕ) → block_at other mirror block ≡ block_at one mirror block
  own_block block = ⊎_elim
      (λ (same : AgreeAt one other mirror block). sym same)
      (λ (lost : IsLostAt layout mirror one other mirror block). absurd (lost.another refl))
      (degraded.each mirror block)

  own_copy : (place : Place) → place.dev ≡ mirror → (n : ℕ) → block_in (copy_at (block_at other) place) n ≡ block_in (copy_at (block_at one) place) n
  own_copy place on n = ⊎_elim
      (λ (less : n < 16).
      let same : block_at other place.dev (place.block + n) ≡ block_at one place.dev (place.block + n) =
      subst (λ (d : ℕ). block_at other d (place.block + n) ≡ block_at one d (place.block + n)) (sym on) (own_block (place.block + n)) in
      block_in-copy_at (block_at other) place n less ∙ ap (option_and_then shown_in) same ∙ sym (block_in-copy_at (block_at one) place n less))
      (λ (behind : 16 ≤ n). behind-copy_at (block_at other) place n behind ∙ sym (behind-copy_at (block_at one) place n behind))
      (cases_lt n 16)

  shows_before : (node : NodePtr) (n : ℕ) (x : OpenBlock) → Shows (copies_at (block_at other) node.places) n x → Shows (copies_at (block_at one) node.places) n x
  shows_before node = lost_shows (copies_at (block_at one) node.places) (copies_at (block_at other) node.places) (copies_lost layout mirror one other degraded node.places)

  -- ---- one node

  module _ (node : NodePtr) (agree : PlacesAgree layout.id one node) where
    -- Its places agree on it still,
    pub node_agrees : PlacesAgree layout.id other node
    node_agrees = agree_still layout.id node.birth (copies_at (block_at one) node.places) (copies_at (block_at other) node.places) agree (shows_before node)

    -- and where the copy on the device that is left lacks none of its blocks, it has the same sets.
    node_sets : (sets : StoredSets) → sets_of (block_at one) layout.id node ≡ Ok sets → (place : Place) → Contains node.places place → place.dev ≡ mirror → LacksNone layout.id node.birth sets.end (copies_at (block_at one) node.places) (copy_at (block_at one) place)
        → HasSameSets (sets_in layout one) (sets_in layout other) node
    node_sets sets is place there on lacks btree least greatest =
        ap (λ r. cond (are_mirrored layout 0 node.places) (carried (bad_place node) (content_if (wanted_of btree least greatest node) r)) (Err (first_place node)))
        (held_still layout.id node.birth (copies_at (block_at one) node.places) (copies_at (block_at other) node.places) agree (shows_before node) sets is
        (λ n x less of shows. (copy_at (block_at other) place, copy_there (block_at other) node.places place there, own_copy place on n ∙ lacks n x less of shows))
        ∙ sym is)

-- ---- all of them

module _ (f : Found) (mirror : ℕ) (low : mirror < f.layout.metadata_replicas) (one other : Image) (degraded : IsDegradedTo f.layout mirror one other)
    (stand : All (NodeStandsOn f mirror one) (nodes_of f.trees.nodes)) where
  -- The nodes go on standing whole there.
  pub nodes_stand : All (NodeStandsOn f mirror other) (nodes_of f.trees.nodes)
  nodes_stand k none lower =
      let node : NodePtr = get_or (nodes_of f.trees.nodes) k none in
      λ end found birth place there on n x less of shows.
      own_copy f.layout mirror low one other degraded place on n ∙ stand k none lower end found birth place there on n x less of (shows_before f.layout mirror low one other degraded node n x shows)

  module _ (read : trees_of (sets_in f.layout one) (updates_of f.needed) f.last.entry.roots ≡ Ok f.trees) (agree : NodesAgree one f) where
    has_same : (node : NodePtr) → Contains (nodes_of f.trees.nodes) node → HasSameSets (sets_in f.layout one) (sets_in f.layout other) node
    has_same node there =
        let ends = (trees_read_by (sets_in f.layout one) (updates_of f.needed) f.last.entry.roots f.trees read).0 in
        let has = has_end (sets_in f.layout one) (nodes_of f.trees.nodes) f.trees.ends ends node (in_contained node (nodes_of f.trees.nodes) there) in
        let held = sets_in-ok f.layout one has.wanted has.content has.comes in
        let wanted = has.wanted in
        let sets = content_of_sets (copies_at (block_at one) wanted.pointer.places) f.layout.id (wanted_of wanted.btree wanted.least wanted.greatest wanted.pointer) has.content held.1 in
        let mirrored : IsMirrored f.layout node = subst (λ (p : NodePtr). IsMirrored f.layout p) has.pointer_is (mirrored-is f.layout wanted.pointer held.0) in
        let place = place_on f.layout mirror node mirrored low in
        let is : sets_of (block_at one) f.layout.id node ≡ Ok sets.0 = subst (λ (p : NodePtr). sets_of (block_at one) f.layout.id p ≡ Ok sets.0) has.pointer_is sets.1 in
        let end : NodeEnd = record { birth = node.birth; block = has.content.end } in
        let lacks = All-contains (NodeStandsOn f mirror one) (nodes_of f.trees.nodes) node stand there end has.there refl place.0 place.1 place.2 in
        node_sets f.layout mirror low one other degraded node (All-contains (PlacesAgree f.layout.id one) (nodes_of f.trees.nodes) node agree.each there) sets.0 is place.0 place.1 place.2
        (subst (λ (n : ℕ). LacksNone f.layout.id node.birth n (copies_at (block_at one) node.places) (copy_at (block_at one) place.0)) (sym sets.2) lacks)

    -- What the roots and the updates of the needed entries mean is the same,
    pub trees_still : trees_of (sets_in f.layout other) (updates_of f.needed) f.last.entry.roots ≡ Ok f.trees
    trees_still = trees_of-same (sets_in f.layout one) (sets_in f.layout other) (updates_of f.needed) f.last.entry.roots f.trees read
        (recursion_from_All (HasSameSets (sets_in f.layout one) (sets_in f.layout other)) (nodes_of f.trees.nodes)
        (λ k none lower. has_same (get_or (nodes_of f.trees.nodes) k none) (k, lower, get_or_default (nodes_of f.trees.nodes) k (get_or (nodes_of f.trees.nodes) k none) none lower)))

-- and the places of the nodes agree on them.
pub nodes_agree_still : (f : Found) (mirror : ℕ) → mirror < f.layout.metadata_replicas → (one other : Image) → IsDegradedTo f.layout mirror one other → NodesAgree one f → NodesAgree other f
nodes_agree_still f mirror low one other degraded agree = record {
  each = λ k none lower. node_agrees f.layout mirror low one other degraded (get_or (nodes_of f.trees.nodes) k none) (agree.each k none lower);
}
