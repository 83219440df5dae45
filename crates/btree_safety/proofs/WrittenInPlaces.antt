-- Buckets that are taken for a node, a node that is frozen for them, and nodes that are given up: all is kept.
use Rattle.std.proofs.Common.{◌≡◌, ℕ, ◌+◌, ◌*◌, ◌<◌, ◌≤◌, ◌^◌, ◌/◌, true, List, [], ◌∷◌, length, map, get_or, Option, None, Some, inl, sym, ap, subst, ◌∙◌, arith}
use Rattle.std.specs.List.{AllPairs, flat_map}
use Rattle.std.specs.Prelude.{All, Contains, IfSome}
use Rattle.std.proofs.lemmas.List.{length-map}
use Rattle.std.proofs.lemmas.List.Elements.{All-contains, All-head, All-nil, All-push, All-weaker, Contains-get_or}
use Rattle.std.proofs.lemmas.List.Quantifiers.{all_pairs_push}
use Rattle.bucket_pool.specs.NodeBuckets.{AreInOtherBuckets, HoldsNode, IsHeldPast, KeepsNodes, MayHoldNode}
use Rattle.bucket_pool.specs.NodeLaws.{emptied_held_apart, noded_keeps, settled_keeps, taken_apart, taken_devices, taken_hold, taken_past_journal}
use Rattle.bucket_pool.specs.Space.{Space, emptied_all, have_free, node_places, noded}
use Rattle.dev_model.specs.Devices.{DevicesState}
use Rattle.image_view.specs.Found.{Found, node_places as places_found}
use Rattle.image_view.specs.Trees.{nodes_of}
use Rattle.key_meaning.specs.Checks.{IsNodePlaced}
use Rattle.vol_types.specs.KeyMaps.{KeyMap, value_in}
use Rattle.vol_types.specs.LayoutLaws.{layout_found}
use Rattle.vol_types.specs.Limits.{bucket_blocks}
use Rattle.vol_types.specs.Maps.{value_at}
use Rattle.vol_types.specs.Positions.{pos_cmp}
use Rattle.vol_types.specs.declared.pointers.NodePtr.{NodePtr}
use Rattle.vol_types.specs.declared.pointers.Place.{Place}
use Rattle.vol_types.specs.declared.positions.Pos.{Pos}
use Rattle.crash_safety.specs.KeptLeaves.{HoldsOwn}
use Rattle.crash_safety.specs.Writings.{Writing, after}
use Rattle.btree_safety.specs.CheckpointBtrees.{Btrees, FreshNode, IsOwnPosition, given_up, own_places, with_fresh, with_taken}
use Rattle.btree_safety.specs.FreshNodes.{AreBlocksPlanned, content_of_set}
use Rattle.btree_safety.specs.KeptBtrees.{ArePlacesApart, ArePlacesTaken, IsFreshKept, KeepsBtrees, LieApartFrom}
use Rattle.btree_safety.proofs.AllNodes.{All-right}
use Rattle.btree_safety.proofs.ApartNodes.{all_emptied_fixed, all_of_each, apart_back, each_of_all, emptied_each, may_lie, own_emptied}
use Rattle.btree_safety.proofs.OwnPlaces.{frozen_places, taken_places}
use Rattle.btree_safety.proofs.Pinned.{durable}

-- Places that lie apart do so either way.
places_back : (one other : List Place) → ArePlacesApart one other → ArePlacesApart other one
places_back one other apart place another here there = apart_back another place (apart another place there here)

-- ---- places that are taken

module _ (f : Found) (writing : Option Writing) (state : DevicesState) (b : Btrees) (keeps : KeepsBtrees f writing state b) (free : have_free f.layout.metadata_replicas b.space ≡ true) where
  abbrev mirrors : ℕ
  mirrors = f.layout.metadata_replicas

  abbrev more : List Place
  more = node_places mirrors b.space

  abbrev with_them : Space
  with_them = noded mirrors b.space

  -- There are as many devices as mirrors, at least.
  enough : mirrors ≤ length b.space
  enough =
      let devices : length b.space ≡ length f.layout.blocks = sym (length-map b.space length) ∙ ap length keeps.lie.fixed.sizes ∙ length-map f.layout.blocks (λ (blocks : ℕ). blocks / bucket_blocks) in
      let few = (layout_found f.layout keeps.layout).metadata.1 in
      omega (arith, devices, few)

  kept : (past : ℕ) → KeepsNodes past b.space with_them
  kept past = noded_keeps past mirrors b.space

  are_taken : ArePlacesTaken f.layout with_them more
  are_taken = record {
    mirrored = taken_devices mirrors b.space enough;
    hold = taken_hold mirrors b.space free;
    may = All-weaker (λ (place : Place). (place.dev < f.layout.metadata_replicas) × MayHoldNode f.layout place) (MayHoldNode f.layout) (λ place is. is.1) more (taken_past_journal f.layout mirrors b.space keeps.lie.fixed free (omega arith));
  }

  -- They lie apart from all that is held.
  apart_held : (past : ℕ) (places : List Place) → All (IsHeldPast past b.space) places → ArePlacesApart more places
  apart_held past places held place another here there = apart_back another place (All-contains (AreInOtherBuckets another) more place (taken_apart past mirrors b.space another (All-contains (IsHeldPast past b.space) places another held there)) here)

  apart_own : (places : List Place) → All (HoldsNode b.space) places → ArePlacesApart more places
  apart_own places own = apart_held 0 places (λ k d within. inl (own k d within))

  apart_each : (past : ℕ) (nodes : List NodePtr) → All (IsHeldPast past b.space) (flat_map (λ (other : NodePtr). other.places) nodes) → LieApartFrom nodes more
  apart_each past nodes held = All-weaker (λ (other : NodePtr). All (IsHeldPast past b.space) other.places) (λ (other : NodePtr). ArePlacesApart more other.places) (λ other. apart_held past other.places) nodes
      (each_of_all (IsHeldPast past b.space) (λ (other : NodePtr). other.places) nodes held)

  own_kept : (places : List Place) → All (HoldsNode b.space) places → All (HoldsNode with_them) places
  own_kept places own k d within = (kept 0).nodes (get_or places k d) (own k d within)

  held_kept : (past : ℕ) (ps : List Place) → All (IsHeldPast past b.space) ps → All (IsHeldPast past with_them) ps
  held_kept past ps held k d within = (kept past).held (get_or ps k d) (held k d within)

  -- What holds of all own places and of these holds of all then.
  one_more : (P : List Place → Type 0) → All P (own_places b) → P more → All P (own_places (with_taken mirrors b))
  one_more P all own = subst (All P) (sym (taken_places b more)) (All-push P (own_places b) more all own)

  pub taken_kept : KeepsBtrees f writing state (with_taken mirrors b)
  taken_kept = record {
    layout = keeps.layout;
    before = keeps.before;
    are_keys = keeps.are_keys;
    widths = keeps.widths;
    keys = keeps.keys;
    of_leaves = keeps.of_leaves;
    content = keeps.content;
    stand = keeps.stand;
    holds = keeps.holds;
    fresh = keeps.fresh;
    lie = record {
      fixed = (kept 0).fixed f.layout keeps.lie.fixed;
      nodes = All-weaker (HoldsOwn b.space) (HoldsOwn with_them) (λ node. own_kept node.places) (nodes_of b.trees) keeps.lie.nodes;
      own = one_more (ArePlacesTaken f.layout with_them) (All-weaker (ArePlacesTaken f.layout b.space) (ArePlacesTaken f.layout with_them) (λ places was. record { mirrored = was.mirrored; hold = own_kept places was.hold; may = was.may }) (own_places b) keeps.lie.own) are_taken;
      found = held_kept f.last.entry.sequence (places_found f) keeps.lie.found;
      next = next_held writing keeps.lie.next;
      nodes_placed = keeps.lie.nodes_placed;
      found_placed = keeps.lie.found_placed;
      next_placed = keeps.lie.next_placed;
      own_apart = subst (AllPairs ArePlacesApart) (sym (taken_places b more)) (all_pairs_push ArePlacesApart (own_places b) more keeps.lie.own_apart
          (λ k d within. places_back more (get_or (own_places b) k d) (apart_own (get_or (own_places b) k d) (keeps.lie.own k d within).hold)));
      apart_nodes = one_more (LieApartFrom (nodes_of b.trees)) keeps.lie.apart_nodes (All-weaker (HoldsOwn b.space) (λ (node : NodePtr). ArePlacesApart more node.places) (λ node. apart_own node.places) (nodes_of b.trees) keeps.lie.nodes);
      apart_found = one_more (LieApartFrom (nodes_of f.trees.nodes)) keeps.lie.apart_found (apart_each f.last.entry.sequence (nodes_of f.trees.nodes) keeps.lie.found);
      apart_next = next_apart writing keeps.lie.next keeps.lie.apart_next;
    };
  }
    where
      next_held : (o : Option Writing) → IfSome o (λ w. All (IsHeldPast w.next.entry.sequence b.space) (places_found (after w f))) → IfSome o (λ w. All (IsHeldPast w.next.entry.sequence with_them) (places_found (after w f)))
      next_held None held = tt
      next_held (Some w) held = held_kept w.next.entry.sequence (places_found (after w f)) held

      next_apart : (o : Option Writing) → IfSome o (λ w. All (IsHeldPast w.next.entry.sequence b.space) (places_found (after w f))) → IfSome o (λ w. All (LieApartFrom (nodes_of (after w f).trees.nodes)) (own_places b))
          → IfSome o (λ w. All (LieApartFrom (nodes_of (after w f).trees.nodes)) (own_places (with_taken mirrors b)))
      next_apart None held apart = tt
      next_apart (Some w) held apart = one_more (LieApartFrom (nodes_of (after w f).trees.nodes)) apart (apart_each w.next.entry.sequence (nodes_of (after w f).trees.nodes) held)

-- ---- a node that is frozen for them

module _ (f : Found) (writing : Option Writing) (state : DevicesState) (b : Btrees) (fresh : FreshNode) (taken : List (List Place)) (keeps : KeepsBtrees f writing state b) (list : b.taken ≡ fresh.wanted.pointer.places ∷ taken) where
  abbrev node : NodePtr
  node = fresh.wanted.pointer

  -- Its places are the first of those that were taken.
  own_taken : ArePlacesTaken f.layout b.space node.places
  own_taken = All-head (ArePlacesTaken f.layout b.space) node.places taken (subst (All (ArePlacesTaken f.layout b.space)) list (All-right (ArePlacesTaken f.layout b.space) (map (λ (one : FreshNode). one.wanted.pointer.places) b.fresh) b.taken keeps.lie.own))

  same_places : own_places (with_fresh fresh taken b) ≡ own_places b
  same_places = frozen_places b fresh taken list

  pub frozen_kept : node.birth < (f.session + 1) * 2 ^ 32 → AreBlocksPlanned f.layout.id fresh.wanted fresh.set fresh.blocked
      → ((pos : Pos) → IsOwnPosition fresh pos → value_at pos_cmp pos (content_of_set fresh.set).entries ≡ value_in f.trees.keys fresh.wanted.btree pos) → fresh.written ≡ 0 → KeepsBtrees f writing state (with_fresh fresh taken b)
  frozen_kept born planned durable_keys none = record {
    layout = keeps.layout;
    before = keeps.before;
    are_keys = keeps.are_keys;
    widths = keeps.widths;
    keys = keeps.keys;
    of_leaves = keeps.of_leaves;
    content = keeps.content;
    stand = keeps.stand;
    holds = keeps.holds;
    fresh = All-push (IsFreshKept f keeps.before state) b.fresh fresh keeps.fresh (record {
      stands = record {
        planned = record { blocks = planned; mirrored = own_taken.mirrored; born = born; placed = All-weaker (MayHoldNode f.layout) (IsNodePlaced f.layout) (may_lie f.layout) node.places own_taken.may };
        few = omega (arith, none);
        stand = λ part less place there. absurd (omega (arith, less, none));
      };
      holds = λ pos own. durable f.needed keeps.before f.last.entry.oldest fresh.wanted.btree fresh.later (content_of_set fresh.set).entries pos (durable_keys pos own ∙ ap (λ (keys : KeyMap). value_in keys fresh.wanted.btree pos) keeps.keys);
    });
    lie = record {
      fixed = keeps.lie.fixed;
      nodes = keeps.lie.nodes;
      own = subst (All (ArePlacesTaken f.layout b.space)) (sym same_places) keeps.lie.own;
      found = keeps.lie.found;
      next = keeps.lie.next;
      nodes_placed = keeps.lie.nodes_placed;
      found_placed = keeps.lie.found_placed;
      next_placed = keeps.lie.next_placed;
      own_apart = subst (AllPairs ArePlacesApart) (sym same_places) keeps.lie.own_apart;
      apart_nodes = subst (All (LieApartFrom (nodes_of b.trees))) (sym same_places) keeps.lie.apart_nodes;
      apart_found = subst (All (LieApartFrom (nodes_of f.trees.nodes))) (sym same_places) keeps.lie.apart_found;
      apart_next = next_apart writing keeps.lie.apart_next;
    };
  }
    where
      next_apart : (o : Option Writing) → IfSome o (λ w. All (LieApartFrom (nodes_of (after w f).trees.nodes)) (own_places b)) → IfSome o (λ w. All (LieApartFrom (nodes_of (after w f).trees.nodes)) (own_places (with_fresh fresh taken b)))
      next_apart None apart = tt
      next_apart (Some w) apart = subst (All (LieApartFrom (nodes_of (after w f).trees.nodes))) (sym same_places) apart

-- ---- nodes that are given up

module _ (f : Found) (writing : Option Writing) (state : DevicesState) (b : Btrees) (keeps : KeepsBtrees f writing state b) where
  abbrev sequence : ℕ
  sequence = f.last.entry.sequence

  abbrev left : Btrees
  left = given_up sequence b

  abbrev freed : List Place
  freed = flat_map (λ (places : List Place). places) (own_places b)

  abbrev made : Space
  made = emptied_all freed sequence b.space

  settled : (past : ℕ) → sequence ≤ past → KeepsNodes past made left.space
  settled past less = settled_keeps past sequence made less

  -- What lies apart from each of them lies apart from all.
  apart_places : (other : NodePtr) → All (λ (places : List Place). ArePlacesApart places other.places) (own_places b) → (place another : Place) → Contains freed place → Contains other.places another → AreInOtherBuckets place another
  apart_places other apart place another here there =
      All-contains (λ (p : Place). AreInOtherBuckets p another) freed place
      (all_of_each (λ (p : Place). AreInOtherBuckets p another) (λ (places : List Place). places) (own_places b)
      (λ k d within j e low. apart k d within (get_or (get_or (own_places b) k d) j e) another (Contains-get_or (get_or (own_places b) k d) j e low) there))
      here

  own_left : (other : NodePtr) → All (λ (places : List Place). ArePlacesApart places other.places) (own_places b) → HoldsOwn b.space other → HoldsOwn left.space other
  own_left other apart own k d within = (settled sequence (omega arith)).nodes (get_or other.places k d) (own_emptied sequence freed b.space other (apart_places other apart) own k d within)

  held_left : (past : ℕ) (nodes : List NodePtr) → sequence ≤ past → All (LieApartFrom nodes) (own_places b) → All (IsHeldPast past b.space) (flat_map (λ (other : NodePtr). other.places) nodes)
      → All (IsHeldPast past left.space) (flat_map (λ (other : NodePtr). other.places) nodes)
  held_left past nodes less apart held = all_of_each (IsHeldPast past left.space) (λ (other : NodePtr). other.places) nodes (λ k d within j e low.
      let other = get_or nodes k d in
      let place = get_or other.places j e in
      (settled past less).held place
      (emptied_each (λ (space : Space). IsHeldPast past space place) sequence freed b.space
      (λ one space there was. emptied_held_apart past one sequence space place (apart_places other (λ i c inside. apart i c inside k d within) one place there (Contains-get_or other.places j e low)) was)
      (each_of_all (IsHeldPast past b.space) (λ (n : NodePtr). n.places) nodes held k d within j e low)))

  pub given_up_kept : IfSome writing (λ w. w.next.entry.sequence ≡ f.last.entry.sequence + 1) → KeepsBtrees f writing state left
  given_up_kept follows = record {
    layout = keeps.layout;
    before = keeps.before;
    are_keys = keeps.are_keys;
    widths = keeps.widths;
    keys = keeps.keys;
    of_leaves = keeps.of_leaves;
    content = keeps.content;
    stand = keeps.stand;
    holds = keeps.holds;
    fresh = All-nil (IsFreshKept f keeps.before state);
    lie = record {
      fixed = (settled sequence (omega arith)).fixed f.layout (all_emptied_fixed f.layout sequence freed b.space keeps.lie.fixed);
      nodes = λ k d within. own_left (get_or (nodes_of b.trees) k d) (λ i c inside. keeps.lie.apart_nodes i c inside k d within) (keeps.lie.nodes k d within);
      own = All-nil (ArePlacesTaken f.layout left.space);
      found = held_left sequence (nodes_of f.trees.nodes) (omega arith) keeps.lie.apart_found keeps.lie.found;
      next = next_held writing follows keeps.lie.apart_next keeps.lie.next;
      nodes_placed = keeps.lie.nodes_placed;
      found_placed = keeps.lie.found_placed;
      next_placed = keeps.lie.next_placed;
      own_apart = λ i j d less within. absurd (omega (arith, within));
      apart_nodes = All-nil (LieApartFrom (nodes_of b.trees));
      apart_found = All-nil (LieApartFrom (nodes_of f.trees.nodes));
      apart_next = none_next writing;
    };
  }
    where
      next_held : (o : Option Writing) → IfSome o (λ w. w.next.entry.sequence ≡ f.last.entry.sequence + 1) → IfSome o (λ w. All (LieApartFrom (nodes_of (after w f).trees.nodes)) (own_places b))
          → IfSome o (λ w. All (IsHeldPast w.next.entry.sequence b.space) (places_found (after w f))) → IfSome o (λ w. All (IsHeldPast w.next.entry.sequence left.space) (places_found (after w f)))
      next_held None follows apart held = tt
      next_held (Some w) follows apart held = held_left w.next.entry.sequence (nodes_of (after w f).trees.nodes) (omega (arith, follows)) apart held

      none_next : (o : Option Writing) → IfSome o (λ w. All (LieApartFrom (nodes_of (after w f).trees.nodes)) [])
      none_next None = tt
      none_next (Some w) = All-nil (LieApartFrom (nodes_of (after w f).trees.nodes))
