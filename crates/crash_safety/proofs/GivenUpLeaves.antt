-- Leaves that were written are given up: their buckets are free again, and all else is kept.
use Rattle.std.proofs.Common.{◌≡◌, ℕ, ◌+◌, ◌≤◌, List, get_or, Option, None, Some, arith}
use Rattle.std.proofs.lemmas.List.Elements.{All-contains, All-nil, Contains-get_or}
use Rattle.std.specs.List.{flat_map}
use Rattle.std.specs.Prelude.{All, Contains, IfSome}
use Rattle.bucket_pool.specs.NodeBuckets.{AreInOtherBuckets, IsHeldPast, KeepsNodes}
use Rattle.bucket_pool.specs.NodeLaws.{emptied_held_apart, settled_keeps}
use Rattle.bucket_pool.specs.Space.{Space, emptied_all}
use Rattle.dev_model.specs.Devices.{DevicesState}
use Rattle.image_view.specs.Found.{Found, node_places}
use Rattle.image_view.specs.Trees.{nodes_of}
use Rattle.crash_safety.specs.Writings.{Writing, after}
use Rattle.vol_types.specs.declared.pointers.NodePtr.{NodePtr}
use Rattle.vol_types.specs.declared.pointers.Place.{Place}
use Rattle.vol_types.specs.declared.positions.Btree.{Btree}
use Rattle.crash_safety.specs.KeptLeaves.{HoldsOwn, IsFreshKept, KeepsLeaves, LieWell, LiesApartFrom}
use Rattle.crash_safety.specs.CheckpointLeaves.{FreshLeaf, Leaves, LieApart, places_of_fresh}
use Rattle.crash_safety.specs.LeafSteps.{given_up}
use Rattle.crash_safety.proofs.ApartNodes.{all_emptied_fixed, all_of_each, each_of_all, emptied_each, own_emptied}

module _ (f : Found) (writing : Option Writing) (state : DevicesState) (l : Leaves) (keeps : KeepsLeaves f writing state l) where
  abbrev durable : ℕ
  durable = f.last.entry.sequence

  abbrev left : Leaves
  left = given_up durable l

  abbrev places : List Place
  places = places_of_fresh l.fresh

  abbrev made : Space
  made = emptied_all places durable l.space

  kept : (past : ℕ) → durable ≤ past → KeepsNodes past made left.space
  kept past less = settled_keeps past durable made less

  -- What lies apart from each of the leaves lies apart from their places.
  apart_places : (node : NodePtr) → All (λ (leaf : FreshLeaf). LieApart leaf.node node) l.fresh → (place another : Place) → Contains places place → Contains node.places another → AreInOtherBuckets place another
  apart_places node apart place another here there =
      All-contains (λ (p : Place). AreInOtherBuckets p another) places place
      (all_of_each (λ (p : Place). AreInOtherBuckets p another) (λ (leaf : FreshLeaf). leaf.node.places) l.fresh
      (λ k d within j e low. apart k d within (get_or (get_or l.fresh k d).node.places j e) another (Contains-get_or (get_or l.fresh k d).node.places j e low) there))
      here

  own_kept : (node : NodePtr) → All (λ (leaf : FreshLeaf). LieApart leaf.node node) l.fresh → HoldsOwn l.space node → HoldsOwn left.space node
  own_kept node apart own k d within = (kept durable (omega arith)).nodes (get_or node.places k d) (own_emptied durable places l.space node (apart_places node apart) own k d within)

  held_kept : (past : ℕ) (nodes : List NodePtr) → durable ≤ past → All (LiesApartFrom nodes) l.fresh → All (IsHeldPast past l.space) (flat_map (λ (node : NodePtr). node.places) nodes)
      → All (IsHeldPast past left.space) (flat_map (λ (node : NodePtr). node.places) nodes)
  held_kept past nodes less apart held = all_of_each (IsHeldPast past left.space) (λ (node : NodePtr). node.places) nodes (λ k d within j e low.
      let node = get_or nodes k d in
      let place = get_or node.places j e in
      (kept past less).held place
      (emptied_each (λ (space : Space). IsHeldPast past space place) durable places l.space
      (λ one space there was. emptied_held_apart past one durable space place (apart_places node (λ i c inside. apart i c inside k d within) one place there (Contains-get_or node.places j e low)) was)
      (each_of_all (IsHeldPast past l.space) (λ (n : NodePtr). n.places) nodes held k d within j e low)))

  lie : IfSome writing (λ w. w.next.entry.sequence ≡ durable + 1) → LieWell f writing left
  lie next_is = record {
    fixed = (kept durable (omega arith)).fixed f.layout (all_emptied_fixed f.layout durable places l.space keeps.lie.fixed);
    roots = λ btree. own_kept (l.root btree) (λ k d within. keeps.lie.apart_roots k d within btree) (keeps.lie.roots btree);
    fresh = All-nil (λ (leaf : FreshLeaf). HoldsOwn left.space leaf.node);
    found = held_kept durable (nodes_of f.trees.nodes) (omega arith) keeps.lie.apart_found keeps.lie.found;
    next = next_held writing next_is keeps.lie.apart_next keeps.lie.next;
    roots_placed = keeps.lie.roots_placed;
    found_placed = keeps.lie.found_placed;
    next_placed = keeps.lie.next_placed;
    roots_apart = keeps.lie.roots_apart;
    fresh_apart = λ i j d less within. absurd (omega (arith, within));
    apart_roots = All-nil (λ (leaf : FreshLeaf). (btree : Btree) → LieApart leaf.node (l.root btree));
    apart_found = All-nil (LiesApartFrom (nodes_of f.trees.nodes));
    apart_next = no_next writing;
  }
    where
      next_held : (o : Option Writing) → IfSome o (λ w. w.next.entry.sequence ≡ durable + 1) → IfSome o (λ w. All (LiesApartFrom (nodes_of (after w f).trees.nodes)) l.fresh)
          → IfSome o (λ w. All (IsHeldPast w.next.entry.sequence l.space) (node_places (after w f))) → IfSome o (λ w. All (IsHeldPast w.next.entry.sequence left.space) (node_places (after w f)))
      next_held None is apart held = tt
      next_held (Some w) is apart held = held_kept w.next.entry.sequence (nodes_of (after w f).trees.nodes) (omega (arith, is)) apart held

      no_next : (o : Option Writing) → IfSome o (λ w. All (LiesApartFrom (nodes_of (after w f).trees.nodes)) left.fresh)
      no_next None = tt
      no_next (Some w) = All-nil (LiesApartFrom (nodes_of (after w f).trees.nodes))

  pub given_up_kept : IfSome writing (λ w. w.next.entry.sequence ≡ durable + 1) → KeepsLeaves f writing state left
  given_up_kept next_is = record {
    layout = keeps.layout;
    before = keeps.before;
    are_keys = keeps.are_keys;
    keys = keeps.keys;
    of_leaves = keeps.of_leaves;
    content = keeps.content;
    stand = keeps.stand;
    births = keeps.births;
    holds = keeps.holds;
    fresh = All-nil (IsFreshKept f keeps.before state);
    lie = lie next_is;
  }
