-- A leaf that is frozen with the durable keys of its btree, in buckets that were free: all is kept, of it too.
use Rattle.std.proofs.Common.{◌≡◌, ℕ, ◌+◌, ◌*◌, ◌<◌, ◌≤◌, ◌^◌, ◌/◌, true, List, length, map, get_or, Option, None, Some, inl, sym, ap, subst, ◌∙◌, arith}
use Rattle.std.proofs.lemmas.List.{length-map}
use Rattle.std.proofs.lemmas.List.Elements.{All-contains, All-push, All-weaker}
use Rattle.std.proofs.lemmas.List.Quantifiers.{all_pairs_push}
use Rattle.std.specs.List.{flat_map}
use Rattle.std.specs.Prelude.{All, IfSome}
use Rattle.bucket_pool.specs.NodeBuckets.{AreInOtherBuckets, HoldsNode, IsHeldPast, KeepsNodes, MayHoldNode}
use Rattle.bucket_pool.specs.NodeLaws.{noded_keeps, taken_apart, taken_devices, taken_hold, taken_past_journal}
use Rattle.bucket_pool.specs.Space.{Space, have_free, node_places, noded}
use Rattle.dev_model.specs.Devices.{DevicesState}
use Rattle.image_view.specs.Found.{Found, IsMirrored, node_places as places_found, updates_of}
use Rattle.image_view.specs.Trees.{nodes_of}
use Rattle.journal_ring.specs.declared.found.FoundEntry.{FoundEntry}
use Rattle.crash_safety.specs.Writings.{Writing, after}
use Rattle.crash_safety.specs.Contents.{HoldsUpTo}
use Rattle.vol_types.specs.KeyMaps.{Entries, KeyMap, entries_of, with_updates}
use Rattle.vol_types.specs.LayoutLaws.{layout_found}
use Rattle.vol_types.specs.Limits.{bucket_blocks}
use Rattle.vol_types.specs.declared.pointers.NodePtr.{NodePtr}
use Rattle.vol_types.specs.declared.pointers.Place.{Place}
use Rattle.vol_types.specs.declared.positions.Btree.{Btree}
use Rattle.crash_safety.specs.KeptLeaves.{HoldsOwn, IsFreshKept, IsLeafPlanned, KeepsLeaves, LieWell, LiesApartFrom}
use Rattle.crash_safety.specs.CheckpointLeaves.{FreshLeaf, Leaves, LieApart}
use Rattle.crash_safety.specs.LeafSteps.{with_fresh}
use Rattle.crash_safety.proofs.ApartNodes.{apart_back, each_of_all, lie_back}

-- A node with the durable keys needs no pin.
abbrev pub DurableLaw : Type 0
DurableLaw = (needed : List FoundEntry) (before : KeyMap) (oldest : ℕ) (btree : Btree) (pin : Option ℕ) (entries : Entries) → entries ≡ entries_of (with_updates (updates_of needed) before) btree → HoldsUpTo needed before oldest btree pin entries

module _ (f : Found) (writing : Option Writing) (state : DevicesState) (l : Leaves) (fresh : FreshLeaf) (keeps : KeepsLeaves f writing state l) (free : have_free f.layout.metadata_replicas l.space ≡ true)
    (places : fresh.node.places ≡ node_places f.layout.metadata_replicas l.space) where
  abbrev mirrors : ℕ
  mirrors = f.layout.metadata_replicas

  abbrev taken : Space
  taken = noded mirrors l.space

  -- There are as many devices as mirrors, at least.
  enough : mirrors ≤ length l.space
  enough =
      let devices : length l.space ≡ length f.layout.blocks = sym (length-map l.space length) ∙ ap length keeps.lie.fixed.sizes ∙ length-map f.layout.blocks (λ (blocks : ℕ). blocks / bucket_blocks) in
      let few = (layout_found f.layout keeps.layout).metadata.1 in
      omega (arith, devices, few)

  at_places : (P : Place → Type 0) → All P (node_places mirrors l.space) → All P fresh.node.places
  at_places P all = subst (All P) (sym places) all

  placed : All (MayHoldNode f.layout) fresh.node.places
  placed = at_places (MayHoldNode f.layout)
      (All-weaker (λ (place : Place). (place.dev < f.layout.metadata_replicas) × MayHoldNode f.layout place) (MayHoldNode f.layout) (λ place is. is.1) (node_places mirrors l.space) (taken_past_journal f.layout mirrors l.space keeps.lie.fixed free (omega arith)))

  mirrored : IsMirrored f.layout fresh.node
  mirrored = ap (λ (ps : List Place). map (λ (place : Place). place.dev) ps) places ∙ taken_devices mirrors l.space enough

  kept : (past : ℕ) → KeepsNodes past l.space taken
  kept past = noded_keeps past mirrors l.space

  -- It lies apart from all that is held.
  apart_held : (past : ℕ) (node : NodePtr) → All (IsHeldPast past l.space) node.places → LieApart fresh.node node
  apart_held past node held place another here there =
      apart_back another place (All-contains (AreInOtherBuckets another) fresh.node.places place (at_places (AreInOtherBuckets another) (taken_apart past mirrors l.space another (All-contains (IsHeldPast past l.space) node.places another held there))) here)

  apart_own : (node : NodePtr) → HoldsOwn l.space node → LieApart fresh.node node
  apart_own node own = apart_held 0 node (λ k d within. inl (own k d within))

  apart_each : (past : ℕ) (nodes : List NodePtr) → All (IsHeldPast past l.space) (flat_map (λ (node : NodePtr). node.places) nodes) → LiesApartFrom nodes fresh
  apart_each past nodes held = All-weaker (λ (node : NodePtr). All (IsHeldPast past l.space) node.places) (LieApart fresh.node) (apart_held past) nodes (each_of_all (IsHeldPast past l.space) (λ (node : NodePtr). node.places) nodes held)

  own_kept : (node : NodePtr) → HoldsOwn l.space node → HoldsOwn taken node
  own_kept node own k d within = (kept 0).nodes (get_or node.places k d) (own k d within)

  held_kept : (past : ℕ) (ps : List Place) → All (IsHeldPast past l.space) ps → All (IsHeldPast past taken) ps
  held_kept past ps held k d within = (kept past).held (get_or ps k d) (held k d within)

  lie : LieWell f writing (with_fresh mirrors fresh l)
  lie = record {
    fixed = (kept 0).fixed f.layout keeps.lie.fixed;
    roots = λ btree. own_kept (l.root btree) (keeps.lie.roots btree);
    fresh = All-push (λ (leaf : FreshLeaf). HoldsOwn taken leaf.node) l.fresh fresh (λ k d within. own_kept (get_or l.fresh k d).node (keeps.lie.fresh k d within)) (at_places (HoldsNode taken) (taken_hold mirrors l.space free));
    found = held_kept f.last.entry.sequence (places_found f) keeps.lie.found;
    next = next_held writing keeps.lie.next;
    roots_placed = keeps.lie.roots_placed;
    found_placed = keeps.lie.found_placed;
    next_placed = keeps.lie.next_placed;
    roots_apart = keeps.lie.roots_apart;
    fresh_apart = all_pairs_push (λ (one other : FreshLeaf). LieApart one.node other.node) l.fresh fresh keeps.lie.fresh_apart
        (λ k d within. lie_back fresh.node (get_or l.fresh k d).node (apart_own (get_or l.fresh k d).node (keeps.lie.fresh k d within)));
    apart_roots = All-push (λ (leaf : FreshLeaf). (btree : Btree) → LieApart leaf.node (l.root btree)) l.fresh fresh keeps.lie.apart_roots (λ btree. apart_own (l.root btree) (keeps.lie.roots btree));
    apart_found = All-push (LiesApartFrom (nodes_of f.trees.nodes)) l.fresh fresh keeps.lie.apart_found (apart_each f.last.entry.sequence (nodes_of f.trees.nodes) keeps.lie.found);
    apart_next = next_apart writing keeps.lie.next keeps.lie.apart_next;
  }
    where
      next_held : (o : Option Writing) → IfSome o (λ w. All (IsHeldPast w.next.entry.sequence l.space) (places_found (after w f))) → IfSome o (λ w. All (IsHeldPast w.next.entry.sequence taken) (places_found (after w f)))
      next_held None held = tt
      next_held (Some w) held = held_kept w.next.entry.sequence (places_found (after w f)) held

      next_apart : (o : Option Writing) → IfSome o (λ w. All (IsHeldPast w.next.entry.sequence l.space) (places_found (after w f))) → IfSome o (λ w. All (LiesApartFrom (nodes_of (after w f).trees.nodes)) l.fresh)
          → IfSome o (λ w. All (LiesApartFrom (nodes_of (after w f).trees.nodes)) (with_fresh mirrors fresh l).fresh)
      next_apart None held apart = tt
      next_apart (Some w) held apart = All-push (LiesApartFrom (nodes_of (after w f).trees.nodes)) l.fresh fresh apart (apart_each w.next.entry.sequence (nodes_of (after w f).trees.nodes) held)

  pub frozen_kept : DurableLaw → fresh.node.level ≡ 0 → fresh.node.birth < (f.session + 1) * 2 ^ 32 → IsLeafPlanned f.layout.id fresh (entries_of f.trees.keys fresh.btree) → fresh.written ≡ 0 → KeepsLeaves f writing state (with_fresh mirrors fresh l)
  frozen_kept durable leaf born planned none = record {
    layout = keeps.layout;
    before = keeps.before;
    are_keys = keeps.are_keys;
    keys = keeps.keys;
    of_leaves = keeps.of_leaves;
    content = keeps.content;
    stand = keeps.stand;
    births = keeps.births;
    holds = keeps.holds;
    fresh = All-push (IsFreshKept f keeps.before state) l.fresh fresh keeps.fresh (record {
      leaf = leaf;
      mirrored = mirrored;
      placed = placed;
      born = born;
      entries = entries_of f.trees.keys fresh.btree;
      planned = planned;
      holds = durable f.needed keeps.before f.last.entry.oldest fresh.btree fresh.later (entries_of f.trees.keys fresh.btree) (ap (λ (keys : KeyMap). entries_of keys fresh.btree) keeps.keys);
      few = omega (arith, none);
      stand = λ part less place there. absurd (omega (arith, less, none));
    });
    lie = lie;
  }
