-- At the opening all is kept of the btrees that were found; it is where an entry is put in flight that names their roots, and where it becomes
-- durable.
use Rattle.std.proofs.Common.{◌≡◌, ℕ, ◌+◌, ◌≤◌, List, [], ◌∷◌, ◌++◌, length, map, take, drop, get_or, None, Some, inl, sym, true, ap, subst, ◌∙◌, arith}
use Rattle.std.specs.List.{AllPairs, flat_map}
use Rattle.std.specs.Prelude.{All, Contains}
use Rattle.std.proofs.lemmas.List.{take-append-drop}
use Rattle.std.proofs.lemmas.List.Elements.{All-nil, All-same}
use Rattle.bucket_pool.specs.NodeBuckets.{AreFixed, IsHeldPast, KeepsNodes}
use Rattle.bucket_pool.specs.NodeLaws.{settled_keeps}
use Rattle.bucket_pool.specs.Space.{settled_space}
use Rattle.dev_model.specs.Devices.{DevicesState, now}
use Rattle.dev_model.specs.Disk.{as_read}
use Rattle.image_view.specs.EntryUpdates.{updates_of-append}
use Rattle.image_view.specs.Found.{Found, IsAlike, node_places, sets_in, updates_of}
use Rattle.image_view.specs.Trees.{SetsOf, nodes_of}
use Rattle.image_view.specs.UpdatedTrees.{IsOfLeaf}
use Rattle.journal_ring.specs.declared.found.FoundEntry.{FoundEntry}
use Rattle.replay.specs.Mending.{IsInOrderOn}
use Rattle.tree_nodes.specs.Levels.{Levels}
use Rattle.vol_types.specs.KeyMaps.{IsKeyMap, KeyMap, with_updates}
use Rattle.vol_types.specs.Layouts.{is_layout}
use Rattle.vol_types.specs.declared.pointers.NodePtr.{NodePtr}
use Rattle.vol_types.specs.declared.pointers.Place.{Place}
use Rattle.vol_types.specs.declared.positions.Btree.{Btree}
use Rattle.btree_laws.specs.HeldContents.{held_in}
use Rattle.btree_laws.specs.Standing.{Contents, keys_in_leaves}
use Rattle.crash_safety.specs.Contents.{IsPinnedUpTo}
use Rattle.crash_safety.specs.KeptLeaves.{HoldsOwn}
use Rattle.crash_safety.specs.Writings.{Writing, after}
use Rattle.btree_safety.specs.CheckpointBtrees.{Btrees, FreshNode, HoldBack, HoldsBack, own_places, settled_btrees}
use Rattle.btree_safety.specs.FreshNodes.{content_of_set}
use Rattle.btree_safety.specs.KeptBtrees.{ArePlacesApart, ArePlacesTaken, IsFreshKept, KeepsBtrees, LieApartFrom, LieWell, MayLie}
use Rattle.btree_safety.specs.KeptKeys.{ArePinned, HoldUpTo, HoldsAt}
use Rattle.btree_safety.specs.NextBtrees.{writing_of_btrees}
use Rattle.btree_safety.specs.StandingNodes.{BtreesStand}
use Rattle.btree_safety.proofs.AllNodes.{All-left}
use Rattle.btree_safety.proofs.ApartNodes.{all_of_each}
use Rattle.btree_safety.proofs.ExchangedLeaves.{ReadLaws, own_value}
use Rattle.btree_safety.proofs.FoundBtrees.{FoundLaw, found_keys, found_stand}
use Rattle.btree_safety.proofs.NamedBtrees.{next_of_leaves}
use Rattle.btree_safety.proofs.Pinned.{CountLaws, begins, shifts}
use Rattle.btree_safety.proofs.WidePositions.{updates_fit}

-- What holds of the places of each node holds of those of all.
each_place : (sequence : ℕ) (b : Btrees) (nodes : List NodePtr) → All (HoldsOwn b.space) nodes → All (IsHeldPast sequence b.space) (flat_map (λ (node : NodePtr). node.places) nodes)
each_place sequence b nodes own = all_of_each (IsHeldPast sequence b.space) (λ (node : NodePtr). node.places) nodes (λ k d within j e low. inl (own k d within j e low))

-- ---- the opening

module _ (found_law : FoundLaw) (reads : ReadLaws) (f : Found) (state : DevicesState) (b : Btrees) (on : IsInOrderOn f (now state)) (leaves : All IsOfLeaf (updates_of f.needed)) (alike : All (IsAlike f (as_read (now state))) (nodes_of f.trees.nodes))
    (roots : b.roots ≡ f.last.entry.roots) (trees : b.trees ≡ f.trees.nodes) (none : b.fresh ≡ []) (no_taken : b.taken ≡ []) where
  abbrev sets : SetsOf
  sets = sets_in f.layout (as_read (now state))

  abbrev content : Btree → Contents
  content btree = held_in f.layout (as_read (now state))

  stand : BtreesStand f.layout f.session b.roots b.trees content state
  stand = subst (λ (rs : List NodePtr). BtreesStand f.layout f.session rs b.trees content state) (sym roots)
      (subst (λ (ts : List Levels). BtreesStand f.layout f.session f.last.entry.roots ts content state) (sym trees) (found_stand found_law f state on leaves alike))

  abbrev before : KeyMap
  before = keys_in_leaves content b.trees

  keys : f.trees.keys ≡ with_updates (updates_of f.needed) before
  keys = found_keys found_law f state on leaves ∙ ap (λ (ts : List Levels). with_updates (updates_of f.needed) (keys_in_leaves content ts)) (sym trees)

  no_fresh : (P : FreshNode → Type 0) → All P b.fresh
  no_fresh P = All-same P b.fresh [] none (All-nil P)

  none_own : own_places b ≡ []
  none_own = (λ i. map (λ (fresh : FreshNode). fresh.wanted.pointer.places) (none i) ++ no_taken i)

  no_own : (P : List Place → Type 0) → All P (own_places b)
  no_own P = All-same P (own_places b) [] none_own (All-nil P)

  holds : ((found : FoundEntry) → Contains f.needed found → ArePinned found b.trees b.pin f.last.entry.oldest) → HoldUpTo f.needed before f.last.entry.oldest b.trees b.pin content
  holds pinned btree pos leaf fits covers =
      begins f.needed before f.last.entry.oldest btree (b.pin leaf.1.birth) (content btree leaf.1).entries pos (sym (own_value reads sets b.roots b.trees content stand.stand btree pos leaf fits covers)) (λ found there changes. pinned found there btree pos leaf covers changes)

  lie : AreFixed f.layout b.space → All (HoldsOwn b.space) (nodes_of b.trees) → All (MayLie f.layout) (nodes_of b.trees) → LieWell f None b
  lie fixed own may = record {
    fixed = fixed;
    nodes = own;
    own = no_own (ArePlacesTaken f.layout b.space);
    found = each_place f.last.entry.sequence b (nodes_of f.trees.nodes) (subst (λ (ts : List Levels). All (HoldsOwn b.space) (nodes_of ts)) trees own);
    next = tt;
    nodes_placed = may;
    found_placed = subst (λ (ts : List Levels). All (MayLie f.layout) (nodes_of ts)) trees may;
    next_placed = tt;
    own_apart = subst (AllPairs ArePlacesApart) (sym none_own) (λ i j d less within. absurd (omega (arith, within)));
    apart_nodes = no_own (LieApartFrom (nodes_of b.trees));
    apart_found = no_own (LieApartFrom (nodes_of f.trees.nodes));
    apart_next = tt;
  }

  pub begun_kept : is_layout f.layout ≡ true → AreFixed f.layout b.space → All (HoldsOwn b.space) (nodes_of b.trees) → All (MayLie f.layout) (nodes_of b.trees) → ((found : FoundEntry) → Contains f.needed found → ArePinned found b.trees b.pin f.last.entry.oldest) → KeepsBtrees f None state b
  begun_kept layout fixed own may pinned = record {
    layout = layout;
    before = before;
    are_keys = reads.maps sets b.roots b.trees content stand.stand;
    widths = reads.widths sets b.roots b.trees content stand.stand;
    keys = keys;
    of_leaves = leaves;
    content = content;
    stand = stand;
    holds = holds pinned;
    fresh = no_fresh (IsFreshKept f before state);
    lie = lie fixed own may;
  }

-- ---- an entry that names them

module _ (f : Found) (state : DevicesState) (b : Btrees) (keeps : KeepsBtrees f None state b) (passed : ℕ) (next : FoundEntry) (blocks : List (List ℕ)) where
  abbrev w : Writing
  w = writing_of_btrees f b.trees keeps.content passed next blocks

  pub named_kept : KeepsBtrees f (Some w) state b
  named_kept = record {
    layout = keeps.layout;
    before = keeps.before;
    are_keys = keeps.are_keys;
    widths = keeps.widths;
    keys = keeps.keys;
    of_leaves = keeps.of_leaves;
    content = keeps.content;
    stand = keeps.stand;
    holds = keeps.holds;
    fresh = keeps.fresh;
    lie = record {
      fixed = keeps.lie.fixed;
      nodes = keeps.lie.nodes;
      own = keeps.lie.own;
      found = keeps.lie.found;
      next = each_place next.entry.sequence b (nodes_of b.trees) keeps.lie.nodes;
      nodes_placed = keeps.lie.nodes_placed;
      found_placed = keeps.lie.found_placed;
      next_placed = keeps.lie.nodes_placed;
      own_apart = keeps.lie.own_apart;
      apart_nodes = keeps.lie.apart_nodes;
      apart_found = keeps.lie.apart_found;
      apart_next = keeps.lie.apart_nodes;
    };
  }

-- ---- the entry once it is durable

-- The keys once the first needed entries are passed and a next one is durable.
pub record ShiftLaws : Type 0 where
  pub keys : (needed : List FoundEntry) (before : KeyMap) (passed : ℕ) (next : FoundEntry) → with_updates next.entry.updates (with_updates (updates_of needed) before) ≡ with_updates (updates_of (drop passed needed ++ next ∷ [])) (with_updates (updates_of (take passed needed)) before)
  pub map : (needed : List FoundEntry) (before : KeyMap) (passed : ℕ) → IsKeyMap before → IsKeyMap (with_updates (updates_of (take passed needed)) before)

-- The updates of the first entries are of leaves where all are.
first_of_leaves : (passed : ℕ) (needed : List FoundEntry) → All IsOfLeaf (updates_of needed) → All IsOfLeaf (updates_of (take passed needed))
first_of_leaves passed needed leaves =
    All-left IsOfLeaf (updates_of (take passed needed)) (updates_of (drop passed needed)) (subst (All IsOfLeaf) (ap updates_of (sym (take-append-drop passed needed)) ∙ updates_of-append (take passed needed) (drop passed needed)) leaves)

module _ (counts : CountLaws) (laws : ShiftLaws) (f : Found) (w : Writing) (state : DevicesState) (b : Btrees) (keeps : KeepsBtrees f (Some w) state b) where
  abbrev sequence : ℕ
  sequence = w.next.entry.sequence

  nodes_kept : KeepsNodes sequence b.space (settled_space sequence b.space)
  nodes_kept = settled_keeps sequence sequence b.space (omega arith)

  settled_lie : LieWell (after w f) None (settled_btrees sequence b)
  settled_lie = record {
    fixed = nodes_kept.fixed f.layout keeps.lie.fixed;
    nodes = λ k d within j e low. nodes_kept.nodes (get_or (get_or (nodes_of b.trees) k d).places j e) (keeps.lie.nodes k d within j e low);
    own = λ k d within.
        let taken = keeps.lie.own k d within in
        record { mirrored = taken.mirrored; hold = λ j e low. nodes_kept.nodes (get_or (get_or (own_places b) k d) j e) (taken.hold j e low); may = taken.may };
    found = λ k d within. nodes_kept.held (get_or (node_places (after w f)) k d) (keeps.lie.next k d within);
    next = tt;
    nodes_placed = keeps.lie.nodes_placed;
    found_placed = keeps.lie.next_placed;
    next_placed = tt;
    own_apart = keeps.lie.own_apart;
    apart_nodes = keeps.lie.apart_nodes;
    apart_found = keeps.lie.apart_next;
    apart_next = tt;
  }

  module _ (back : HoldBack f w b) (within : w.passed ≤ length f.needed) (oldest : w.next.entry.oldest ≡ f.last.entry.oldest + w.passed) (behind : sequence ≡ f.last.entry.oldest + length f.needed) where
    abbrev begun : KeyMap
    begun = with_updates (updates_of (take w.passed f.needed)) keeps.before

    settled_holds : HoldUpTo (after w f).needed begun w.next.entry.oldest b.trees b.pin keeps.content
    settled_holds btree pos leaf fits covers =
        subst (λ (n : ℕ). HoldsAt (after w f).needed begun n btree (b.pin leaf.1.birth) (keeps.content btree leaf.1).entries pos) (sym oldest)
        (shifts counts f.needed keeps.before f.last.entry.oldest btree (b.pin leaf.1.birth) (keeps.content btree leaf.1).entries pos (keeps.holds btree pos leaf fits covers) w.passed w.next keeps.are_keys within (back.pins btree pos leaf covers)
        (λ changes. subst (IsPinnedUpTo (b.pin leaf.1.birth)) behind (back.changes btree pos leaf covers changes)))

    settled_fresh : (fresh : FreshNode) → IsFreshKept f keeps.before state fresh → HoldsBack (f.last.entry.oldest + w.passed) w.next fresh → IsFreshKept (after w f) begun state fresh
    settled_fresh fresh kept held = record {
      stands = kept.stands;
      holds = λ pos own.
          subst (λ (n : ℕ). HoldsAt (after w f).needed begun n fresh.wanted.btree fresh.later (content_of_set fresh.set).entries pos) (sym oldest)
          (shifts counts f.needed keeps.before f.last.entry.oldest fresh.wanted.btree fresh.later (content_of_set fresh.set).entries pos (kept.holds pos own) w.passed w.next keeps.are_keys within held.later
          (λ changes. subst (IsPinnedUpTo fresh.later) behind (held.changes pos own changes)));
    }

    pub settled_kept : w.trees.keys ≡ with_updates w.next.entry.updates f.trees.keys → All IsOfLeaf w.next.entry.updates → KeepsBtrees (after w f) None state (settled_btrees sequence b)
    settled_kept keys leaves = record {
      layout = keeps.layout;
      before = begun;
      are_keys = laws.map f.needed keeps.before w.passed keeps.are_keys;
      widths = updates_fit (updates_of (take w.passed f.needed)) keeps.before keeps.are_keys keeps.widths (first_of_leaves w.passed f.needed keeps.of_leaves);
      keys = keys ∙ ap (with_updates w.next.entry.updates) keeps.keys ∙ laws.keys f.needed keeps.before w.passed w.next;
      of_leaves = next_of_leaves w.passed f.needed w.next keeps.of_leaves leaves;
      content = keeps.content;
      stand = keeps.stand;
      holds = settled_holds;
      fresh = λ k d lower. settled_fresh (get_or b.fresh k d) (keeps.fresh k d lower) (back.fresh k d lower);
      lie = settled_lie;
    }
