-- At the opening the roots that were found are leaves of which all is kept.
use Rattle.std.proofs.Common.{◌≡◌, ℕ, List, [], map, None, Option, inl, sym, ap, subst, ◌∙◌, true, arith}
use Rattle.std.proofs.lemmas.List.Elements.{All-nil, All-same}
use Rattle.std.specs.List.{AllPairs, flat_map}
use Rattle.std.specs.Prelude.{All, Contains}
use Rattle.bucket_pool.specs.NodeBuckets.{AreFixed, IsHeldPast, MayHoldNode}
use Rattle.btree_map.specs.Sizes.{all_btrees}
use Rattle.btree_map.specs.StandLaws.{same_btree}
use Rattle.dev_model.specs.Devices.{DevicesState}
use Rattle.image_view.specs.Found.{Found, node_places}
use Rattle.image_view.specs.Trees.{nodes_of}
use Rattle.journal_ring.specs.declared.found.FoundEntry.{FoundEntry}
use Rattle.crash_safety.specs.Contents.{ChangesBtree, HoldsUpTo, IsPinnedUpTo}
use Rattle.crash_safety.specs.Leaves.{StandAsLeaves, leaf_keys, leaf_nodes}
use Rattle.crash_safety.specs.Naming.{LeadsToLeaves}
use Rattle.vol_types.specs.Btrees.{btree_code}
use Rattle.vol_types.specs.KeyMapLaws.{entries_of-key_map}
use Rattle.vol_types.specs.KeyMaps.{Entries, KeyMap, entries_of}
use Rattle.vol_types.specs.Layouts.{is_layout}
use Rattle.vol_types.specs.declared.pointers.NodePtr.{NodePtr}
use Rattle.vol_types.specs.declared.pointers.Place.{Place}
use Rattle.vol_types.specs.declared.positions.Btree.{Btree}
use Rattle.crash_safety.specs.KeptLeaves.{HoldsOwn, IsFreshKept, KeepsLeaves, LieWell, LiesApartFrom}
use Rattle.crash_safety.specs.CheckpointLeaves.{FreshLeaf, Leaves, LieApart}
use Rattle.crash_safety.proofs.NineBtrees.{at_code, each_btree, each_place, nodes_are_roots}
use Rattle.crash_safety.proofs.OwnBuckets.{roots_lie_apart}

-- A node that has none of the needed entries pins the oldest, where one of them changes the btree.
abbrev pub BeginsLaw : Type 0
BeginsLaw = (needed : List FoundEntry) (before : KeyMap) (oldest : ℕ) (btree : Btree) (pin : Option ℕ) (entries : Entries) → entries ≡ entries_of before btree
    → ((found : FoundEntry) → Contains needed found → ChangesBtree btree found.entry.updates → IsPinnedUpTo pin oldest) → HoldsUpTo needed before oldest btree pin entries

module _ (f : Found) (state : DevicesState) (l : Leaves) (leads : LeadsToLeaves f state) (roots : f.last.entry.roots ≡ map l.root all_btrees) where
  stand : StandAsLeaves f.layout f.session (map l.root all_btrees) leads.content state
  stand = subst (λ (rs : List NodePtr). StandAsLeaves f.layout f.session rs leads.content state) roots leads.stand

  -- What holds of each root's places holds of those of all nodes that were found.
  each_found : (P : Place → Type 0) → ((btree : Btree) → All P (l.root btree).places) → All P (node_places f)
  each_found P each =
      let nodes : nodes_of f.trees.nodes ≡ map l.root all_btrees = ap nodes_of (leads.nodes ∙ ap leaf_nodes roots) ∙ nodes_are_roots (map l.root all_btrees) in
      subst (λ (ns : List NodePtr). All P (flat_map (λ (node : NodePtr). node.places) ns)) (sym nodes) (each_place P (map l.root all_btrees) (each_btree l.root (λ node. All P node.places) each))

  found_lie : AreFixed f.layout l.space → l.fresh ≡ [] → ((btree : Btree) → HoldsOwn l.space (l.root btree)) → ((btree : Btree) → All (MayHoldNode f.layout) (l.root btree).places) → LieWell f None l
  found_lie fixed none hold may = record {
    fixed = fixed;
    roots = hold;
    fresh = no_leaf (λ leaf. HoldsOwn l.space leaf.node);
    found = each_found (IsHeldPast f.last.entry.sequence l.space) (λ btree k d within. inl (hold btree k d within));
    next = tt;
    roots_placed = may;
    found_placed = each_found (MayHoldNode f.layout) may;
    next_placed = tt;
    roots_apart = roots_lie_apart f.layout l.root stand.apart;
    fresh_apart = subst (AllPairs (λ (one other : FreshLeaf). LieApart one.node other.node)) (sym none) (λ i j d less within. absurd (omega (arith, within)));
    apart_roots = no_leaf (λ leaf. (btree : Btree) → LieApart leaf.node (l.root btree));
    apart_found = no_leaf (LiesApartFrom (nodes_of f.trees.nodes));
    apart_next = tt;
  }
    where
      no_leaf : (P : FreshLeaf → Type 0) → All P l.fresh
      no_leaf P = All-same P l.fresh [] none (All-nil P)

  pub found_kept : BeginsLaw → l.fresh ≡ [] → is_layout f.layout ≡ true → AreFixed f.layout l.space → ((btree : Btree) → HoldsOwn l.space (l.root btree)) → ((btree : Btree) → All (MayHoldNode f.layout) (l.root btree).places)
      → ((btree : Btree) (found : FoundEntry) → Contains f.needed found → ChangesBtree btree found.entry.updates → IsPinnedUpTo (l.pin btree) f.last.entry.oldest) → KeepsLeaves f None state l
  found_kept begins none layout fixed hold may pins = record {
    layout = layout;
    before = leaf_keys leads.content;
    are_keys = leads.rises;
    keys = leads.keys;
    of_leaves = leads.updates;
    content = leads.content;
    stand = λ btree. stand.each btree (l.root btree) (at_code l.root btree);
    births = λ one other same. same_btree one other (stand.births (btree_code one) (btree_code other) (l.root one) (l.root other) (at_code l.root one) (at_code l.root other) same);
    holds = λ btree. begins f.needed (leaf_keys leads.content) f.last.entry.oldest btree (l.pin btree) (leads.content btree).entries (sym (entries_of-key_map (λ (b : Btree). (leads.content b).entries) btree)) (pins btree);
    fresh = All-same (IsFreshKept f (leaf_keys leads.content) state) l.fresh [] none (All-nil (IsFreshKept f (leaf_keys leads.content) state));
    lie = found_lie fixed none hold may;
  }
