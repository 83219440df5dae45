-- Leaves that were written are put in place of the roots, one after the other: each stands as the root of its btree, and the buckets of the root that it
-- replaces wait for an entry.
use Rattle.std.proofs.Common.{◌≡◌, ◌≢◌, ℕ, suc, ◌<◌, Bool, true, false, cond, List, [], ◌∷◌, ◌++◌, get_or, Option, None, Some, refl, sym, ap, subst, ◌∙◌, arith}
use Rattle.std.proofs.lemmas.Bool.{eq-eqb, eqb-true, false≢true}
use Rattle.std.proofs.lemmas.List.Elements.{All-head, All-tail, All-weaker}
use Rattle.std.proofs.lemmas.List.Sums.{fold-append}
use Rattle.std.specs.List.{AllPairs}
use Rattle.std.specs.Prelude.{All, IfSome, ◌==◌}
use Rattle.bucket_pool.specs.NodeBuckets.{IsHeldPast, MayHoldNode}
use Rattle.bucket_pool.specs.NodeLaws.{emptied_held}
use Rattle.bucket_pool.specs.Space.{Space, emptied, emptied_all}
use Rattle.btree_map.specs.StandLaws.{same_btree}
use Rattle.dev_model.specs.Devices.{DevicesState, now}
use Rattle.image_view.specs.Found.{Found, node_places}
use Rattle.image_view.specs.Trees.{nodes_of}
use Rattle.crash_safety.specs.Flushes.{AreSettled}
use Rattle.crash_safety.specs.Writings.{Writing, after}
use Rattle.key_meaning.specs.Checks.{IsNodePlaced}
use Rattle.crash_safety.specs.Contents.{HoldsUpTo}
use Rattle.crash_safety.specs.Leaves.{StandsAsLeaf}
use Rattle.crash_safety.specs.NodeParts.{IsLeafPlanned as IsNodePlanned, StandParts, leaf_content}
use Rattle.node_store.specs.NodeContents.{NodeContent}
use Rattle.node_store.specs.declared.planning.Blocked.{Blocked}
use Rattle.record_codec.specs.declared.sets.SetRecord.{SetRecord}
use Rattle.vol_types.specs.Btrees.{btree_code}
use Rattle.vol_types.specs.KeyMaps.{Entries}
use Rattle.vol_types.specs.Limits.{bucket_blocks}
use Rattle.vol_types.specs.declared.layout.Layout.{Layout}
use Rattle.vol_types.specs.declared.pointers.NodePtr.{NodePtr}
use Rattle.vol_types.specs.declared.pointers.Place.{Place}
use Rattle.vol_types.specs.declared.positions.Btree.{Btree}
use Rattle.crash_safety.specs.KeptLeaves.{HoldsOwn, IsFreshKept, KeepsLeaves, LieWell, LiesApartFrom, leaf_set}
use Rattle.crash_safety.specs.CheckpointLeaves.{FreshLeaf, Leaves, LieApart, placed_pins, placed_roots, replaced_places, with_btree}
use Rattle.crash_safety.specs.LeafSteps.{MayBePlaced, placed}
use Rattle.crash_safety.proofs.ApartNodes.{all_emptied_fixed, emptied_each, lie_back, may_lie, own_emptied}

-- A node all of whose planned blocks stand, where the metadata devices are settled, stands as a leaf.
abbrev pub StandsLaw : Type 0
StandsLaw = (layout : Layout) (session : ℕ) (btree : Btree) (fresh : NodePtr) (set : SetRecord) (blocked : Blocked) (state : DevicesState) → IsNodePlanned layout session btree fresh set blocked → StandParts blocked bucket_blocks state
    → AreSettled layout.metadata_replicas (now state) → StandsAsLeaf layout session btree fresh (leaf_content set) state

-- A btree is this one, or another one.
by_btree : (P : Bool → Type 0) (btree changed : Btree) → (btree ≡ changed → P true) → (btree ≢ changed → P false) → P (btree_code btree == btree_code changed)
by_btree P btree changed same differ = by (btree_code btree == btree_code changed) refl
  where
    by : (b : Bool) → (btree_code btree == btree_code changed) ≡ b → P b
    by true is = same (same_btree btree changed (eqb-true (btree_code btree) (btree_code changed) is))
    by false is = differ (λ equal. false≢true (sym is ∙ eq-eqb (btree_code btree) (btree_code changed) (ap btree_code equal)))

-- the leaves with the first one in place
abbrev one_placed : ℕ → FreshLeaf → List FreshLeaf → Leaves → Leaves
one_placed seq leaf more l = record {
  root = with_btree leaf.btree leaf.node l.root;
  pin = with_btree leaf.btree leaf.later l.pin;
  fresh = more;
  space = emptied_all (l.root leaf.btree).places seq l.space;
}

-- Of each two the second one, where the first one is the head.
head_pairs : (R : FreshLeaf → FreshLeaf → Type 0) (leaf : FreshLeaf) (more : List FreshLeaf) → AllPairs R (leaf ∷ more) → All (R leaf) more
head_pairs R leaf more pairs k d within = pairs 0 (suc k) d (omega arith) (omega (arith, within))

tail_pairs : (R : FreshLeaf → FreshLeaf → Type 0) (leaf : FreshLeaf) (more : List FreshLeaf) → AllPairs R (leaf ∷ more) → AllPairs R more
tail_pairs R leaf more pairs i j d less within = pairs (suc i) (suc j) d (omega (arith, less)) (omega (arith, within))

module _ (stands : StandsLaw) (f : Found) (writing : Option Writing) (state : DevicesState) (settled : AreSettled f.layout.metadata_replicas (now state)) (seq : ℕ) (behind : f.last.entry.sequence < seq) (behind_next : IfSome writing (λ w. w.next.entry.sequence < seq)) where
  module _ (l : Leaves) (leaf : FreshLeaf) (more : List FreshLeaf) (list : l.fresh ≡ leaf ∷ more) (keeps : KeepsLeaves f writing state l) (whole : leaf.written ≡ bucket_blocks) (may : MayBePlaced l) where
    abbrev in_place : Leaves
    in_place = one_placed seq leaf more l

    abbrev head_of : (P : FreshLeaf → Type 0) → All P l.fresh → P leaf
    head_of P all = All-head P leaf more (subst (All P) list all)

    abbrev tail_of : (P : FreshLeaf → Type 0) → All P l.fresh → All P more
    tail_of P all = All-tail P leaf more (subst (All P) list all)

    kept : IsFreshKept f keeps.before state leaf
    kept = head_of (IsFreshKept f keeps.before state) keeps.fresh

    apart_roots : (btree : Btree) → LieApart leaf.node (l.root btree)
    apart_roots = head_of (λ (one : FreshLeaf). (btree : Btree) → LieApart one.node (l.root btree)) keeps.lie.apart_roots

    apart_others : All (λ (other : FreshLeaf). LieApart leaf.node other.node) more
    apart_others = head_pairs (λ (one other : FreshLeaf). LieApart one.node other.node) leaf more (subst (AllPairs (λ (one other : FreshLeaf). LieApart one.node other.node)) list keeps.lie.fresh_apart)

    -- ---- the leaf as a root

    abbrev set : SetRecord
    set = leaf_set leaf.node.birth leaf.btree kept.entries

    leaf_stands : StandsAsLeaf f.layout f.session leaf.btree leaf.node (leaf_content set) state
    leaf_stands = stands f.layout f.session leaf.btree leaf.node set leaf.blocked state
        (record {
          holds = kept.planned.holds;
          places = kept.planned.places;
          block = kept.planned.first;
          whole = kept.planned.whole;
          of_btree = refl;
          least = refl;
          greatest = refl;
          leaf = kept.leaf;
          mirrored = kept.mirrored;
          born = kept.born;
          placed = All-weaker (MayHoldNode f.layout) (IsNodePlaced f.layout) (may_lie f.layout) leaf.node.places kept.placed;
        })
        (subst (λ (n : ℕ). StandParts leaf.blocked n state) whole kept.stand) settled

    abbrev content : Btree → NodeContent
    content = with_btree leaf.btree (leaf_content set) keeps.content

    root_stands : (btree : Btree) → StandsAsLeaf f.layout f.session btree (in_place.root btree) (content btree) state
    root_stands btree = by_btree (λ (b : Bool). StandsAsLeaf f.layout f.session btree (cond b leaf.node (l.root btree)) (cond b (leaf_content set) (keeps.content btree)) state) btree leaf.btree
        (λ same. subst (λ (b : Btree). StandsAsLeaf f.layout f.session b leaf.node (leaf_content set) state) (sym same) leaf_stands) (λ differ. keeps.stand btree)

    root_holds : (btree : Btree) → HoldsUpTo f.needed keeps.before f.last.entry.oldest btree (in_place.pin btree) (content btree).entries
    root_holds btree = by_btree (λ (b : Bool). HoldsUpTo f.needed keeps.before f.last.entry.oldest btree (cond b leaf.later (l.pin btree)) (cond b (leaf_content set) (keeps.content btree)).entries) btree leaf.btree
        (λ same. subst (λ (b : Btree). HoldsUpTo f.needed keeps.before f.last.entry.oldest b leaf.later (leaf_content set).entries) (sym same)
        (subst (λ (entries : Entries). HoldsUpTo f.needed keeps.before f.last.entry.oldest leaf.btree leaf.later entries) (sym kept.planned.entries_are) kept.holds))
        (λ differ. keeps.holds btree)

    own_births : (btree : Btree) → (l.root btree).birth ≢ leaf.node.birth
    own_births = head_of (λ (one : FreshLeaf). (btree : Btree) → (l.root btree).birth ≢ one.node.birth) may.births

    births : (one other : Btree) → (in_place.root one).birth ≡ (in_place.root other).birth → one ≡ other
    births one other = by_btree (λ (b : Bool). (cond b leaf.node (l.root one)).birth ≡ (in_place.root other).birth → one ≡ other) one leaf.btree
        (λ same. by_btree (λ (b : Bool). leaf.node.birth ≡ (cond b leaf.node (l.root other)).birth → one ≡ other) other leaf.btree (λ equal births. same ∙ sym equal) (λ differ births. absurd (own_births other (sym births))))
        (λ differ. by_btree (λ (b : Bool). (l.root one).birth ≡ (cond b leaf.node (l.root other)).birth → one ≡ other) other leaf.btree (λ equal births. absurd (own_births one births)) (λ also births. keeps.births one other births))

    -- ---- where all lie

    -- What lies apart from the root that is replaced still holds its own.
    own_kept : (node : NodePtr) → LieApart (l.root leaf.btree) node → HoldsOwn l.space node → HoldsOwn in_place.space node
    own_kept node apart = own_emptied seq (l.root leaf.btree).places l.space node apart

    -- What is held up to an entry before this one still is.
    held_kept : (past : ℕ) (places : List Place) → past < seq → All (IsHeldPast past l.space) places → All (IsHeldPast past in_place.space) places
    held_kept past places less = emptied_each (λ space. All (IsHeldPast past space) places) seq (l.root leaf.btree).places l.space (λ place made there held k d within. emptied_held past place seq made (get_or places k d) less (held k d within))

    -- What holds of the leaf and of each other root holds of the roots with it.
    each_root : (P : NodePtr → Type 0) → P leaf.node → ((btree : Btree) → btree ≢ leaf.btree → P (l.root btree)) → (btree : Btree) → P (in_place.root btree)
    each_root P first others btree = by_btree (λ (b : Bool). P (cond b leaf.node (l.root btree))) btree leaf.btree (λ same. first) (λ differ. others btree differ)

    roots_apart : (one other : Btree) → one ≢ other → LieApart (in_place.root one) (in_place.root other)
    roots_apart one other differ = by_btree (λ (b : Bool). LieApart (cond b leaf.node (l.root one)) (in_place.root other)) one leaf.btree
        (λ same. by_btree (λ (b : Bool). LieApart leaf.node (cond b leaf.node (l.root other))) other leaf.btree (λ equal. absurd (differ (same ∙ sym equal))) (λ apart. apart_roots other))
        (λ apart. by_btree (λ (b : Bool). LieApart (l.root one) (cond b leaf.node (l.root other))) other leaf.btree (λ equal. lie_back leaf.node (l.root one) (apart_roots one)) (λ also. keeps.lie.roots_apart one other differ))

    lie : LieWell f writing in_place
    lie = record {
      fixed = all_emptied_fixed f.layout seq (l.root leaf.btree).places l.space keeps.lie.fixed;
      roots = each_root (HoldsOwn in_place.space)
          (own_kept leaf.node (lie_back leaf.node (l.root leaf.btree) (apart_roots leaf.btree)) (head_of (λ (one : FreshLeaf). HoldsOwn l.space one.node) keeps.lie.fresh))
          (λ btree differ. own_kept (l.root btree) (keeps.lie.roots_apart leaf.btree btree (λ same. differ (sym same))) (keeps.lie.roots btree));
      fresh = λ k d within. own_kept (get_or more k d).node
          (lie_back (get_or more k d).node (l.root leaf.btree) (tail_of (λ (one : FreshLeaf). (btree : Btree) → LieApart one.node (l.root btree)) keeps.lie.apart_roots k d within leaf.btree))
          (tail_of (λ (one : FreshLeaf). HoldsOwn l.space one.node) keeps.lie.fresh k d within);
      found = held_kept f.last.entry.sequence (node_places f) behind keeps.lie.found;
      next = next_held writing behind_next keeps.lie.next;
      roots_placed = each_root (λ node. All (MayHoldNode f.layout) node.places) kept.placed (λ btree differ. keeps.lie.roots_placed btree);
      found_placed = keeps.lie.found_placed;
      next_placed = keeps.lie.next_placed;
      roots_apart = roots_apart;
      fresh_apart = tail_pairs (λ (one other : FreshLeaf). LieApart one.node other.node) leaf more (subst (AllPairs (λ (one other : FreshLeaf). LieApart one.node other.node)) list keeps.lie.fresh_apart);
      apart_roots = λ k d within. each_root (LieApart (get_or more k d).node) (lie_back leaf.node (get_or more k d).node (apart_others k d within))
          (λ btree differ. tail_of (λ (one : FreshLeaf). (b : Btree) → LieApart one.node (l.root b)) keeps.lie.apart_roots k d within btree);
      apart_found = tail_of (LiesApartFrom (nodes_of f.trees.nodes)) keeps.lie.apart_found;
      apart_next = next_apart writing keeps.lie.apart_next;
    }
      where
        next_held : (o : Option Writing) → IfSome o (λ w. w.next.entry.sequence < seq) → IfSome o (λ w. All (IsHeldPast w.next.entry.sequence l.space) (node_places (after w f)))
            → IfSome o (λ w. All (IsHeldPast w.next.entry.sequence in_place.space) (node_places (after w f)))
        next_held None less held = tt
        next_held (Some w) less held = held_kept w.next.entry.sequence (node_places (after w f)) less held

        next_apart : (o : Option Writing) → IfSome o (λ w. All (LiesApartFrom (nodes_of (after w f).trees.nodes)) l.fresh) → IfSome o (λ w. All (LiesApartFrom (nodes_of (after w f).trees.nodes)) more)
        next_apart None apart = tt
        next_apart (Some w) apart = tail_of (LiesApartFrom (nodes_of (after w f).trees.nodes)) apart

    one_kept : KeepsLeaves f writing state in_place
    one_kept = record {
      layout = keeps.layout;
      before = keeps.before;
      are_keys = keeps.are_keys;
      keys = keeps.keys;
      of_leaves = keeps.of_leaves;
      content = content;
      stand = root_stands;
      births = births;
      holds = root_holds;
      fresh = tail_of (IsFreshKept f keeps.before state) keeps.fresh;
      lie = lie;
    }

    abbrev OwnPair : FreshLeaf → FreshLeaf → Type 0
    OwnPair one other = (one.btree ≢ other.btree) × (one.node.birth ≢ other.node.birth)

    pairs : AllPairs OwnPair (leaf ∷ more)
    pairs = subst (AllPairs OwnPair) list may.btrees

    others_may : MayBePlaced in_place
    others_may = record {
      btrees = tail_pairs OwnPair leaf more pairs;
      births = λ k d within. each_root (λ node. node.birth ≢ (get_or more k d).node.birth) (head_pairs OwnPair leaf more pairs k d within).1
          (λ btree differ. tail_of (λ (one : FreshLeaf). (b : Btree) → (l.root b).birth ≢ one.node.birth) may.births k d within btree);
    }

    other_btrees : All (λ (other : FreshLeaf). leaf.btree ≢ other.btree) more
    other_btrees k d within = (head_pairs OwnPair leaf more pairs k d within).0

  -- The roots that the others replace are the same once the first is in place.
  same_replaced : (leaf : FreshLeaf) (root : Btree → NodePtr) (more : List FreshLeaf) → All (λ (other : FreshLeaf). leaf.btree ≢ other.btree) more → replaced_places more (with_btree leaf.btree leaf.node root) ≡ replaced_places more root
  same_replaced leaf root [] differ = refl
  same_replaced leaf root (other ∷ more) differ =
      ap (λ (node : NodePtr). node.places ++ replaced_places more (with_btree leaf.btree leaf.node root))
      (by_btree (λ (b : Bool). cond b leaf.node (root other.btree) ≡ root other.btree) other.btree leaf.btree (λ same. absurd (All-head (λ (o : FreshLeaf). leaf.btree ≢ o.btree) other more differ (sym same))) (λ apart. refl))
      ∙ ap (λ (places : List Place). (root other.btree).places ++ places) (same_replaced leaf root more (All-tail (λ (o : FreshLeaf). leaf.btree ≢ o.btree) other more differ))

  abbrev over : (Btree → NodePtr) → (Btree → Option ℕ) → List FreshLeaf → Space → Leaves
  over root pin fresh space = record { root = root; pin = pin; fresh = fresh; space = space }

  all_kept : (fresh : List FreshLeaf) (root : Btree → NodePtr) (pin : Btree → Option ℕ) (space : Space) → KeepsLeaves f writing state (over root pin fresh space) → All (λ (leaf : FreshLeaf). leaf.written ≡ bucket_blocks) fresh → MayBePlaced (over root pin fresh space)
      → KeepsLeaves f writing state (placed seq (over root pin fresh space))
  all_kept [] root pin space keeps whole may = keeps
  all_kept (leaf ∷ more) root pin space keeps whole may =
      let l = over root pin (leaf ∷ more) space in
      let first : leaf.written ≡ bucket_blocks = All-head (λ (one : FreshLeaf). one.written ≡ bucket_blocks) leaf more whole in
      let step = λ (made : Space) (place : Place). emptied place seq made in
      let replaced = (root leaf.btree).places in
      let root_with = with_btree leaf.btree leaf.node root in
      let pin_with = with_btree leaf.btree leaf.later pin in
      let spaces : emptied_all (replaced_places more root_with) seq (emptied_all replaced seq space) ≡ emptied_all (replaced ++ replaced_places more root) seq space =
      ap (λ (places : List Place). emptied_all places seq (emptied_all replaced seq space)) (same_replaced leaf root more (other_btrees l leaf more refl keeps first may)) ∙ sym (fold-append step space replaced (replaced_places more root)) in
      subst (λ (made : Space). KeepsLeaves f writing state (over (placed_roots more root_with) (placed_pins more pin_with) [] made)) spaces
      (all_kept more root_with pin_with (emptied_all replaced seq space) (one_kept l leaf more refl keeps first may) (All-tail (λ (one : FreshLeaf). one.written ≡ bucket_blocks) leaf more whole) (others_may l leaf more refl keeps first may))

  pub placed_kept : (l : Leaves) → KeepsLeaves f writing state l → All (λ (leaf : FreshLeaf). leaf.written ≡ bucket_blocks) l.fresh → MayBePlaced l → KeepsLeaves f writing state (placed seq l)
  placed_kept l keeps whole may = all_kept l.fresh l.root l.pin l.space keeps whole may
