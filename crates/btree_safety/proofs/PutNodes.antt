-- Nodes that were written are put in place: the btrees stand with them, and the buckets of those that are gone wait for an entry.
use Rattle.std.proofs.Common.{◌≡◌, ◌≢◌, inl, inr, ⊎_elim, ℕ, ◌<◌, ◌≤◌, List, length, map, get_or, Option, None, Some, sym, ap, subst, ◌∙◌, arith}
use Rattle.std.specs.List.{AllPairs}
use Rattle.std.specs.Map.{values_of}
use Rattle.std.specs.Prelude.{All, Contains, IfSome, option_map}
use Rattle.std.proofs.lemmas.Bool.{cases_lt}
use Rattle.std.proofs.lemmas.List.{get_or_default}
use Rattle.std.proofs.lemmas.List.Elements.{All-contains, All-nil, Contains-get_or, recursion_from_All}
use Rattle.std.proofs.lemmas.Option.{same_Some}
use Rattle.birth_index.specs.Births.{birth_of, levels_of, node_of}
use Rattle.birth_index.specs.declared.name.NodeName.{NodeName}
use Rattle.bucket_pool.specs.NodeBuckets.{AreInOtherBuckets, HoldsNode, IsHeldPast}
use Rattle.bucket_pool.specs.NodeLaws.{emptied_apart}
use Rattle.bucket_pool.specs.Space.{Space, emptied_all}
use Rattle.dev_model.specs.Devices.{DevicesState, now}
use Rattle.dev_model.specs.Disk.{Image, as_read}
use Rattle.image_view.specs.Found.{Found, node_places, sets_in}
use Rattle.image_view.specs.Trees.{SetsOf, Wanted, nodes_of}
use Rattle.node_store.specs.NodeContents.{NodeContent}
use Rattle.tree_nodes.specs.CoverLaws.{first-value, node_at-covers}
use Rattle.tree_nodes.specs.Levels.{Covers, IsNodeOf, IsRow, Levels, level_of}
use Rattle.vol_types.specs.Limits.{bucket_blocks}
use Rattle.vol_types.specs.Positions.{IsWithin, pos_cmp}
use Rattle.vol_types.specs.Maps.{value_at}
use Rattle.vol_types.specs.Widths.{PosFits}
use Rattle.vol_types.specs.declared.layout.Layout.{Layout}
use Rattle.vol_types.specs.declared.pointers.NodePtr.{NodePtr}
use Rattle.vol_types.specs.declared.pointers.Place.{Place}
use Rattle.vol_types.specs.declared.positions.Btree.{Btree}
use Rattle.vol_types.specs.declared.positions.Pos.{Pos}
use Rattle.btree_laws.specs.HeldContents.{ComeTo, held_in}
use Rattle.btree_laws.specs.Standing.{AreOwnEntries, Contents, IsNodeIn, wanted_at}
use Rattle.crash_safety.specs.CheckpointLeaves.{LieApart}
use Rattle.crash_safety.specs.Flushes.{AreSettled}
use Rattle.crash_safety.specs.KeptLeaves.{HoldsOwn}
use Rattle.crash_safety.specs.Writings.{Writing, after}
use Rattle.btree_safety.specs.CheckpointBtrees.{Btrees, FreshNode, IsKeptInPlace, IsOwnPosition, IsPutInPlace, MayBePut, own_places, places_of, put_in_place}
use Rattle.btree_safety.specs.FreshNodes.{AreLeavesPinned, AreNodesExchanged, IsPartlyWritten, IsWrittenAs, content_of_set}
use Rattle.btree_safety.specs.KeptBtrees.{ArePlacesApart, ArePlacesTaken, IsFreshKept, KeepsBtrees, LieApartFrom, MayLie}
use Rattle.btree_safety.specs.KeptKeys.{HoldUpTo, HoldsAt, IsLeafAt, Pins}
use Rattle.btree_safety.specs.StandingNodes.{BtreesStand}
use Rattle.btree_safety.proofs.AllNodes.{All-right, each_node, of_level, of_trees, rooted}
use Rattle.btree_safety.proofs.ApartNodes.{all_emptied_fixed, all_of_each, apart_back, apart_from_all, emptied_each, held_emptied, own_emptied}
use Rattle.btree_safety.proofs.ExchangedLeaves.{exchanged_at, exchanged_hold, some_levels}
use Rattle.btree_safety.proofs.OwnBuckets.{lie_back, placed_are_apart}
use Rattle.btree_safety.proofs.OwnPlaces.{fresh_and_taken, later_pairs, own_fresh, own_pair}
use Rattle.btree_safety.proofs.Pinned.{CountLaws, moves}
use Rattle.btree_safety.proofs.WrittenNodes.{ExchangeLaws, btrees_exchanged, node_comes}

-- An image holds one content of each node.
abbrev pub ComeLaw : Type 0
ComeLaw = (layout : Layout) (image : Image) → ComeTo (sets_in layout image) (λ btree. held_in layout image)

module _ (come : ComeLaw) (counts : CountLaws) (exchanges : ExchangeLaws) (f : Found) (writing : Option Writing) (state : DevicesState) (b : Btrees) (roots : List NodePtr) (new : List Levels) (pin : Pins) (gone : List NodePtr) (seq : ℕ) (keeps : KeepsBtrees f writing state b)
    (settled : AreSettled f.layout.metadata_replicas (now state)) (whole : All (λ (fresh : FreshNode). fresh.written ≡ bucket_blocks) b.fresh) (may : MayBePut b roots new pin gone) where
  abbrev image : Image
  image = as_read (now state)

  abbrev sets : SetsOf
  sets = sets_in f.layout image

  abbrev content : Btree → Contents
  content btree = held_in f.layout image

  abbrev Kept : NodeName → NodePtr → Type 0
  Kept name node = IsKeptInPlace b new pin name node

  abbrev Put : NodeName → NodePtr → Type 0
  Put name node = IsPutInPlace b new pin name node

  -- ---- one node that is put in place

  module _ (name : NodeName) (node : NodePtr) (put : IsPutInPlace b new pin name node) where
    abbrev place : Wanted
    place = wanted_at name.btree (level_of (levels_of new name.btree) name.level) name.greatest node

    fresh_kept : IsFreshKept f keeps.before state put.fresh
    fresh_kept = All-contains (IsFreshKept f keeps.before state) b.fresh put.fresh keeps.fresh put.one

    fresh_taken : ArePlacesTaken f.layout b.space put.fresh.wanted.pointer.places
    fresh_taken = All-contains (λ (one : FreshNode). ArePlacesTaken f.layout b.space one.wanted.pointer.places) b.fresh put.fresh (own_fresh (ArePlacesTaken f.layout b.space) b keeps.lie.own) put.one

    same_node : put.fresh.wanted.pointer ≡ node
    same_node = ap (λ (w : Wanted). w.pointer) put.wanted

    put_whole : IsPartlyWritten f.layout f.session place put.fresh.set put.fresh.blocked bucket_blocks state
    put_whole = subst (λ (w : Wanted). IsPartlyWritten f.layout f.session w put.fresh.set put.fresh.blocked bucket_blocks state) put.wanted
        (subst (λ (n : ℕ). IsPartlyWritten f.layout f.session put.fresh.wanted put.fresh.set put.fresh.blocked n state) (All-contains (λ (fresh : FreshNode). fresh.written ≡ bucket_blocks) b.fresh put.fresh whole put.one) fresh_kept.stands)

    put_content : content name.btree node ≡ content_of_set put.fresh.set
    put_content = sym ((come f.layout image).content_is place (content_of_set put.fresh.set) (node_comes f.layout f.session place put.fresh.set put.fresh.blocked state put_whole))

    put_written : IsWrittenAs f.layout f.session name.btree (levels_of new name.btree) (content name.btree) state name.level name.greatest node
    put_written = record {
      set = put.fresh.set;
      blocked = put.fresh.blocked;
      whole = put_whole;
      content_is = put_content;
      entries = subst (λ (c : NodeContent). AreOwnEntries (levels_of new name.btree) name.level name.greatest c.entries) (sym put_content) put.entries;
    }

    -- It lies apart from what each node of the old btrees is,
    apart_old : (other : NodeName) (another : NodePtr) → node_of b.trees other ≡ Some another → LieApart node another
    apart_old other another stood = subst (λ (n : NodePtr). LieApart n another) same_node
        (of_trees (LieApart put.fresh.wanted.pointer) b.trees (All-contains (λ (one : FreshNode). LieApartFrom (nodes_of b.trees) one.wanted.pointer.places) b.fresh put.fresh (own_fresh (LieApartFrom (nodes_of b.trees)) b keeps.lie.apart_nodes) put.one) other.btree other.level other.greatest another stood)

  -- and two that are put in place lie apart.
  apart_put : (name other : NodeName) (node another : NodePtr) (one : IsPutInPlace b new pin name node) (two : IsPutInPlace b new pin other another) → node_of new other ≡ Some another → name ≢ other → LieApart node another
  apart_put name other node another one two there differ =
      subst (λ (n : NodePtr). LieApart n another) (same_node name node one) (subst (λ (n : NodePtr). LieApart one.fresh.wanted.pointer n) (same_node other another two) (⊎_elim
      (λ (less : one.one.0 < two.one.0). pair one.fresh two.fresh one.one two.one less)
      (λ (back : two.one.0 ≤ one.one.0). ⊎_elim
      (λ (more : two.one.0 < one.one.0). lie_back two.fresh.wanted.pointer one.fresh.wanted.pointer (pair two.fresh one.fresh two.one one.one more))
      (λ (over : one.one.0 ≤ two.one.0).
      let index : one.one.0 ≡ two.one.0 = omega (arith, back, over) in
      let same : one.fresh ≡ two.fresh = sym one.one.2 ∙ get_or_default b.fresh one.one.0 one.fresh two.fresh one.one.1 ∙ ap (λ k. get_or b.fresh k two.fresh) index ∙ two.one.2 in
      let nodes : another ≡ node = sym (same_node other another two) ∙ ap (λ (fresh : FreshNode). fresh.wanted.pointer) (sym same) ∙ same_node name node one in
      absurd (differ (sym (one.born.own other (ap (option_map (λ (n : NodePtr). n.birth)) there ∙ ap (λ (n : NodePtr). Some n.birth) nodes)))))
      (cases_lt two.one.0 one.one.0))
      (cases_lt one.one.0 two.one.0)))
    where
      pair : (first second : FreshNode) (at : Contains b.fresh first) (next : Contains b.fresh second) → at.0 < next.0 → LieApart first.wanted.pointer second.wanted.pointer
      pair first second at next less =
          let within = next.1 in
          subst (λ (one : FreshNode). LieApart one.wanted.pointer second.wanted.pointer) at.2
          (subst (λ (two : FreshNode). LieApart (get_or b.fresh at.0 first).wanted.pointer two.wanted.pointer) (get_or_default b.fresh next.0 first second within ∙ next.2) (own_pair ArePlacesApart b keeps.lie.own_apart at.0 next.0 first less within))

  -- ---- the btrees

  kept_content : (name : NodeName) (node : NodePtr) → node_of b.trees name ≡ Some node → content name.btree node ≡ keeps.content name.btree node
  kept_content name node stood =
      let own = rooted sets b.roots b.trees keeps.content keeps.stand.stand name.btree in
      sym ((come f.layout image).content_is (wanted_at name.btree (level_of (levels_of b.trees name.btree) name.level) name.greatest node) (keeps.content name.btree node) (own.1.each name.level name.greatest node stood).comes)

  exchanged : AreNodesExchanged f.layout f.session b.trees new roots keeps.content content state
  exchanged = record {
    roots_are = may.roots_are;
    trees_are = may.trees_are;
    trees = may.trees;
    tops = may.tops;
    each = λ name node there. ⊎_elim
        (λ (kept : Kept name node). inl (record { kept = kept.kept; content_is = kept_content name node kept.kept.stood }))
        (λ (put : Put name node). inr (record {
          written = put_written name node put;
          born = put.born;
          apart = λ other another differ also. ⊎_elim
              (λ (kept : Kept other another). apart_old name node put other another kept.kept.stood)
              (λ (second : Put other another). apart_put name other node another put second also differ)
              (may.each other another also);
        }))
        (may.each name node there);
  }

  stand : BtreesStand f.layout f.session roots new content state
  stand = btrees_exchanged exchanges f.layout f.session b.roots roots b.trees new keeps.content content state keeps.stand settled exchanged

  -- A node of the old btrees isn't one with a birth of its own.
  no_twin : (name : NodeName) (node : NodePtr) → node_of b.trees name ≡ Some node → ((other : NodeName) → birth_of b.trees other ≢ Some node.birth) → ⊥
  no_twin name node stood unused = unused name (ap (option_map (λ (n : NodePtr). n.birth)) stood)

  leaf_holds : (btree : Btree) (pos : Pos) (leaf : Pos × NodePtr) → PosFits pos → IsLeafAt new btree pos leaf → (put : IsPutInPlace b new pin (record { btree = btree; level = 0; greatest = leaf.0 }) leaf.1) → IsNodeIn (levels_of new btree) 0 leaf.0 leaf.1
      → HoldsAt f.needed keeps.before f.last.entry.oldest btree (pin leaf.1.birth) (content btree leaf.1).entries pos
  leaf_holds btree pos leaf fits covers put there =
      let name : NodeName = record { btree = btree; level = 0; greatest = leaf.0 } in
      let level = (may.trees btree).each 0 (some_levels (levels_of new btree) (may.trees btree).root) in
      let within : Covers (level_of (levels_of new btree) 0) leaf.0 pos = node_at-covers pos (level_of (levels_of new btree) 0) leaf level.row fits covers in
      let is_leaf : IsNodeOf 0 leaf.1 = of_level (IsNodeOf 0) (level_of (levels_of new btree) 0) leaf.0 leaf.1 (recursion_from_All (IsNodeOf 0) (values_of (level_of (levels_of new btree) 0)) level.each) there in
      let own : IsOwnPosition put.fresh pos = record {
        leaf = ap (λ (n : NodePtr). n.level) (same_node name leaf.1 put) ∙ is_leaf.numbered;
        fits = fits;
        within = subst (λ (w : Wanted). IsWithin w.least w.greatest pos) (sym put.wanted) within.within;
      } in
      let held : HoldsAt f.needed keeps.before f.last.entry.oldest btree put.fresh.later (content_of_set put.fresh.set).entries pos =
      subst (λ (w : Wanted). HoldsAt f.needed keeps.before f.last.entry.oldest w.btree put.fresh.later (content_of_set put.fresh.set).entries pos) put.wanted ((fresh_kept name leaf.1 put).holds pos own) in
      moves counts f.needed keeps.before f.last.entry.oldest btree put.fresh.later (content_of_set put.fresh.set).entries pos held (pin leaf.1.birth) (content btree leaf.1).entries put.pins (ap (λ (c : NodeContent). value_at pos_cmp pos c.entries) (put_content name leaf.1 put))

  pinned : AreLeavesPinned f.layout f.session f.needed keeps.before f.last.entry.oldest b.trees new b.pin pin keeps.content content state
  pinned = record {
    kept = λ btree at leaf there was. ⊎_elim
        (λ (kept : Kept (record { btree = btree; level = 0; greatest = at }) leaf). kept.pins)
        (λ (put : Put (record { btree = btree; level = 0; greatest = at }) leaf). absurd (no_twin (record { btree = btree; level = 0; greatest = at }) leaf was.kept.stood put.born.unused))
        (may.each (record { btree = btree; level = 0; greatest = at }) leaf there);
    fresh = λ btree pos leaf new_leaf fits was is fresh.
        let name : NodeName = record { btree = btree; level = 0; greatest = new_leaf.0 } in
        let row : IsRow (level_of (levels_of new btree) 0) = ((may.trees btree).each 0 (some_levels (levels_of new btree) (may.trees btree).root)).row in
        let there : IsNodeIn (levels_of new btree) 0 new_leaf.0 new_leaf.1 = first-value _ (level_of (levels_of new btree) 0) new_leaf row.rises is in
        ⊎_elim
        (λ (kept : Kept name new_leaf.1). absurd (no_twin name new_leaf.1 kept.kept.stood fresh.born.unused))
        (λ (put : Put name new_leaf.1). inr (leaf_holds btree pos new_leaf fits is put there))
        (may.each name new_leaf.1 there);
  }

  holds : HoldUpTo f.needed keeps.before f.last.entry.oldest new pin content
  holds = exchanged_hold counts sets b.roots b.trees new keeps.content content keeps.stand.stand f.needed keeps.before f.last.entry.oldest b.pin pin keeps.holds
      (exchanged_at counts sets b.roots b.trees new keeps.content content keeps.stand.stand f.needed keeps.before f.last.entry.oldest b.pin pin f.layout f.session roots state exchanged pinned)

  -- ---- where they lie

  -- What is so of kept nodes and of those that are put in place is so of all.
  all_new : (P : NodePtr → Type 0) → ((name : NodeName) (node : NodePtr) → Kept name node → P node) → ((name : NodeName) (node : NodePtr) → Put name node → P node) → All P (nodes_of new)
  all_new P kept put = each_node sets roots new content stand.stand P (λ btree level at node there.
      let name : NodeName = record { btree = btree; level = level; greatest = at } in ⊎_elim (λ (is : Kept name node). kept name node is) (λ (is : Put name node). put name node is) (may.each name node there))

  abbrev space : Space
  space = emptied_all (places_of gone) seq b.space

  -- Nodes that are gone lie apart from each of the new btrees.
  gone_kept : (name : NodeName) (node : NodePtr) → node_of new name ≡ Some node → Kept name node → All (λ (other : NodePtr). LieApart other node) gone
  gone_kept name node there kept k d within =
      let was = may.are_gone k d within in
      placed_are_apart f.layout b.trees keeps.stand.apart was.name name (get_or gone k d) node
      (λ same.
      let nodes : get_or gone k d ≡ node = same_Some (get_or gone k d) node (sym was.stood ∙ ap (node_of b.trees) same ∙ kept.kept.stood) in
      was.gone (ap (node_of new) same ∙ there ∙ ap Some (sym nodes)))
      was.stood kept.kept.stood

  gone_put : (name : NodeName) (node : NodePtr) → Put name node → All (λ (other : NodePtr). LieApart other node) gone
  gone_put name node put k d within = let was = may.are_gone k d within in lie_back node (get_or gone k d) (apart_old name node put was.name (get_or gone k d) was.stood)

  new_own : All (HoldsOwn space) (nodes_of new)
  new_own = each_node sets roots new content stand.stand (HoldsOwn space) (λ btree level at node there.
      let name : NodeName = record { btree = btree; level = level; greatest = at } in
      ⊎_elim
      (λ (kept : Kept name node).
      own_emptied seq (places_of gone) b.space node (apart_from_all gone node (gone_kept name node there kept)) (of_trees (HoldsOwn b.space) b.trees keeps.lie.nodes btree level at node kept.kept.stood))
      (λ (put : Put name node).
      own_emptied seq (places_of gone) b.space node (apart_from_all gone node (gone_put name node put))
      (subst (HoldsOwn b.space) (same_node name node put) (fresh_taken name node put).hold))
      (may.each name node there))

  new_placed : All (MayLie f.layout) (nodes_of new)
  new_placed = all_new (MayLie f.layout)
      (λ name node kept. of_trees (MayLie f.layout) b.trees keeps.lie.nodes_placed name.btree name.level name.greatest node kept.kept.stood)
      (λ name node put. subst (MayLie f.layout) (same_node name node put) (fresh_taken name node put).may)

  -- The places that are taken still are.
  of_taken : (P : List Place → Type 0) → All P (own_places b) → All P b.taken
  of_taken P all = All-right P (map (λ (one : FreshNode). one.wanted.pointer.places) b.fresh) b.taken all

  taken_pairs : AllPairs ArePlacesApart b.taken
  taken_pairs = later_pairs ArePlacesApart (map (λ (one : FreshNode). one.wanted.pointer.places) b.fresh) b.taken keeps.lie.own_apart

  -- They lie apart from the old nodes, and from those that are put in place.
  taken_apart : All (LieApartFrom (nodes_of new)) b.taken
  taken_apart k d within = all_new (λ node. ArePlacesApart (get_or b.taken k d) node.places)
      (λ name node kept. of_trees (λ (other : NodePtr). ArePlacesApart (get_or b.taken k d) other.places) b.trees (of_taken (LieApartFrom (nodes_of b.trees)) keeps.lie.apart_nodes k d within) name.btree name.level name.greatest node kept.kept.stood)
      (λ name node put place another here there. apart_back another place
      (subst (λ (n : NodePtr). ArePlacesApart n.places (get_or b.taken k d)) (same_node name node put) (fresh_and_taken ArePlacesApart b keeps.lie.own_apart put.fresh put.one k d within) another place there here))

  taken_own : All (ArePlacesTaken f.layout space) b.taken
  taken_own k d within =
      let was = of_taken (ArePlacesTaken f.layout b.space) keeps.lie.own k d within in
      let places = get_or b.taken k d in
      record {
        mirrored = was.mirrored;
        hold = emptied_each (λ made. All (HoldsNode made) places) seq (places_of gone) b.space (λ place made there own j e low.
            emptied_apart place seq made (get_or places j e) (gone_apart k d within place (get_or places j e) there (Contains-get_or places j e low)) (own j e low)) was.hold;
        may = was.may;
      }
    where
      gone_apart : (k : ℕ) (d : List Place) → k < length b.taken → (place another : Place) → Contains (places_of gone) place → Contains (get_or b.taken k d) another → AreInOtherBuckets place another
      gone_apart k d within place another here there = All-contains (λ (p : Place). AreInOtherBuckets p another) (places_of gone) place
          (all_of_each (λ (p : Place). AreInOtherBuckets p another) (λ (other : NodePtr). other.places) gone (λ i c inside j e low.
          let was = may.are_gone i c inside in
          let node = get_or gone i c in
          apart_back another (get_or node.places j e)
          (of_trees (λ (other : NodePtr). ArePlacesApart (get_or b.taken k d) other.places) b.trees (of_taken (LieApartFrom (nodes_of b.trees)) keeps.lie.apart_nodes k d within) was.name.btree was.name.level was.name.greatest node was.stood another (get_or node.places j e) there (Contains-get_or node.places j e low))))
          here

  pub put_kept : f.last.entry.sequence < seq → IfSome writing (λ w. w.next.entry.sequence < seq) → KeepsBtrees f writing state (put_in_place roots new pin gone seq b)
  put_kept behind behind_next = record {
    layout = keeps.layout;
    before = keeps.before;
    are_keys = keeps.are_keys;
    widths = keeps.widths;
    keys = keeps.keys;
    of_leaves = keeps.of_leaves;
    content = content;
    stand = stand;
    holds = holds;
    fresh = All-nil (IsFreshKept f keeps.before state);
    lie = record {
      fixed = all_emptied_fixed f.layout seq (places_of gone) b.space keeps.lie.fixed;
      nodes = new_own;
      own = taken_own;
      found = held_emptied f.last.entry.sequence seq (places_of gone) (node_places f) b.space behind keeps.lie.found;
      next = next_held writing behind_next keeps.lie.next;
      nodes_placed = new_placed;
      found_placed = keeps.lie.found_placed;
      next_placed = keeps.lie.next_placed;
      own_apart = taken_pairs;
      apart_nodes = taken_apart;
      apart_found = of_taken (LieApartFrom (nodes_of f.trees.nodes)) keeps.lie.apart_found;
      apart_next = next_apart writing keeps.lie.apart_next;
    };
  }
    where
      next_held : (o : Option Writing) → IfSome o (λ w. w.next.entry.sequence < seq) → IfSome o (λ w. All (IsHeldPast w.next.entry.sequence b.space) (node_places (after w f))) → IfSome o (λ w. All (IsHeldPast w.next.entry.sequence space) (node_places (after w f)))
      next_held None less held = tt
      next_held (Some w) less held = held_emptied w.next.entry.sequence seq (places_of gone) (node_places (after w f)) b.space less held

      next_apart : (o : Option Writing) → IfSome o (λ w. All (LieApartFrom (nodes_of (after w f).trees.nodes)) (own_places b)) → IfSome o (λ w. All (LieApartFrom (nodes_of (after w f).trees.nodes)) b.taken)
      next_apart None apart = tt
      next_apart (Some w) apart = of_taken (LieApartFrom (nodes_of (after w f).trees.nodes)) apart
