-- The next block of the last node that is written: what an entry leads to stays, and all is kept of the btrees.
use Rattle.std.proofs.Common.{◌≡◌, ℕ, ◌+◌, ◌<◌, List, [], ◌∷◌, ◌++◌, length, get_or, Option, None, Some, refl, sym, ap, subst, ◌∙◌, arith}
use Rattle.std.specs.List.{AllPairs}
use Rattle.std.specs.Prelude.{All, Contains, IfSome}
use Rattle.std.proofs.lemmas.List.{get_or_append_left, get_or_push, length-append}
use Rattle.std.proofs.lemmas.List.Elements.{All-contains, All-push, All-weaker, Contains-get_or, Contains-push}
use Rattle.bucket_pool.specs.NodeBuckets.{MayHoldNode}
use Rattle.dev_model.specs.Devices.{DevicesState, now}
use Rattle.dev_model.specs.Disk.{Image, IsDisk}
use Rattle.image_view.specs.Found.{Found}
use Rattle.image_view.specs.Trees.{nodes_of}
use Rattle.node_store.specs.Plans.{part_bytes}
use Rattle.node_store.specs.Writes.{IsCopyBlock, IsCopyOf}
use Rattle.node_store.specs.declared.planning.Blocked.{Blocked}
use Rattle.vol_types.specs.Limits.{bucket_blocks}
use Rattle.vol_types.specs.declared.pointers.NodePtr.{NodePtr}
use Rattle.vol_types.specs.declared.pointers.Place.{Place}
use Rattle.crash_safety.specs.CheckpointLeaves.{LieApart}
use Rattle.crash_safety.specs.Elsewhere.{IsElsewhere, IsElsewhereOfBoth, IsOutside}
use Rattle.crash_safety.specs.Leaves.{AreInOwnBuckets, AreNodesApart, IsFirstBlock, KeepsOff}
use Rattle.crash_safety.specs.NodeParts.{AreElsewhere, IsNodePartWritten}
use Rattle.crash_safety.specs.Parts.{standing_by}
use Rattle.crash_safety.specs.Safety.{IsJournalSafe}
use Rattle.crash_safety.specs.Writings.{Writing, after}
use Rattle.btree_safety.specs.CheckpointBtrees.{Btrees, FreshNode, own_places, with_last, with_written}
use Rattle.btree_safety.specs.KeptBtrees.{ArePlacesApart, ArePlacesTaken, IsFreshKept, KeepsBtrees, LieApartFrom, LieWell, MayLie}
use Rattle.btree_safety.specs.NodeLaws.{stays_elsewhere}
use Rattle.btree_safety.specs.StayingNodes.{StaysAsRead}
use Rattle.btree_safety.proofs.AllNodes.{All-left}
use Rattle.btree_safety.proofs.ApartNodes.{nodes_apart, own_buckets}
use Rattle.btree_safety.proofs.OwnBuckets.{lie_back}
use Rattle.btree_safety.proofs.OwnPlaces.{last_places, own_fresh, own_pair}
use Rattle.btree_safety.proofs.StayingBtrees.{StayLaw, btrees_stay}
use Rattle.btree_safety.proofs.WrittenNodes.{PartLaws, written_more, written_stay}

-- What is known of blocks that are written elsewhere.
pub record WriteLaws : Type 0 where
  pub outside : (place bucket : Place) (n : ℕ) → IsFirstBlock place → IsFirstBlock bucket → AreInOwnBuckets place bucket → n < bucket_blocks → IsOutside (record { dev = place.dev; block = place.block + n }) bucket
  pub off : (one other : NodePtr) (n : ℕ) → AreNodesApart one other → n < bucket_blocks → KeepsOff (IsCopyOf one.places n) other
  pub safe : (f : Found) (image : Image) (writing : Option Writing) (asked written : ℕ) (bases : List Found) (durable : List ℕ) (first : ℕ) (old new : DevicesState) (blocked : Blocked) (part : ℕ) (failed : Option ℕ)
      → IsJournalSafe f image writing asked written bases durable first old → AreElsewhere f writing blocked.places → blocked.block + part < bucket_blocks → IsNodePartWritten blocked part failed old new → All IsDisk (now new)
      → IsJournalSafe f image writing asked written bases durable first new

-- The blocks of a node that lies apart from all nodes that were found lie elsewhere.
lies_elsewhere : WriteLaws → (f : Found) (node : NodePtr) → All (MayHoldNode f.layout) node.places → All (MayLie f.layout) (nodes_of f.trees.nodes) → All (LieApart node) (nodes_of f.trees.nodes)
    → (place : Place) → Contains node.places place → (n : ℕ) → n < bucket_blocks → IsElsewhere f (record { dev = place.dev; block = place.block + n })
lies_elsewhere laws f node may found apart place there n few =
    let lies = All-contains (MayHoldNode f.layout) node.places place may there in
    record {
      behind = let past = lies.past_superblocks in omega (arith, past);
      journal = λ mirror. let past = lies.past_journal mirror in omega (arith, past);
      nodes = λ k d within j e low.
          let pointer = get_or (nodes_of f.trees.nodes) k d in
          let bucket = get_or pointer.places j e in
          laws.outside place bucket n lies.begins (found k d within j e low).begins (own_buckets place bucket (apart k d within place bucket there (Contains-get_or pointer.places j e low))) few;
    }

module _ (laws : WriteLaws) (parts : PartLaws) (stay : StayLaw) (f : Found) (writing : Option Writing) (old new : DevicesState) (b : Btrees) (earlier : List FreshNode) (fresh : FreshNode) (failed : Option ℕ) (keeps : KeepsBtrees f writing old b)
    (list : b.fresh ≡ earlier ++ fresh ∷ []) (less : fresh.written < bucket_blocks) (is : IsNodePartWritten fresh.blocked fresh.written failed old new) where
  -- ---- the last node, and the earlier ones

  last_of : (P : FreshNode → Type 0) → All P b.fresh → P fresh
  last_of P all = All-contains P (earlier ++ fresh ∷ []) fresh (subst (All P) list all) (Contains-push earlier fresh)

  earlier_of : (P : FreshNode → Type 0) → All P b.fresh → All P earlier
  earlier_of P all = All-left P earlier (fresh ∷ []) (subst (All P) list all)

  abbrev Apart : FreshNode → FreshNode → Type 0
  Apart one other = LieApart one.wanted.pointer other.wanted.pointer

  last_apart : (k : ℕ) (d : FreshNode) → k < length earlier → Apart (get_or earlier k d) fresh
  last_apart k d within =
      let whole : length (earlier ++ fresh ∷ []) ≡ length earlier + 1 = length-append earlier (fresh ∷ []) in
      let count : length b.fresh ≡ length (earlier ++ fresh ∷ []) = ap (λ (nodes : List FreshNode). length nodes) list in
      let first : get_or b.fresh k d ≡ get_or earlier k d = ap (λ (nodes : List FreshNode). get_or nodes k d) list ∙ get_or_append_left earlier (fresh ∷ []) d k within in
      let second : get_or b.fresh (length earlier) d ≡ fresh = ap (λ (nodes : List FreshNode). get_or nodes (length earlier) d) list ∙ get_or_push earlier fresh d (length earlier) refl in
      subst (λ (one : FreshNode). Apart one fresh) first (subst (λ (other : FreshNode). Apart (get_or b.fresh k d) other) second (own_pair ArePlacesApart b keeps.lie.own_apart k (length earlier) d within (omega (arith, whole, count))))

  -- Its places are taken, and lie apart from each of some nodes.
  own_taken : ArePlacesTaken f.layout b.space fresh.wanted.pointer.places
  own_taken = last_of (λ (one : FreshNode). ArePlacesTaken f.layout b.space one.wanted.pointer.places) (own_fresh (ArePlacesTaken f.layout b.space) b keeps.lie.own)

  apart_from : (nodes : List NodePtr) → All (LieApartFrom nodes) (own_places b) → All (LieApart fresh.wanted.pointer) nodes
  apart_from nodes apart = last_of (λ (one : FreshNode). LieApartFrom nodes one.wanted.pointer.places) (own_fresh (LieApartFrom nodes) b apart)

  kept : IsFreshKept f keeps.before old fresh
  kept = last_of (IsFreshKept f keeps.before old) keeps.fresh

  earlier_may : All (λ (one : FreshNode). All (MayHoldNode f.layout) one.wanted.pointer.places) earlier
  earlier_may = earlier_of (λ (one : FreshNode). All (MayHoldNode f.layout) one.wanted.pointer.places)
      (All-weaker (λ (one : FreshNode). ArePlacesTaken f.layout b.space one.wanted.pointer.places) (λ (one : FreshNode). All (MayHoldNode f.layout) one.wanted.pointer.places) (λ one taken. taken.may) b.fresh (own_fresh (ArePlacesTaken f.layout b.space) b keeps.lie.own))

  -- ---- what is written keeps off the others

  low : fresh.blocked.block + fresh.written < bucket_blocks
  low = let first = kept.stands.planned.blocks.first in omega (arith, first, less)

  stays : (other : NodePtr) → All (MayHoldNode f.layout) other.places → LieApart fresh.wanted.pointer other → StaysAsRead old new other
  stays other may apart = stays_elsewhere (IsCopyOf fresh.blocked.places (fresh.blocked.block + fresh.written)) (IsCopyBlock fresh.blocked.places (fresh.blocked.block + fresh.written) (part_bytes fresh.blocked fresh.written)) old new other is.at
      (subst (λ (places : List Place). KeepsOff (IsCopyOf places (fresh.blocked.block + fresh.written)) other) (sym kept.stands.planned.blocks.places)
      (laws.off fresh.wanted.pointer other (fresh.blocked.block + fresh.written) (nodes_apart f.layout fresh.wanted.pointer other own_taken.may may apart) low))

  elsewhere : AreElsewhere f writing fresh.blocked.places
  elsewhere place there n few = of_both writing (apart_from (nodes_of f.trees.nodes) keeps.lie.apart_found) keeps.lie.next_placed keeps.lie.apart_next
    where
      here : Contains fresh.wanted.pointer.places place
      here = subst (λ (places : List Place). Contains places place) kept.stands.planned.blocks.places there

      of_both : (o : Option Writing) → All (LieApart fresh.wanted.pointer) (nodes_of f.trees.nodes) → IfSome o (λ w. All (MayLie f.layout) (nodes_of (after w f).trees.nodes)) → IfSome o (λ w. All (LieApartFrom (nodes_of (after w f).trees.nodes)) (own_places b))
          → IsElsewhereOfBoth f o (record { dev = place.dev; block = place.block + n })
      of_both None found placed apart = lies_elsewhere laws f fresh.wanted.pointer own_taken.may keeps.lie.found_placed found place here n few
      of_both (Some w) found placed apart = (
        lies_elsewhere laws f fresh.wanted.pointer own_taken.may keeps.lie.found_placed found place here n few,
        lies_elsewhere laws (after w f) fresh.wanted.pointer own_taken.may placed (apart_from (nodes_of (after w f).trees.nodes) apart) place here n few,
      )

  -- ---- what is kept

  abbrev written : FreshNode
  written = with_written (standing_by failed fresh.written) fresh

  last_kept : IsFreshKept f keeps.before new written
  last_kept = record {
    stands = written_more parts f.layout f.session fresh.wanted fresh.set fresh.blocked fresh.written failed old new kept.stands less is;
    holds = λ pos own. kept.holds pos (record { leaf = own.leaf; fits = own.fits; within = own.within });
  }

  other_kept : (one : FreshNode) → Apart one fresh → All (MayHoldNode f.layout) one.wanted.pointer.places → IsFreshKept f keeps.before old one → IsFreshKept f keeps.before new one
  other_kept one apart may was = record {
    stands = written_stay f.layout f.session one.wanted one.set one.blocked one.written old new (stays one.wanted.pointer may (lie_back one.wanted.pointer fresh.wanted.pointer apart)) was.stands;
    holds = was.holds;
  }

  abbrev through : Btrees
  through = with_last earlier fresh (standing_by failed fresh.written) b

  same_places : own_places through ≡ own_places b
  same_places = last_places b earlier fresh (standing_by failed fresh.written) list

  lie : LieWell f writing through
  lie = record {
    fixed = keeps.lie.fixed;
    nodes = keeps.lie.nodes;
    own = subst (All (ArePlacesTaken f.layout b.space)) (sym same_places) keeps.lie.own;
    found = keeps.lie.found;
    next = keeps.lie.next;
    nodes_placed = keeps.lie.nodes_placed;
    found_placed = keeps.lie.found_placed;
    next_placed = keeps.lie.next_placed;
    own_apart = subst (AllPairs ArePlacesApart) (sym same_places) keeps.lie.own_apart;
    apart_nodes = subst (All (LieApartFrom (nodes_of b.trees))) (sym same_places) keeps.lie.apart_nodes;
    apart_found = subst (All (LieApartFrom (nodes_of f.trees.nodes))) (sym same_places) keeps.lie.apart_found;
    apart_next = next_apart writing keeps.lie.apart_next;
  }
    where
      next_apart : (o : Option Writing) → IfSome o (λ w. All (LieApartFrom (nodes_of (after w f).trees.nodes)) (own_places b)) → IfSome o (λ w. All (LieApartFrom (nodes_of (after w f).trees.nodes)) (own_places through))
      next_apart None apart = tt
      next_apart (Some w) apart = subst (All (LieApartFrom (nodes_of (after w f).trees.nodes))) (sym same_places) apart

  pub last_written : KeepsBtrees f writing new (with_last earlier fresh (standing_by failed fresh.written) b)
  last_written = record {
    layout = keeps.layout;
    before = keeps.before;
    are_keys = keeps.are_keys;
    widths = keeps.widths;
    keys = keeps.keys;
    of_leaves = keeps.of_leaves;
    content = keeps.content;
    stand = btrees_stay stay f.layout f.session b.roots b.trees keeps.content old new
        (λ k d within. stays (get_or (nodes_of b.trees) k d) (keeps.lie.nodes_placed k d within) (apart_from (nodes_of b.trees) keeps.lie.apart_nodes k d within)) keeps.stand;
    holds = keeps.holds;
    fresh = All-push (IsFreshKept f keeps.before new) earlier written
        (λ k d within. other_kept (get_or earlier k d) (last_apart k d within) (earlier_may k d within) (earlier_of (IsFreshKept f keeps.before old) keeps.fresh k d within)) last_kept;
    lie = lie;
  }

  pub written_safely : (image : Image) (asked count : ℕ) (bases : List Found) (durable : List ℕ) (first : ℕ) → IsJournalSafe f image writing asked count bases durable first old → All IsDisk (now new) → IsJournalSafe f image writing asked count bases durable first new
  written_safely image asked count bases durable first safe are = laws.safe f image writing asked count bases durable first old new fresh.blocked fresh.written failed safe elsewhere low is are
