-- The next block of the last leaf that is written: what an entry leads to stays, and all is kept of the leaves.
use Rattle.std.proofs.Common.{◌≡◌, ℕ, ◌+◌, ◌<◌, ◌≤◌, List, [], ◌∷◌, ◌++◌, length, length-append, get_or, Option, None, Some, refl, sym, subst, arith}
use Rattle.std.proofs.lemmas.List.{get_or_append_left, get_or_push}
use Rattle.std.proofs.lemmas.List.Elements.{All-contains, All-push, Contains-get_or, Contains-push}
use Rattle.std.proofs.lemmas.List.Quantifiers.{all_pairs_push}
use Rattle.std.specs.List.{AllPairs}
use Rattle.std.specs.Prelude.{All, Contains, IfSome}
use Rattle.bucket_pool.specs.NodeBuckets.{MayHoldNode}
use Rattle.dev_model.specs.Devices.{DevicesState, now}
use Rattle.dev_model.specs.Disk.{Image, IsDisk}
use Rattle.image_view.specs.Found.{Found, IsMirrored, node_places}
use Rattle.image_view.specs.Trees.{nodes_of}
use Rattle.crash_safety.specs.Elsewhere.{IsElsewhere, IsElsewhereOfBoth, IsOutside}
use Rattle.crash_safety.specs.Safety.{IsJournalSafe}
use Rattle.crash_safety.specs.Writings.{Writing, after}
use Rattle.crash_safety.specs.Parts.{standing_by}
use Rattle.crash_safety.specs.Leaves.{AreInOwnBuckets, AreNodesApart, IsFirstBlock, KeepsOff, StandsAsLeaf}
use Rattle.crash_safety.specs.NodeParts.{AreElsewhere, IsNodePartWritten, StandParts}
use Rattle.node_store.specs.NodeContents.{NodeContent}
use Rattle.node_store.specs.Writes.{IsCopyOf}
use Rattle.node_store.specs.declared.planning.Blocked.{Blocked}
use Rattle.vol_types.specs.Limits.{bucket_blocks}
use Rattle.vol_types.specs.declared.layout.Layout.{Layout}
use Rattle.vol_types.specs.declared.pointers.NodePtr.{NodePtr}
use Rattle.vol_types.specs.declared.pointers.Place.{Place}
use Rattle.vol_types.specs.declared.positions.Btree.{Btree}
use Rattle.crash_safety.specs.KeptLeaves.{HoldsOwn, IsFreshKept, KeepsLeaves, LieWell, LiesApartFrom}
use Rattle.crash_safety.specs.CheckpointLeaves.{FreshLeaf, Leaves, LieApart}
use Rattle.crash_safety.specs.LeafSteps.{with_last, with_written}
use Rattle.crash_safety.proofs.ApartNodes.{all_first, each_of_all, lie_back, nodes_apart, own_buckets}

-- What is known of blocks of nodes that are written.
pub record PartLaws : Type 0 where
  pub outside : (place bucket : Place) (n : ℕ) → IsFirstBlock place → IsFirstBlock bucket → AreInOwnBuckets place bucket → n < bucket_blocks → IsOutside (record { dev = place.dev; block = place.block + n }) bucket
  pub off : (one other : NodePtr) (n : ℕ) → AreNodesApart one other → n < bucket_blocks → KeepsOff (IsCopyOf one.places n) other
  pub roots : (blocked : Blocked) (part : ℕ) (failed : Option ℕ) (layout : Layout) (session : ℕ) (btree : Btree) (root : NodePtr) (content : NodeContent) (old new : DevicesState) → IsNodePartWritten blocked part failed old new
      → KeepsOff (IsCopyOf blocked.places (blocked.block + part)) root → StandsAsLeaf layout session btree root content old → StandsAsLeaf layout session btree root content new
  pub others : (other : Blocked) (part : ℕ) (failed : Option ℕ) (fresh : NodePtr) (blocked : Blocked) (count : ℕ) (old new : DevicesState) → IsNodePartWritten other part failed old new
      → KeepsOff (IsCopyOf other.places (other.block + part)) fresh → blocked.places ≡ fresh.places → blocked.block + count ≤ bucket_blocks → StandParts blocked count old → StandParts blocked count new
  pub next : (layout : Layout) (fresh : NodePtr) (blocked : Blocked) (part : ℕ) (old new : DevicesState) → IsMirrored layout fresh → blocked.places ≡ fresh.places → IsNodePartWritten blocked part None old new → StandParts blocked part old
      → StandParts blocked (part + 1) new
  pub failed : (layout : Layout) (fresh : NodePtr) (blocked : Blocked) (part : ℕ) (failed : Option ℕ) (old new : DevicesState) → IsMirrored layout fresh → blocked.places ≡ fresh.places → IsNodePartWritten blocked part failed old new
      → StandParts blocked part old → StandParts blocked part new
  pub safe : (f : Found) (image : Image) (writing : Option Writing) (asked written : ℕ) (bases : List Found) (durable : List ℕ) (first : ℕ) (old new : DevicesState) (blocked : Blocked) (part : ℕ) (failed : Option ℕ)
      → IsJournalSafe f image writing asked written bases durable first old → AreElsewhere f writing blocked.places → blocked.block + part < bucket_blocks → IsNodePartWritten blocked part failed old new → All IsDisk (now new)
      → IsJournalSafe f image writing asked written bases durable first new

-- The blocks of a leaf that lies apart from all nodes that were found lie elsewhere.
lies_elsewhere : PartLaws → (f : Found) (node : NodePtr) → All (MayHoldNode f.layout) node.places → All (MayHoldNode f.layout) (node_places f) → All (LieApart node) (nodes_of f.trees.nodes)
    → (place : Place) → Contains node.places place → (n : ℕ) → n < bucket_blocks → IsElsewhere f (record { dev = place.dev; block = place.block + n })
lies_elsewhere laws f node may found apart place there n few =
    let lies = All-contains (MayHoldNode f.layout) node.places place may there in
    record {
      behind = let past = lies.past_superblocks in omega (arith, past);
      journal = λ mirror. let past = lies.past_journal mirror in omega (arith, past);
      nodes = λ k d within j e low.
          let pointer = get_or (nodes_of f.trees.nodes) k d in
          let bucket = get_or pointer.places j e in
          laws.outside place bucket n lies.begins (each_of_all (MayHoldNode f.layout) (λ (p : NodePtr). p.places) (nodes_of f.trees.nodes) found k d within j e low).begins
          (own_buckets place bucket (apart k d within place bucket there (Contains-get_or pointer.places j e low))) few;
    }

module _ (laws : PartLaws) (f : Found) (writing : Option Writing) (old new : DevicesState) (l : Leaves) (earlier : List FreshLeaf) (fresh : FreshLeaf) (failed : Option ℕ) (keeps : KeepsLeaves f writing old l) (list : l.fresh ≡ earlier ++ fresh ∷ [])
    (less : fresh.written < bucket_blocks) (is : IsNodePartWritten fresh.blocked fresh.written failed old new) where
  -- ---- the last leaf, and the earlier ones

  abbrev last_of : (P : FreshLeaf → Type 0) → All P l.fresh → P fresh
  last_of P all = All-contains P (earlier ++ fresh ∷ []) fresh (subst (All P) list all) (Contains-push earlier fresh)

  abbrev earlier_of : (P : FreshLeaf → Type 0) → All P l.fresh → All P earlier
  earlier_of P all = all_first P earlier (fresh ∷ []) (subst (All P) list all)

  pairs : AllPairs (λ (one other : FreshLeaf). LieApart one.node other.node) (earlier ++ fresh ∷ [])
  pairs = subst (AllPairs (λ (one other : FreshLeaf). LieApart one.node other.node)) list keeps.lie.fresh_apart

  within_all : (k : ℕ) → k < length earlier → k < length (earlier ++ fresh ∷ [])
  within_all k within = let whole : length (earlier ++ fresh ∷ []) ≡ length earlier + 1 = length-append earlier (fresh ∷ []) in omega (arith, whole, within)

  earlier_apart : AllPairs (λ (one other : FreshLeaf). LieApart one.node other.node) earlier
  earlier_apart i j d before within =
      let first : get_or (earlier ++ fresh ∷ []) i d ≡ get_or earlier i d = get_or_append_left earlier (fresh ∷ []) d i (omega (arith, before, within)) in
      let second : get_or (earlier ++ fresh ∷ []) j d ≡ get_or earlier j d = get_or_append_left earlier (fresh ∷ []) d j within in
      subst (λ (one : FreshLeaf). LieApart one.node (get_or earlier j d).node) first (subst (λ (other : FreshLeaf). LieApart (get_or (earlier ++ fresh ∷ []) i d).node other.node) second (pairs i j d before (within_all j within)))

  last_apart : (k : ℕ) (d : FreshLeaf) → k < length earlier → LieApart (get_or earlier k d).node fresh.node
  last_apart k d within =
      let whole : length (earlier ++ fresh ∷ []) ≡ length earlier + 1 = length-append earlier (fresh ∷ []) in
      let first : get_or (earlier ++ fresh ∷ []) k d ≡ get_or earlier k d = get_or_append_left earlier (fresh ∷ []) d k within in
      let second : get_or (earlier ++ fresh ∷ []) (length earlier) d ≡ fresh = get_or_push earlier fresh d (length earlier) refl in
      subst (λ (one : FreshLeaf). LieApart one.node fresh.node) first
      (subst (λ (other : FreshLeaf). LieApart (get_or (earlier ++ fresh ∷ []) k d).node other.node) second (pairs k (length earlier) d within (omega (arith, whole))))

  kept : IsFreshKept f keeps.before old fresh
  kept = last_of (IsFreshKept f keeps.before old) keeps.fresh

  -- ---- what is written keeps off the others

  low : fresh.blocked.block + fresh.written < bucket_blocks
  low = let first = kept.planned.first in omega (arith, first, less)

  keeps_off : (other : NodePtr) → All (MayHoldNode f.layout) other.places → LieApart fresh.node other → KeepsOff (IsCopyOf fresh.blocked.places (fresh.blocked.block + fresh.written)) other
  keeps_off other may apart = subst (λ (places : List Place). KeepsOff (IsCopyOf places (fresh.blocked.block + fresh.written)) other) (sym kept.planned.places)
      (laws.off fresh.node other (fresh.blocked.block + fresh.written) (nodes_apart f.layout fresh.node other kept.placed may apart) low)

  elsewhere : AreElsewhere f writing fresh.blocked.places
  elsewhere place there n few = of_both writing (last_of (LiesApartFrom (nodes_of f.trees.nodes)) keeps.lie.apart_found) keeps.lie.next_placed keeps.lie.apart_next
    where
      here : Contains fresh.node.places place
      here = subst (λ (places : List Place). Contains places place) kept.planned.places there

      of_both : (o : Option Writing) → LiesApartFrom (nodes_of f.trees.nodes) fresh → IfSome o (λ w. All (MayHoldNode f.layout) (node_places (after w f))) → IfSome o (λ w. All (LiesApartFrom (nodes_of (after w f).trees.nodes)) l.fresh)
          → IsElsewhereOfBoth f o (record { dev = place.dev; block = place.block + n })
      of_both None found placed apart = lies_elsewhere laws f fresh.node kept.placed keeps.lie.found_placed found place here n few
      of_both (Some w) found placed apart = (
        lies_elsewhere laws f fresh.node kept.placed keeps.lie.found_placed found place here n few,
        lies_elsewhere laws (after w f) fresh.node kept.placed placed (last_of (LiesApartFrom (nodes_of (after w f).trees.nodes)) apart) place here n few,
      )

  -- ---- what is kept

  abbrev written : FreshLeaf
  written = with_written (standing_by failed fresh.written) fresh

  last_kept : IsFreshKept f keeps.before new written
  last_kept = record {
    leaf = kept.leaf;
    mirrored = kept.mirrored;
    placed = kept.placed;
    born = kept.born;
    entries = kept.entries;
    planned = record { places = kept.planned.places; first = kept.planned.first; whole = kept.planned.whole; holds = kept.planned.holds; entries_are = kept.planned.entries_are };
    holds = kept.holds;
    few = few failed;
    stand = stand failed is;
  }
    where
      few : (o : Option ℕ) → standing_by o fresh.written ≤ bucket_blocks
      few None = omega (arith, less)
      few (Some dev) = omega (arith, less)

      stand : (o : Option ℕ) → IsNodePartWritten fresh.blocked fresh.written o old new → StandParts fresh.blocked (standing_by o fresh.written) new
      stand None done = laws.next f.layout fresh.node fresh.blocked fresh.written old new kept.mirrored kept.planned.places done kept.stand
      stand (Some dev) done = laws.failed f.layout fresh.node fresh.blocked fresh.written (Some dev) old new kept.mirrored kept.planned.places done kept.stand

  other_kept : (leaf : FreshLeaf) → LieApart leaf.node fresh.node → IsFreshKept f keeps.before old leaf → IsFreshKept f keeps.before new leaf
  other_kept leaf apart was = record {
    leaf = was.leaf;
    mirrored = was.mirrored;
    placed = was.placed;
    born = was.born;
    entries = was.entries;
    planned = was.planned;
    holds = was.holds;
    few = was.few;
    stand = laws.others fresh.blocked fresh.written failed leaf.node leaf.blocked leaf.written old new is (keeps_off leaf.node was.placed (lie_back leaf.node fresh.node apart)) was.planned.places
        (let first = was.planned.first in let count = was.few in omega (arith, first, count)) was.stand;
  }

  -- What holds of the nodes of all leaves that are written still does.
  each_node : (P : NodePtr → Type 0) → All (λ (leaf : FreshLeaf). P leaf.node) l.fresh → All (λ (leaf : FreshLeaf). P leaf.node) (earlier ++ written ∷ [])
  each_node P all = All-push (λ (leaf : FreshLeaf). P leaf.node) earlier written (earlier_of (λ (leaf : FreshLeaf). P leaf.node) all) (last_of (λ (leaf : FreshLeaf). P leaf.node) all)

  lie : LieWell f writing (with_last earlier fresh (standing_by failed fresh.written) l)
  lie = record {
    fixed = keeps.lie.fixed;
    roots = keeps.lie.roots;
    fresh = each_node (HoldsOwn l.space) keeps.lie.fresh;
    found = keeps.lie.found;
    next = keeps.lie.next;
    roots_placed = keeps.lie.roots_placed;
    found_placed = keeps.lie.found_placed;
    next_placed = keeps.lie.next_placed;
    roots_apart = keeps.lie.roots_apart;
    fresh_apart = all_pairs_push (λ (one other : FreshLeaf). LieApart one.node other.node) earlier written earlier_apart last_apart;
    apart_roots = each_node (λ node. (btree : Btree) → LieApart node (l.root btree)) keeps.lie.apart_roots;
    apart_found = each_node (λ node. All (LieApart node) (nodes_of f.trees.nodes)) keeps.lie.apart_found;
    apart_next = next_apart writing keeps.lie.apart_next;
  }
    where
      next_apart : (o : Option Writing) → IfSome o (λ w. All (LiesApartFrom (nodes_of (after w f).trees.nodes)) l.fresh) → IfSome o (λ w. All (LiesApartFrom (nodes_of (after w f).trees.nodes)) (earlier ++ written ∷ []))
      next_apart None apart = tt
      next_apart (Some w) apart = each_node (λ node. All (LieApart node) (nodes_of (after w f).trees.nodes)) apart

  pub written_kept : KeepsLeaves f writing new (with_last earlier fresh (standing_by failed fresh.written) l)
  written_kept = record {
    layout = keeps.layout;
    before = keeps.before;
    are_keys = keeps.are_keys;
    keys = keeps.keys;
    of_leaves = keeps.of_leaves;
    content = keeps.content;
    stand = λ btree.
        laws.roots fresh.blocked fresh.written failed f.layout f.session btree (l.root btree) (keeps.content btree) old new is
        (keeps_off (l.root btree) (keeps.lie.roots_placed btree) (last_of (λ (leaf : FreshLeaf). (b : Btree) → LieApart leaf.node (l.root b)) keeps.lie.apart_roots btree)) (keeps.stand btree);
    births = keeps.births;
    holds = keeps.holds;
    fresh = All-push (IsFreshKept f keeps.before new) earlier written
        (λ k d within. other_kept (get_or earlier k d) (last_apart k d within) (earlier_of (IsFreshKept f keeps.before old) keeps.fresh k d within)) last_kept;
    lie = lie;
  }

  pub written_safely : (image : Image) (asked count : ℕ) (bases : List Found) (durable : List ℕ) (first : ℕ) → IsJournalSafe f image writing asked count bases durable first old → All IsDisk (now new)
      → IsJournalSafe f image writing asked count bases durable first new
  written_safely image asked count bases durable first safe are = laws.safe f image writing asked count bases durable first old new fresh.blocked fresh.written failed safe elsewhere low is are
