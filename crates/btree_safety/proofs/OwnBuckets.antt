-- Nodes of btrees lie apart where no two of them share a bucket, and the other way round.
use Rattle.std.proofs.Common.{◌≡◌, ◌≢◌, inl, inr, ⊎_elim, ℕ, zero, suc, ◌+◌, ◌/◌, ◌<◌, ◌≤◌, Bool, true, false, cond, List, [], ◌∷◌, length, Some, refl, sym, ap, subst, ◌∙◌, arith}
use Rattle.std.specs.Prelude.{All, Contains, ◌==◌, ◌&&◌, option_map, slice_get}
use Rattle.std.specs.List.{AllByRecursion, flat_map, range_with_len, sum_by}
use Rattle.std.proofs.lemmas.Bool.{and_parts, cases_lt, eqb-true, eq-eqb}
use Rattle.std.proofs.lemmas.List.Elements.{All-append, All-head, All-nil, All-tail, recursion_from_All}
use Rattle.std.proofs.lemmas.List.FromFn.{get_or-range_with_len, length-range_with_len}
use Rattle.std.proofs.lemmas.List.Sums.{sum_by-append, sum_by-cons}
use Rattle.std.proofs.lemmas.Option.{get_or_from_slice_get, none-some, same_Some, slice_get-get_or, slice_get-map, slice_get_within}
use Rattle.bucket_pool.specs.NodeLaws.{apart_or_same}
use Rattle.image_view.specs.Found.{IsMirrored}
use Rattle.image_view.specs.Trees.{SetsOf, nodes_of}
use Rattle.key_meaning.specs.Checks.{AreNodesPlaced, IsNodePlaced, count_in_bucket, is_in_bucket}
use Rattle.tree_nodes.specs.Levels.{Levels}
use Rattle.vol_types.specs.Limits.{bucket_blocks}
use Rattle.vol_types.specs.declared.layout.Layout.{Layout}
use Rattle.vol_types.specs.declared.pointers.NodePtr.{NodePtr}
use Rattle.vol_types.specs.declared.pointers.Place.{Place}
use Rattle.vol_types.specs.declared.positions.Btree.{Btree}
use Rattle.btree_laws.specs.Standing.{Contents, StandAsBtrees}
use Rattle.crash_safety.specs.CheckpointLeaves.{LieApart}
use Rattle.btree_safety.proofs.NodePairs.{EachPair, OfNames, names_of_pairs, pairs_of_names}

-- Nodes that lie apart do so either way.
pub lie_back : (one other : NodePtr) → LieApart one other → LieApart other one
lie_back one other apart place another here there = ⊎_elim (λ (devices : another.dev ≢ place.dev). inl (λ same. devices (sym same))) (λ (blocks : another.block / bucket_blocks ≢ place.block / bucket_blocks). inr (λ same. blocks (sym same))) (apart another place there here)

-- ---- the places of one node

module _ {X : Type 0} (g : X → ℕ) where
  -- A member is a part of the sum.
  one_part : (xs : List X) (k : ℕ) (x : X) → slice_get xs k ≡ Some x → g x ≤ sum_by g xs
  one_part [] k x at = absurd (none-some x at)
  one_part (a ∷ xs) zero x at =
      let whole : sum_by g (a ∷ xs) ≡ g a + sum_by g xs = sum_by-cons g a xs in
      let same : g a ≡ g x = ap g (same_Some a x at) in
      omega (arith, whole, same)
  one_part (a ∷ xs) (suc k) x at =
      let whole : sum_by g (a ∷ xs) ≡ g a + sum_by g xs = sum_by-cons g a xs in
      let rest : g x ≤ sum_by g xs = one_part xs k x at in
      omega (arith, whole, rest)

  -- A sum that isn't 0 has a member that isn't.
  some_part : (xs : List X) → 0 < sum_by g xs → (k : ℕ) × (x : X) × (slice_get xs k ≡ Some x) × (0 < g x)
  some_part [] some = absurd (omega (arith, some))
  some_part (a ∷ xs) some =
      ⊎_elim (λ (here : 0 < g a). (0, a, refl, here))
      (λ (none : g a ≤ 0).
      let whole : sum_by g (a ∷ xs) ≡ g a + sum_by g xs = sum_by-cons g a xs in
      let later = some_part xs (let rest : 0 < sum_by g xs = omega (arith, whole, some, none) in rest) in
      (suc later.0, later.1, later.2, later.3))
      (cases_lt 0 (g a))

  -- It is 1 at most where each member is, and no two aren't 0.
  most_one : (xs : List X) → ((x : X) → g x ≤ 1) → ((i j : ℕ) (x y : X) → i < j → slice_get xs i ≡ Some x → slice_get xs j ≡ Some y → 0 < g x → 0 < g y → ⊥) → sum_by g xs ≤ 1
  most_one [] each apart = omega arith
  most_one (a ∷ xs) each apart =
      let whole : sum_by g (a ∷ xs) ≡ g a + sum_by g xs = sum_by-cons g a xs in
      let first : g a ≤ 1 = each a in
      let rest : sum_by g xs ≤ 1 = most_one xs each (λ i j x y less. apart (suc i) (suc j) x y (omega (arith, less))) in
      ⊎_elim (λ (more : 0 < sum_by g xs).
      let later = some_part xs more in
      ⊎_elim (λ (here : 0 < g a). absurd (apart 0 (suc later.0) a later.1 (omega arith) refl later.2 here later.3)) (λ (none : g a ≤ 0). omega (arith, whole, rest, none)) (cases_lt 0 (g a)))
      (λ (none : sum_by g xs ≤ 0). omega (arith, whole, first, none))
      (cases_lt 0 (sum_by g xs))

module _ (dev bucket : ℕ) where
  abbrev weight : Place → ℕ
  weight place = cond (is_in_bucket dev bucket place) 1 0

  one_at_most : (b : Bool) → cond {A = ℕ} b 1 0 ≤ 1
  one_at_most true = omega arith
  one_at_most false = omega arith

  counts : (b : Bool) → 0 < cond {A = ℕ} b 1 0 → b ≡ true
  counts true some = refl
  counts false some = absurd (omega (arith, some))

  -- A place that counts lies in the bucket.
  in_bucket : (place : Place) → 0 < weight place → (place.dev ≡ dev) × (place.block / bucket_blocks ≡ bucket)
  in_bucket place some =
      let parts = and_parts (place.dev == dev) (place.block / bucket_blocks == bucket) (counts (is_in_bucket dev bucket place) some) in
      (eqb-true place.dev dev parts.0, eqb-true (place.block / bucket_blocks) bucket parts.1)

  -- A node of which places are counted has a place there.
  place_there : (node : NodePtr) → 0 < count_in_bucket node.places dev bucket → (place : Place) × Contains node.places place × (place.dev ≡ dev) × (place.block / bucket_blocks ≡ bucket)
  place_there node some =
      let found = some_part weight node.places some in
      let lies = in_bucket found.1 found.3 in
      (found.1, (found.0, slice_get_within node.places found.0 found.1 found.2, get_or_from_slice_get node.places found.0 found.1 found.1 found.2), lies.0, lies.1)

  -- Of two that lie apart one has none.
  not_both : (one other : NodePtr) → LieApart one other → 0 < count_in_bucket one.places dev bucket → 0 < count_in_bucket other.places dev bucket → ⊥
  not_both one other apart here there =
      let first = place_there one here in
      let second = place_there other there in
      ⊎_elim (λ devices. devices (first.2 ∙ sym second.2)) (λ blocks. blocks (first.3 ∙ sym second.3)) (apart first.0 second.0 first.1 second.1)

  -- A node that lies on every metadata device has one at most.
  once : (layout : Layout) (node : NodePtr) → IsMirrored layout node → count_in_bucket node.places dev bucket ≤ 1
  once layout node mirrored = most_one weight node.places (λ place. one_at_most (is_in_bucket dev bucket place)) (λ i j one other less at there here again.
      let first : one.dev ≡ 0 + i = device_of i one at in
      let second : other.dev ≡ 0 + j = device_of j other there in
      let same : one.dev ≡ dev = (in_bucket one here).0 in
      let equal : other.dev ≡ dev = (in_bucket other again).0 in
      let differ : ⊥ = absurd (omega (arith, less, first, second, same, equal)) in differ)
    where
      device_of : (k : ℕ) (place : Place) → slice_get node.places k ≡ Some place → place.dev ≡ 0 + k
      device_of k place at =
          let devices = range_with_len 0 layout.metadata_replicas in
          let there : slice_get devices k ≡ Some place.dev = sym (ap (λ (list : List ℕ). slice_get list k) mirrored) ∙ slice_get-map (λ (p : Place). p.dev) node.places k ∙ ap (option_map (λ (p : Place). p.dev)) at in
          let within : k < length devices = slice_get_within devices k place.dev there in
          let count : length devices ≡ layout.metadata_replicas = length-range_with_len 0 layout.metadata_replicas in
          sym (get_or_from_slice_get devices k place.dev 0 there) ∙ get_or-range_with_len 0 layout.metadata_replicas k 0 (omega (arith, within, count))

  -- ---- the places of all

  abbrev places_of : List NodePtr → List Place
  places_of nodes = flat_map (λ (node : NodePtr). node.places) nodes

  split : (node : NodePtr) (nodes : List NodePtr) → count_in_bucket (places_of (node ∷ nodes)) dev bucket ≡ count_in_bucket node.places dev bucket + count_in_bucket (places_of nodes) dev bucket
  split node nodes = sum_by-append weight node.places (places_of nodes)

  -- Nodes that lie apart from one that has a place there have none.
  none_there : (node : NodePtr) (nodes : List NodePtr) → AllByRecursion (LieApart node) nodes → 0 < count_in_bucket node.places dev bucket → count_in_bucket (places_of nodes) dev bucket ≤ 0
  none_there node [] apart here = omega arith
  none_there node (other ∷ nodes) apart here =
      let whole = split other nodes in
      let rest = none_there node nodes apart.1 here in
      ⊎_elim (λ (there : 0 < count_in_bucket other.places dev bucket). absurd (not_both node other apart.0 here there)) (λ (none : count_in_bucket other.places dev bucket ≤ 0). omega (arith, whole, rest, none)) (cases_lt 0 (count_in_bucket other.places dev bucket))

  all_once : (layout : Layout) (nodes : List NodePtr) → AllByRecursion (IsMirrored layout) nodes → EachPair LieApart nodes → count_in_bucket (places_of nodes) dev bucket ≤ 1
  all_once layout [] mirrored apart = omega arith
  all_once layout (node ∷ nodes) mirrored apart =
      let whole = split node nodes in
      let own = once layout node mirrored.0 in
      let rest = all_once layout nodes mirrored.1 apart.1 in
      ⊎_elim (λ (here : 0 < count_in_bucket node.places dev bucket). let none = none_there node nodes apart.0 here in omega (arith, whole, own, none)) (λ (none : count_in_bucket node.places dev bucket ≤ 0). omega (arith, whole, rest, none))
      (cases_lt 0 (count_in_bucket node.places dev bucket))

-- A place that a node has is counted in its bucket.
counted : (node : NodePtr) (place : Place) → Contains node.places place → 1 ≤ count_in_bucket node.places place.dev (place.block / bucket_blocks)
counted node place there =
    let bucket = place.block / bucket_blocks in
    let at : slice_get node.places there.0 ≡ Some place = slice_get-get_or node.places there.0 place there.1 ∙ ap Some there.2 in
    let least : weight place.dev bucket place ≤ count_in_bucket node.places place.dev bucket = one_part (weight place.dev bucket) node.places there.0 place at in
    let one : weight place.dev bucket place ≡ 1 = ap (λ (b : Bool). cond {A = ℕ} b 1 0) (λ i. eq-eqb place.dev place.dev refl i && eq-eqb bucket bucket refl i) in
    omega (arith, least, one)

-- Where each bucket has one place at most, a node lies apart from all others,
apart_from : (node : NodePtr) (nodes : List NodePtr) → ((dev bucket : ℕ) → count_in_bucket node.places dev bucket + count_in_bucket (places_of dev bucket nodes) dev bucket ≤ 1) → AllByRecursion (LieApart node) nodes
apart_from node [] most = tt
apart_from node (other ∷ nodes) most = (
  λ place another here there. ⊎_elim
      (λ apart. apart)
      (λ same.
      let second : 1 ≤ count_in_bucket other.places place.dev (place.block / bucket_blocks) = subst (λ (n : ℕ). 1 ≤ n) (λ i. count_in_bucket other.places (sym same.0 i) (sym same.1 i)) (counted other another there) in
      let first = counted node place here in
      let whole = split place.dev (place.block / bucket_blocks) other nodes in
      let one = most place.dev (place.block / bucket_blocks) in
      absurd (omega (arith, first, second, whole, one)))
      (apart_or_same place another),
  apart_from node nodes (λ dev bucket. let whole = split dev bucket other nodes in let one = most dev bucket in omega (arith, whole, one)),
)

-- and so do all.
all_apart : (nodes : List NodePtr) → ((dev bucket : ℕ) → count_in_bucket (places_of dev bucket nodes) dev bucket ≤ 1) → EachPair LieApart nodes
all_apart [] most = tt
all_apart (node ∷ nodes) most = (
  apart_from node nodes (λ dev bucket. let whole = split dev bucket node nodes in let one = most dev bucket in omega (arith, whole, one)),
  all_apart nodes (λ dev bucket. let whole = split dev bucket node nodes in let one = most dev bucket in omega (arith, whole, one)),
)

-- ---- btrees

-- What holds of the places of each node holds of all places.
pub each_place : (P : Place → Type 0) (nodes : List NodePtr) → All (λ (node : NodePtr). All P node.places) nodes → All P (flat_map (λ (node : NodePtr). node.places) nodes)
each_place P [] all = All-nil P
each_place P (node ∷ nodes) all = All-append P node.places (flat_map (λ (n : NodePtr). n.places) nodes) (All-head (λ (n : NodePtr). All P n.places) node nodes all) (each_place P nodes (All-tail (λ (n : NodePtr). All P n.places) node nodes all))

-- Nodes of btrees that lie apart, each on every metadata device and where nodes may, lie each in buckets of its own.
pub apart_are_placed : (layout : Layout) (sets : SetsOf) (roots : List NodePtr) (trees : List Levels) (content : Btree → Contents) → StandAsBtrees sets roots trees content → All (IsMirrored layout) (nodes_of trees) → All (λ (node : NodePtr). All (IsNodePlaced layout) node.places) (nodes_of trees)
    → OfNames LieApart trees → AreNodesPlaced (flat_map (λ (node : NodePtr). node.places) (nodes_of trees)) layout
apart_are_placed layout sets roots trees content stand mirrored placed apart = record {
  each = each_place (IsNodePlaced layout) (nodes_of trees) placed;
  apart = λ dev bucket. all_once dev bucket layout (nodes_of trees) (recursion_from_All (IsMirrored layout) (nodes_of trees) mirrored) (pairs_of_names LieApart sets roots trees content stand apart);
}

-- Nodes of btrees in buckets of their own lie apart.
pub placed_are_apart : (layout : Layout) (trees : List Levels) → AreNodesPlaced (flat_map (λ (node : NodePtr). node.places) (nodes_of trees)) layout → OfNames LieApart trees
placed_are_apart layout trees placed = names_of_pairs LieApart lie_back trees (all_apart (nodes_of trees) placed.apart)
