-- Roots that lie apart have each its own buckets, and the other way round.
use Rattle.std.proofs.Common.{◌≡◌, ◌≢◌, ⊎_elim, ℕ, zero, suc, ◌+◌, ◌/◌, ◌<◌, ◌≤◌, Bool, true, false, cond, List, [], ◌∷◌, length, map, Some, refl, sym, ap, subst, ◌∙◌, arith}
use Rattle.std.proofs.lemmas.Bool.{and_parts, cases_lt, eqb-true, eq-eqb}
use Rattle.std.proofs.lemmas.List.Elements.{All-contains}
use Rattle.std.proofs.lemmas.List.FromFn.{get_or-range_with_len, length-range_with_len}
use Rattle.std.proofs.lemmas.List.Sums.{sum_by-append, sum_by-cons}
use Rattle.std.proofs.lemmas.Option.{get_or_from_slice_get, none-some, same_Some, slice_get-get_or, slice_get-map, slice_get_within}
use Rattle.std.specs.List.{count_by, flat_map, range_with_len, sum_by}
use Rattle.std.specs.Prelude.{All, Contains, ◌==◌, ◌&&◌, option_map, slice_get}
use Rattle.bucket_pool.specs.NodeLaws.{apart_or_same}
use Rattle.btree_map.specs.Sizes.{all_btrees}
use Rattle.btree_map.specs.StandLaws.{same_btree}
use Rattle.image_view.specs.Found.{IsMirrored}
use Rattle.key_meaning.specs.Checks.{AreNodesPlaced, IsNodePlaced, count_in_bucket, is_in_bucket}
use Rattle.vol_types.specs.Btrees.{btree_code}
use Rattle.vol_types.specs.Limits.{bucket_blocks}
use Rattle.vol_types.specs.declared.layout.Layout.{Layout}
use Rattle.vol_types.specs.declared.pointers.NodePtr.{NodePtr}
use Rattle.vol_types.specs.declared.pointers.Place.{Place}
use Rattle.vol_types.specs.declared.positions.Btree.{Btree}
use Rattle.crash_safety.specs.CheckpointLeaves.{LieApart}
use Rattle.crash_safety.proofs.NineBtrees.{at_code, btree_at, each_btree, each_place}

-- ---- sums over lists

module _ {X : Type 0} (g : X → ℕ) where
  -- A member is a part of the sum, and two are.
  one_part : (xs : List X) (k : ℕ) (x : X) → slice_get xs k ≡ Some x → g x ≤ sum_by g xs
  one_part [] k x at = absurd (none-some x at)
  one_part (a ∷ xs) zero x at =
      let whole : sum_by g (a ∷ xs) ≡ g a + sum_by g xs = sum_by-cons g a xs in
      let same : g a ≡ g x = ap g (same_Some a x at) in
      omega (arith, whole, same)
  one_part (a ∷ xs) (suc k) x at =
      let whole : sum_by g (a ∷ xs) ≡ g a + sum_by g xs = sum_by-cons g a xs in
      let rest : g x ≤ sum_by g xs = one_part xs k x at in
      omega (arith, whole, rest)

  two_parts : (xs : List X) (i j : ℕ) (x y : X) → i < j → slice_get xs i ≡ Some x → slice_get xs j ≡ Some y → g x + g y ≤ sum_by g xs
  two_parts [] i j x y less at there = absurd (none-some x at)
  two_parts (a ∷ xs) i zero x y less at there = absurd (omega (arith, less))
  two_parts (a ∷ xs) zero (suc j) x y less at there =
      let whole : sum_by g (a ∷ xs) ≡ g a + sum_by g xs = sum_by-cons g a xs in
      let same : g a ≡ g x = ap g (same_Some a x at) in
      let rest : g y ≤ sum_by g xs = one_part xs j y there in
      omega (arith, whole, same, rest)
  two_parts (a ∷ xs) (suc i) (suc j) x y less at there =
      let whole : sum_by g (a ∷ xs) ≡ g a + sum_by g xs = sum_by-cons g a xs in
      let rest : g x + g y ≤ sum_by g xs = two_parts xs i j x y (omega (arith, less)) at there in
      omega (arith, whole, rest)

  -- A sum that isn't 0 has a member that isn't.
  some_part : (xs : List X) → 0 < sum_by g xs → (k : ℕ) × (x : X) × (slice_get xs k ≡ Some x) × (0 < g x)
  some_part [] some = absurd (omega (arith, some))
  some_part (a ∷ xs) some =
      ⊎_elim (λ (here : 0 < g a). (0, a, refl, here))
      (λ (none : g a ≤ 0).
      let whole : sum_by g (a ∷ xs) ≡ g a + sum_by g xs = sum_by-cons g a xs in
      let later = some_part xs (let rest : 0 < sum_by g xs = omega (arith, whole, some, none) in rest) in
      (suc later.0, later.1, later.2, later.3))
      (cases_lt 0 (g a))

  -- It is 1 at most where each member is, and no two aren't 0.
  most_one : (xs : List X) → ((x : X) → Contains xs x → g x ≤ 1) → ((i j : ℕ) (x y : X) → i < j → slice_get xs i ≡ Some x → slice_get xs j ≡ Some y → 0 < g x → 0 < g y → ⊥) → sum_by g xs ≤ 1
  most_one [] each apart = omega arith
  most_one (a ∷ xs) each apart =
      let whole : sum_by g (a ∷ xs) ≡ g a + sum_by g xs = sum_by-cons g a xs in
      let first : g a ≤ 1 = each a (0, omega arith, refl) in
      let rest : sum_by g xs ≤ 1 = most_one xs (λ x there. each x (suc there.0, (let low = there.1 in omega (arith, low)), there.2)) (λ i j x y less. apart (suc i) (suc j) x y (omega (arith, less))) in
      ⊎_elim (λ (more : 0 < sum_by g xs).
      let later = some_part xs more in
      ⊎_elim (λ (here : 0 < g a). absurd (apart 0 (suc later.0) a later.1 (omega arith) refl later.2 here later.3)) (λ (none : g a ≤ 0). omega (arith, whole, rest, none)) (cases_lt 0 (g a)))
      (λ (none : sum_by g xs ≤ 0). omega (arith, whole, first, none))
      (cases_lt 0 (sum_by g xs))

-- what is counted in joined lists
count_joined : {X Y : Type 0} (p : Y → Bool) (f : X → List Y) (xs : List X) → count_by p (flat_map f xs) ≡ sum_by (λ x. count_by p (f x)) xs
count_joined p f [] = refl
count_joined p f (x ∷ xs) = sum_by-append (λ y. cond (p y) 1 0) (f x) (flat_map f xs) ∙ ap (λ n. count_by p (f x) + n) (count_joined p f xs) ∙ sym (sum_by-cons (λ z. count_by p (f z)) x xs)

-- ---- places in a bucket

module _ (dev bucket : ℕ) where
  abbrev weight : Place → ℕ
  weight place = cond (is_in_bucket dev bucket place) 1 0

  one_at_most : (b : Bool) → cond {A = ℕ} b 1 0 ≤ 1
  one_at_most true = omega arith
  one_at_most false = omega arith

  counts : (b : Bool) → 0 < cond {A = ℕ} b 1 0 → b ≡ true
  counts true some = refl
  counts false some = absurd (omega (arith, some))

  -- A place that counts lies in the bucket.
  in_bucket : (place : Place) → 0 < weight place → (place.dev ≡ dev) × (place.block / bucket_blocks ≡ bucket)
  in_bucket place some =
      let parts = and_parts (place.dev == dev) (place.block / bucket_blocks == bucket) (counts (is_in_bucket dev bucket place) some) in
      (eqb-true place.dev dev parts.0, eqb-true (place.block / bucket_blocks) bucket parts.1)

  -- A node of which places are counted has a place there.
  place_there : (node : NodePtr) → 0 < count_in_bucket node.places dev bucket → (place : Place) × Contains node.places place × (place.dev ≡ dev) × (place.block / bucket_blocks ≡ bucket)
  place_there node some =
      let found = some_part weight node.places some in
      let lies = in_bucket found.1 found.3 in
      (found.1, (found.0, slice_get_within node.places found.0 found.1 found.2, get_or_from_slice_get node.places found.0 found.1 found.1 found.2), lies.0, lies.1)

  -- Of two that lie apart one has none.
  not_both : (one other : NodePtr) → LieApart one other → 0 < count_in_bucket one.places dev bucket → 0 < count_in_bucket other.places dev bucket → ⊥
  not_both one other apart here there =
      let first = place_there one here in
      let second = place_there other there in
      ⊎_elim (λ devices. devices (first.2 ∙ sym second.2)) (λ blocks. blocks (first.3 ∙ sym second.3)) (apart first.0 second.0 first.1 second.1)

  -- A node that stands on every metadata device has one at most.
  once : (layout : Layout) (node : NodePtr) → IsMirrored layout node → count_in_bucket node.places dev bucket ≤ 1
  once layout node mirrored = most_one weight node.places (λ place there. one_at_most (is_in_bucket dev bucket place)) (λ i j one other less at there here again.
      let first : one.dev ≡ 0 + i = device_of i one at in
      let second : other.dev ≡ 0 + j = device_of j other there in
      let same : one.dev ≡ dev = (in_bucket one here).0 in
      let equal : other.dev ≡ dev = (in_bucket other again).0 in
      let differ : ⊥ = absurd (omega (arith, less, first, second, same, equal)) in differ)
    where
      device_of : (k : ℕ) (place : Place) → slice_get node.places k ≡ Some place → place.dev ≡ 0 + k
      device_of k place at =
          let devices = range_with_len 0 layout.metadata_replicas in
          let there : slice_get devices k ≡ Some place.dev = sym (ap (λ (list : List ℕ). slice_get list k) mirrored) ∙ slice_get-map (λ (p : Place). p.dev) node.places k ∙ ap (option_map (λ (p : Place). p.dev)) at in
          let within : k < length devices = slice_get_within devices k place.dev there in
          let count : length devices ≡ layout.metadata_replicas = length-range_with_len 0 layout.metadata_replicas in
          sym (get_or_from_slice_get devices k place.dev 0 there) ∙ get_or-range_with_len 0 layout.metadata_replicas k 0 (omega (arith, within, count))

-- A place that a node has is counted in its bucket.
counted : (node : NodePtr) (place : Place) → Contains node.places place → 1 ≤ count_in_bucket node.places place.dev (place.block / bucket_blocks)
counted node place there =
    let bucket = place.block / bucket_blocks in
    let at : slice_get node.places there.0 ≡ Some place = slice_get-get_or node.places there.0 place there.1 ∙ ap Some there.2 in
    let least : weight place.dev bucket place ≤ count_in_bucket node.places place.dev bucket = one_part (weight place.dev bucket) node.places there.0 place at in
    let one : weight place.dev bucket place ≡ 1 = ap (λ (b : Bool). cond {A = ℕ} b 1 0) (λ i. eq-eqb place.dev place.dev refl i && eq-eqb bucket bucket refl i) in
    omega (arith, least, one)

-- ---- nine roots

abbrev pub root_places : (Btree → NodePtr) → List Place
root_places root = flat_map (λ (node : NodePtr). node.places) (map root all_btrees)

-- Roots that lie apart, each on every metadata device, lie where nodes may, each in buckets of its own.
pub roots_are_placed : (layout : Layout) (root : Btree → NodePtr) → ((btree : Btree) → IsMirrored layout (root btree)) → ((btree : Btree) → All (IsNodePlaced layout) (root btree).places)
    → ((one other : Btree) → one ≢ other → LieApart (root one) (root other)) → AreNodesPlaced (root_places root) layout
roots_are_placed layout root mirrored placed apart = record {
  each = each_place (IsNodePlaced layout) (map root all_btrees) (each_btree root (λ node. All (IsNodePlaced layout) node.places) placed);
  apart = λ dev bucket. subst (λ n. n ≤ 1) (sym (count_joined (is_in_bucket dev bucket) (λ (node : NodePtr). node.places) (map root all_btrees)))
      (most_one (λ (node : NodePtr). count_in_bucket node.places dev bucket) (map root all_btrees)
      (λ node there. All-contains (λ n. count_in_bucket n.places dev bucket ≤ 1) (map root all_btrees) node (each_btree root (λ n. count_in_bucket n.places dev bucket ≤ 1) (λ btree. once dev bucket layout (root btree) (mirrored btree))) there)
      (λ i j one other less at there here again.
      let first = btree_at root i one at in
      let second = btree_at root j other there in
      let differ : first.0 ≢ second.0 = λ same. let code : btree_code first.0 ≡ btree_code second.0 = ap btree_code same in let here_is = first.1 in let there_is = second.1 in absurd (omega (arith, less, code, here_is, there_is)) in
      not_both dev bucket one other (subst (λ n. LieApart n other) first.2 (subst (LieApart (root first.0)) second.2 (apart first.0 second.0 differ))) here again));
}

module _ (root : Btree → NodePtr) (place another : Place) where
  abbrev count : NodePtr → ℕ
  count node = count_in_bucket node.places place.dev (place.block / bucket_blocks)

  -- Two roots have no place in the bucket of one place.
  once_only : ((dev bucket : ℕ) → count_in_bucket (root_places root) dev bucket ≤ 1) → (i j : ℕ) (x y : NodePtr) → i < j → slice_get (map root all_btrees) i ≡ Some x → slice_get (map root all_btrees) j ≡ Some y → 1 ≤ count x → 1 ≤ count y → ⊥
  once_only apart i j x y less at next first second =
      let whole : count_in_bucket (root_places root) place.dev (place.block / bucket_blocks) ≡ sum_by count (map root all_btrees) = count_joined (is_in_bucket place.dev (place.block / bucket_blocks)) (λ (node : NodePtr). node.places) (map root all_btrees) in
      let most : count_in_bucket (root_places root) place.dev (place.block / bucket_blocks) ≤ 1 = apart place.dev (place.block / bucket_blocks) in
      let parts : count x + count y ≤ sum_by count (map root all_btrees) = two_parts count (map root all_btrees) i j x y less at next in
      absurd (omega (arith, whole, most, parts, first, second))

  one_root : ((dev bucket : ℕ) → count_in_bucket (root_places root) dev bucket ≤ 1) → (one other : Btree) → one ≢ other → 1 ≤ count (root one) → 1 ≤ count (root other) → ⊥
  one_root apart one other differ first second =
      ⊎_elim (λ (less : btree_code one < btree_code other). once_only apart (btree_code one) (btree_code other) (root one) (root other) less (at_code root one) (at_code root other) first second)
      (λ (back : btree_code other ≤ btree_code one).
      ⊎_elim (λ (less : btree_code other < btree_code one). once_only apart (btree_code other) (btree_code one) (root other) (root one) less (at_code root other) (at_code root one) second first)
      (λ (over : btree_code one ≤ btree_code other). differ (same_btree one other (omega (arith, back, over)))) (cases_lt (btree_code other) (btree_code one)))
      (cases_lt (btree_code one) (btree_code other))

-- Roots in buckets of their own lie apart.
pub roots_lie_apart : (layout : Layout) (root : Btree → NodePtr) → AreNodesPlaced (root_places root) layout → (one other : Btree) → one ≢ other → LieApart (root one) (root other)
roots_lie_apart layout root placed one other differ place another here there =
    ⊎_elim (λ apart. apart)
    (λ same.
    let second : 1 ≤ count root place another (root other) =
    subst (λ (n : ℕ). 1 ≤ n) (λ i. count_in_bucket (root other).places (sym same.0 i) (sym same.1 i)) (counted (root other) another there) in
    absurd (one_root root place another placed.apart one other differ (counted (root one) place here) second))
    (apart_or_same place another)
