-- The nine roots of a fresh volume: each stands on every metadata device, in a bucket of its own where nodes may lie.
use Rattle.std.proofs.Common.{◌≡◌, ℕ, zero, suc, ◌+◌, ◌*◌, ◌/◌, ◌<◌, ◌≤◌, Bool, true, false, ◌&&◌, cond, List, [], ◌∷◌, length, map, slice_get, Some, ⊎_elim, refl, ap, ◌∙◌, sym, arith, All, sum_by}
use Rattle.std.specs.List.{count_by, flat_map, range_with_len}
use Rattle.std.specs.Prelude.{◌==◌}
use Rattle.std.proofs.lemmas.Bool.{cases_eq, lt-ltb, ne_eqb}
use Rattle.std.proofs.lemmas.List.Elements.{All-append, All-cons, All-head, All-map, All-nil, All-tail}
use Rattle.std.proofs.lemmas.List.FromFn.{get_or-map-range_with_len, length-map-range_with_len}
use Rattle.std.proofs.lemmas.List.Sums.{sum_by-append}
use Rattle.std.proofs.lemmas.Option.{get_or_from_slice_get, slice_get_within}
use Rattle.vol_types.specs.Limits.{bucket_blocks}
use Rattle.vol_types.specs.declared.layout.Layout.{Layout}
use Rattle.vol_types.specs.declared.pointers.NodePtr.{NodePtr}
use Rattle.vol_types.specs.declared.pointers.Place.{Place}
use Rattle.geometry.specs.LayoutFacts.{has_places}
use Rattle.geometry.specs.Layouts.{is_layout_of}
use Rattle.key_meaning.specs.Checks.{AreNodesPlaced, IsNodePlaced, count_in_bucket, is_in_bucket}
use Rattle.record_codec.specs.Entries.{root_length_of}
use Rattle.image_view.specs.Found.{IsMirrored, node_places}
use Rattle.vol_format.specs.Fresh.{fresh_found, fresh_root, fresh_roots, root_place}

-- ---- all of them

-- All numbers of a range have what each has that lies in it.
pub All-range : (P : ℕ → Type 0) (a n : ℕ) → ((i : ℕ) → a ≤ i → i < a + n → P i) → All P (range_with_len a n)
All-range P a zero each = All-nil P
All-range P a (suc n) each = All-cons P a (range_with_len (a + 1) n) (each a (omega arith) (omega arith)) (All-range P (a + 1) n (λ i low high. each i (omega (arith, low)) (omega (arith, high))))

-- So do all places of a root,
pub All-places : (P : Place → Type 0) (layout : Layout) (number : ℕ) → ((dev : ℕ) → dev < layout.metadata_replicas → P (root_place layout number dev)) → All P (fresh_root layout number).places
All-places P layout number each = All-map P (root_place layout number) (range_with_len 0 layout.metadata_replicas) (All-range (λ dev. P (root_place layout number dev)) 0 layout.metadata_replicas (λ dev low high. each dev (omega (arith, high))))

-- and all roots.
pub All-roots : (P : NodePtr → Type 0) (layout : Layout) → ((number : ℕ) → number < 9 → P (fresh_root layout number)) → All P (fresh_roots layout)
All-roots P layout each = All-map P (fresh_root layout) (range_with_len 0 9) (All-range (λ number. P (fresh_root layout number)) 0 9 (λ number low high. each number (omega (arith, high))))

-- The root at a place among them is that of the btree with this number.
pub root_at : (layout : Layout) (place : ℕ) (root : NodePtr) → slice_get (fresh_roots layout) place ≡ Some root → (place < 9) × (root ≡ fresh_root layout place)
root_at layout place root is =
    let within : place < 9 = slice_get_within (fresh_roots layout) place root is in (
      within,
      sym (get_or_from_slice_get (fresh_roots layout) place root (fresh_root layout 0) is) ∙ get_or-map-range_with_len (fresh_root layout) 0 9 place place (fresh_root layout 0) within (omega arith),
    )

devices_are : (layout : Layout) (number a n : ℕ) → map (λ (place : Place). place.dev) (map (root_place layout number) (range_with_len a n)) ≡ range_with_len a n
devices_are layout number a zero = refl
devices_are layout number a (suc n) = ap (λ devs. a ∷ devs) (devices_are layout number (a + 1) n)

-- A root has one place on each metadata device.
pub is_mirrored : (layout : Layout) (number : ℕ) → IsMirrored layout (fresh_root layout number)
is_mirrored layout number = devices_are layout number 0 layout.metadata_replicas

-- ---- their lengths in an entry

roots_short : (layout : Layout) (a n : ℕ) → layout.metadata_replicas ≤ 3 → sum_by root_length_of (map (fresh_root layout) (range_with_len a n)) ≤ 25 * n
roots_short layout a zero few = omega arith
roots_short layout a (suc n) few =
    let step : sum_by root_length_of (map (fresh_root layout) (range_with_len a (suc n))) ≡ 0 + (10 + 5 * length (fresh_root layout a).places) + sum_by root_length_of (map (fresh_root layout) (range_with_len (a + 1) n)) = sum_by-append root_length_of (fresh_root layout a ∷ []) (map (fresh_root layout) (range_with_len (a + 1) n)) in
    omega (arith, few, step, length-map-range_with_len (root_place layout a) 0 layout.metadata_replicas, roots_short layout (a + 1) n few)

-- The roots take few bytes.
pub short_roots : (layout : Layout) → layout.metadata_replicas ≤ 3 → sum_by root_length_of (fresh_roots layout) ≤ 225
short_roots layout few = roots_short layout 0 9 few

-- ---- their buckets

-- the first block of the bucket of a root
abbrev first_block : Layout → ℕ → ℕ
first_block layout number = 16 + layout.journal + 16 * number

-- A place more counts, or it doesn't.
count_more : (p : Place → Bool) (place : Place) (places : List Place) → count_by p (place ∷ places) ≡ 0 + cond {A = ℕ} (p place) 1 0 + count_by p places
count_more p place places = sum_by-append (λ x. cond {A = ℕ} (p x) 1 0) (place ∷ []) places

count_none : (p : Place → Bool) (places : List Place) → All (λ place. p place ≡ false) places → count_by p places ≡ 0
count_none p [] none = refl
count_none p (place ∷ places) none =
    let off : cond {A = ℕ} (p place) 1 0 ≡ 0 = ap (λ b. cond {A = ℕ} b 1 0) (All-head (λ place. p place ≡ false) place places none) in
    omega (arith, off, count_more p place places, count_none p places (All-tail (λ place. p place ≡ false) place places none))

at_most_one : (here : Bool) (rest : ℕ) → rest ≡ 0 → cond {A = ℕ} here 1 0 + rest ≤ 1
at_most_one true rest none = omega (arith, none)
at_most_one false rest none = omega (arith, none)

other_device : (one other : ℕ) (rest : Bool) → ¬ (one ≡ other) → ((one == other) && rest) ≡ false
other_device one other rest differ = rw (ne_eqb one other differ) refl

other_bucket : (test : Bool) (one other : ℕ) → ¬ (one ≡ other) → (test && (one == other)) ≡ false
other_bucket true one other differ = ne_eqb one other differ
other_bucket false one other differ = refl

-- The places of a root on some devices lie in other buckets than a bucket of another number,
none_elsewhere : (layout : Layout) (number dev bucket a n : ℕ) → ¬ (first_block layout number / bucket_blocks ≡ bucket) → All (λ place. is_in_bucket dev bucket place ≡ false) (map (root_place layout number) (range_with_len a n))
none_elsewhere layout number dev bucket a n differ = All-map (λ place. is_in_bucket dev bucket place ≡ false) (root_place layout number) (range_with_len a n)
    (All-range (λ i. is_in_bucket dev bucket (root_place layout number i) ≡ false) a n (λ i low high. other_bucket (i == dev) (first_block layout number / bucket_blocks) bucket differ))

-- and at most one of them in each bucket.
places_once : (layout : Layout) (number dev bucket a n : ℕ) → count_by (is_in_bucket dev bucket) (map (root_place layout number) (range_with_len a n)) ≤ 1
places_once layout number dev bucket a zero = omega arith
places_once layout number dev bucket a (suc n) =
    let p : Place → Bool = is_in_bucket dev bucket in
    let rest : List Place = map (root_place layout number) (range_with_len (a + 1) n) in
    let more = count_more p (root_place layout number a) rest in
    ⊎_elim
    (λ (here : a ≡ dev).
    let none : count_by p rest ≡ 0 = count_none p rest
    (All-map (λ place. is_in_bucket dev bucket place ≡ false) (root_place layout number) (range_with_len (a + 1) n)
    (All-range (λ i. is_in_bucket dev bucket (root_place layout number i) ≡ false) (a + 1) n (λ i low high. other_device i dev (first_block layout number / bucket_blocks == bucket) (λ e. omega (arith, e, here, low))))) in
    omega (arith, more, at_most_one (is_in_bucket dev bucket (root_place layout number a)) (count_by p rest) none))
    (λ (away : ¬ (a ≡ dev)).
    let off : cond {A = ℕ} (is_in_bucket dev bucket (root_place layout number a)) 1 0 ≡ 0 = ap (λ b. cond {A = ℕ} b 1 0) (other_device a dev (first_block layout number / bucket_blocks == bucket) away) in
    omega (arith, more, off, places_once layout number dev bucket (a + 1) n))
    (cases_eq a dev)

-- the places of roots from one on
abbrev places_from : Layout → ℕ → ℕ → List Place
places_from layout a n = flat_map (λ (pointer : NodePtr). pointer.places) (map (fresh_root layout) (range_with_len a n))

none_from : (layout : Layout) (dev bucket a n : ℕ) → ((i : ℕ) → a ≤ i → ¬ (first_block layout i / bucket_blocks ≡ bucket)) → All (λ place. is_in_bucket dev bucket place ≡ false) (places_from layout a n)
none_from layout dev bucket a zero differ = All-nil (λ place. is_in_bucket dev bucket place ≡ false)
none_from layout dev bucket a (suc n) differ = All-append (λ place. is_in_bucket dev bucket place ≡ false) (fresh_root layout a).places (places_from layout (a + 1) n)
    (none_elsewhere layout a dev bucket 0 layout.metadata_replicas (differ a (omega arith))) (none_from layout dev bucket (a + 1) n (λ i low. differ i (omega (arith, low))))

roots_once : (layout : Layout) (dev bucket a n : ℕ) → count_in_bucket (places_from layout a n) dev bucket ≤ 1
roots_once layout dev bucket a zero = omega arith
roots_once layout dev bucket a (suc n) =
    let first : ℕ = count_by (is_in_bucket dev bucket) (fresh_root layout a).places in
    let rest : ℕ = count_by (is_in_bucket dev bucket) (places_from layout (a + 1) n) in
    let both : count_in_bucket (places_from layout a (suc n)) dev bucket ≡ first + rest = sum_by-append (λ place. cond {A = ℕ} (is_in_bucket dev bucket place) 1 0) (fresh_root layout a).places (places_from layout (a + 1) n) in
    ⊎_elim
    (λ (here : first_block layout a / bucket_blocks ≡ bucket).
    let none : rest ≡ 0 = count_none (is_in_bucket dev bucket) (places_from layout (a + 1) n) (none_from layout dev bucket (a + 1) n (λ i low e. omega (arith, here, low, e))) in
    omega (arith, both, none, places_once layout a dev bucket 0 layout.metadata_replicas))
    (λ (away : ¬ (first_block layout a / bucket_blocks ≡ bucket)).
    let none : first ≡ 0 = count_none (is_in_bucket dev bucket) (fresh_root layout a).places (none_elsewhere layout a dev bucket 0 layout.metadata_replicas away) in
    omega (arith, both, none, roots_once layout dev bucket (a + 1) n))
    (cases_eq (first_block layout a / bucket_blocks) bucket)

module _ (sizes : List ℕ) (layout : Layout) (is : is_layout_of sizes layout ≡ true) where
  pub root_placed : (number dev : ℕ) → number < 9 → dev < layout.metadata_replicas → IsNodePlaced layout (root_place layout number dev)
  root_placed number dev low mirror =
      let has = has_places sizes layout is in
      let within : dev < length sizes = omega (arith, mirror, has.mirrors) in
      record {
        behind = rw (lt-ltb dev layout.metadata_replicas mirror) (omega arith);
        on_device = omega (arith, has.room dev within, has.least, low);
      }

  placed_from : (a n : ℕ) → a + n ≤ 9 → All (IsNodePlaced layout) (places_from layout a n)
  placed_from a zero few = All-nil (IsNodePlaced layout)
  placed_from a (suc n) few = All-append (IsNodePlaced layout) (fresh_root layout a).places (places_from layout (a + 1) n)
      (All-places (IsNodePlaced layout) layout a (λ dev mirror. root_placed a dev (omega (arith, few)) mirror)) (placed_from (a + 1) n (omega (arith, few)))

  -- The roots lie where nodes may, and no two share a bucket.
  pub roots_placed : AreNodesPlaced (node_places (fresh_found layout)) layout
  roots_placed = record { each = placed_from 0 9 (omega arith); apart = λ dev bucket. roots_once layout dev bucket 0 9 }
