-- What holds of joined lists, and each place counts itself in its bucket.
use Rattle.std.proofs.Common.{◌≡◌, ◌≤◌, ◌<◌, ◌+◌, ◌/◌, ℕ, Bool, true, cond, List, [], ◌∷◌, ◌++◌, length, map, refl, ap, subst, ◌∙◌, arith}
use Rattle.std.proofs.lemmas.Bool.{eq-eqb}
use Rattle.std.proofs.lemmas.List.{get_or-append-add, get_or_append_left, length-append}
use Rattle.std.proofs.lemmas.List.Elements.{All-cons, All-nil}
use Rattle.std.proofs.lemmas.List.FromFn.{get_or-map-range_with_len, length-map-range_with_len}
use Rattle.std.proofs.lemmas.List.Sums.{sum_by-cons}
use Rattle.std.specs.List.{flat_map, range_with_len}
use Rattle.std.specs.Prelude.{◌==◌, ◌&&◌, ◌≢◌, All}
use Rattle.key_meaning.specs.Checks.{count_in_bucket, is_in_bucket}
use Rattle.vol_types.specs.Limits.{bucket_blocks}
use Rattle.vol_types.specs.declared.pointers.Place.{Place}

-- Of two lists that are joined each has what all have.
all_left : {X : Type 0} (P : X → Type 0) (xs ys : List X) → All P (xs ++ ys) → All P xs
all_left P xs ys all k d lt = subst P (get_or_append_left xs ys d k lt) (all k d (let whole : length (xs ++ ys) ≡ length xs + length ys = length-append xs ys in omega (arith, lt, whole)))

all_right : {X : Type 0} (P : X → Type 0) (xs ys : List X) → All P (xs ++ ys) → All P ys
all_right P xs ys all k d lt = subst P (get_or-append-add xs ys k d) (all (length xs + k) d (let whole : length (xs ++ ys) ≡ length xs + length ys = length-append xs ys in omega (arith, lt, whole)))

-- What holds of all that is joined holds of all that comes of each.
pub each_joined : {X Y : Type 0} (P : Y → Type 0) (g : X → List Y) (xs : List X) → All P (flat_map g xs) → All (λ (x : X). All P (g x)) xs
each_joined {X} P g [] all = All-nil (λ (x : X). All P (g x))
each_joined {X} P g (x ∷ xs) all = All-cons (λ (y : X). All P (g y)) x xs (all_left P (g x) (flat_map g xs) all) (each_joined P g xs (all_right P (g x) (flat_map g xs) all))

-- What holds of all that is made of some numbers holds of what is made of each.
pub at_index : {X : Type 0} (P : X → Type 0) (f : ℕ → X) (count index : ℕ) → All P (map f (range_with_len 0 count)) → index < count → P (f index)
at_index P f count index all lt =
    let long : length (map f (range_with_len 0 count)) ≡ count = length-map-range_with_len f 0 count in
    subst P (get_or-map-range_with_len f 0 count index index (f index) lt (omega arith)) (all index (f index) (omega (arith, lt, long)))

-- Each place is counted in its bucket.
counted_among : (places whole : List Place) → ((dev bucket : ℕ) → count_in_bucket places dev bucket ≤ count_in_bucket whole dev bucket) → All (λ (place : Place). count_in_bucket whole place.dev (place.block / bucket_blocks) ≢ 0) places
counted_among [] whole fewer = All-nil (λ (place : Place). count_in_bucket whole place.dev (place.block / bucket_blocks) ≢ 0)
counted_among (place ∷ places) whole fewer =
    All-cons (λ (place : Place). count_in_bucket whole place.dev (place.block / bucket_blocks) ≢ 0) place places here
    (counted_among places whole
    (λ dev bucket.
    let less = fewer dev bucket in
    let more = sum_by-cons (λ (other : Place). cond {A = ℕ} (is_in_bucket dev bucket other) 1 0) place places in
    omega (arith, less, more)))
  where
    itself : is_in_bucket place.dev (place.block / bucket_blocks) place ≡ true
    itself = ap (λ (b : Bool). b && place.block / bucket_blocks == place.block / bucket_blocks) (eq-eqb place.dev place.dev refl) ∙ eq-eqb (place.block / bucket_blocks) (place.block / bucket_blocks) refl

    here : count_in_bucket whole place.dev (place.block / bucket_blocks) ≢ 0
    here none =
        let less = fewer place.dev (place.block / bucket_blocks) in
        let on : cond {A = ℕ} (is_in_bucket place.dev (place.block / bucket_blocks) place) 1 0 ≡ 1 = ap (λ (b : Bool). cond {A = ℕ} b 1 0) itself in
        let more = sum_by-cons (λ (other : Place). cond {A = ℕ} (is_in_bucket place.dev (place.block / bucket_blocks) other) 1 0) place places in
        omega (arith, none, less, on, more)

pub counted_itself : (places : List Place) → All (λ (place : Place). count_in_bucket places place.dev (place.block / bucket_blocks) ≢ 0) places
counted_itself places = counted_among places places (λ dev bucket. omega arith)
