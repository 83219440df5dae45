-- How many blocks of a bucket all extents use, where each extent's blocks lie in one bucket and no block is used twice.
use Rattle.std.proofs.Common.{◌≡◌, ◌≢◌, ℕ, zero, suc, ◌+◌, ◌*◌, ◌/◌, ◌%◌, ◌<◌, ◌≤◌, Bool, true, false, cond, List, [], ◌∷◌, ◌++◌, map, refl, sym, ap, ◌∙◌, subst, arith, ⊎_elim, All}
use Rattle.std.specs.Prelude.{◌==◌, ◌&&◌, count_by, flat_map}
use Rattle.std.specs.BTreeMap.{is_at}
use Rattle.std.specs.Cmp.{both_ways}
use Rattle.std.specs.Cmp.Derive.{both_true}
use Rattle.std.specs.List.{range_with_len}
use Rattle.std.proofs.lemmas.Bool.{cases_eq, eq-eqb, eqb-true, false≢true}
use Rattle.std.proofs.lemmas.List.Elements.{All-head, All-tail}
use Rattle.std.proofs.lemmas.List.Sums.{sum_by-append, sum_by-cons}
use Rattle.key_meaning.specs.Blocks.{blocks_of, place_at}
use Rattle.key_meaning.specs.Checks.{HasWellPlaced, IsWellPlaced, count_in_bucket, is_in_bucket, is_place, places_behind, places_of, pointers_of}
use Rattle.key_triggers.specs.Positions.{bucket_pos}
use Rattle.key_triggers.proofs.Counting.{same_pos, used, used_by}
use Rattle.key_triggers.proofs.Sums.{at_itself, total}
use Rattle.vol_types.specs.KeyMaps.{Entries}
use Rattle.vol_types.specs.Positions.{pos_cmp}
use Rattle.vol_types.specs.declared.layout.Layout.{Layout}
use Rattle.vol_types.specs.declared.pointers.Place.{Place}
use Rattle.vol_types.specs.declared.pointers.Pointer.{Pointer}
use Rattle.vol_types.specs.declared.positions.Pos.{Pos}
use Rattle.vol_types.specs.declared.values.Value.{Value}

-- one where a test passes
abbrev pub one_if : Bool → ℕ
one_if b = cond {A = ℕ} b 1 0

-- A count over places goes one by one,
pub count-cons : (test : Place → Bool) (place : Place) (places : List Place) → count_by test (place ∷ places) ≡ one_if (test place) + count_by test places
count-cons test place places = sum_by-cons (λ (p : Place). one_if (test p)) place places

-- or part by part.
pub count-append : (test : Place → Bool) (one other : List Place) → count_by test (one ++ other) ≡ count_by test one + count_by test other
count-append test one other = sum_by-append (λ (p : Place). one_if (test p)) one other

-- What all extents use is what each of them uses.
pub count-entries : (test : Place → Bool) (entries : Entries) → count_by test (flat_map (λ (entry : Pos × Value). places_of entry.1) entries) ≡ total (λ value. count_by test (places_of value)) entries
count-entries test [] = refl
count-entries test (entry ∷ entries) = count-append test (places_of entry.1) (flat_map (λ (e : Pos × Value). places_of e.1) entries) ∙ ap (λ n. count_by test (places_of entry.1) + n) (count-entries test entries)

-- the position of a number of a device
abbrev pub pos_of : ℕ → ℕ → Pos
pos_of dev number = record { inode = dev; offset = number; snapshot = 0 }

-- Two such positions are one where device and number are.
pub pos_tests : (d b dev number : ℕ) → is_at (pos_cmp (pos_of d b)) (pos_of dev number) ≡ ((d == dev) && (b == number))
pos_tests d b dev number = both_ways (is_at (pos_cmp (pos_of d b)) (pos_of dev number)) ((d == dev) && (b == number))
    (λ at. let same = same_pos (pos_of d b) (pos_of dev number) at in both_true (eq-eqb d dev (ap (λ (p : Pos). p.inode) same)) (eq-eqb b number (ap (λ (p : Pos). p.offset) same)))
    (λ tests. by (d == dev) (b == number) refl refl tests)
  where
    by : (s t : Bool) → (d == dev) ≡ s → (b == number) ≡ t → (s && t) ≡ true → is_at (pos_cmp (pos_of d b)) (pos_of dev number) ≡ true
    by true true one other tests =
        subst (λ n. is_at (pos_cmp (pos_of d b)) (pos_of n number) ≡ true) (eqb-true d dev one) (subst (λ n. is_at (pos_cmp (pos_of d b)) (pos_of d n) ≡ true) (eqb-true b number other) (at_itself (pos_of d b)))
    by true false one other tests = absurd (false≢true tests)
    by false true one other tests = absurd (false≢true tests)
    by false false one other tests = absurd (false≢true tests)

cond_zero : (b : Bool) → cond {A = ℕ} b 0 0 ≡ 0
cond_zero true = refl
cond_zero false = refl

cond_more : (b : Bool) (n : ℕ) → one_if b + cond {A = ℕ} b n 0 ≡ cond {A = ℕ} b (suc n) 0
cond_more true n = omega arith
cond_more false n = refl

same_bucket : (block first : ℕ) → block % 16 + first < 16 → (block + first) / 16 ≡ block / 16
same_bucket block first within = omega (arith, within)

module _ (dev bucket : ℕ) where
  -- So many blocks behind a pointer, from one on, lie in the bucket in which its first one does.
  in_bucket : (pointer : Pointer) (first blocks : ℕ) → pointer.place.block % 16 + first + blocks ≤ 16
      → count_by (is_in_bucket dev bucket) (map (λ index. place_at index pointer) (range_with_len first blocks)) ≡ cond {A = ℕ} ((pointer.place.dev == dev) && (pointer.place.block / 16 == bucket)) blocks 0
  in_bucket pointer first zero within = sym (cond_zero ((pointer.place.dev == dev) && (pointer.place.block / 16 == bucket)))
  in_bucket pointer first (suc blocks) within =
      count-cons (is_in_bucket dev bucket) (place_at first pointer) (map (λ index. place_at index pointer) (range_with_len (first + 1) blocks))
      ∙ ap (λ n. one_if ((pointer.place.dev == dev) && (n == bucket)) + count_by (is_in_bucket dev bucket) (map (λ index. place_at index pointer) (range_with_len (first + 1) blocks))) (same_bucket pointer.place.block first (omega (arith, within)))
      ∙ ap (λ n. one_if ((pointer.place.dev == dev) && (pointer.place.block / 16 == bucket)) + n) (in_bucket pointer (first + 1) blocks (omega (arith, within)))
      ∙ cond_more ((pointer.place.dev == dev) && (pointer.place.block / 16 == bucket)) blocks

  -- What a well placed value uses of the bucket.
  behind_pointers : (nodes : List Place) (layout : Layout) (blocks : ℕ) (pointers : List Pointer) → All (IsWellPlaced nodes layout blocks) pointers
      → count_by (is_in_bucket dev bucket) (flat_map (places_behind blocks) pointers) ≡ used_by (pos_of dev bucket) blocks pointers
  behind_pointers nodes layout blocks [] placed = refl
  behind_pointers nodes layout blocks (pointer ∷ pointers) placed =
      let one = (All-head (IsWellPlaced nodes layout blocks) pointer pointers placed).one_bucket in
      count-append (is_in_bucket dev bucket) (places_behind blocks pointer) (flat_map (places_behind blocks) pointers)
      ∙ ap (λ n. n + count_by (is_in_bucket dev bucket) (flat_map (places_behind blocks) pointers)) (in_bucket pointer 0 blocks (omega (arith, one)))
      ∙ ap (λ b. cond {A = ℕ} b blocks 0 + count_by (is_in_bucket dev bucket) (flat_map (places_behind blocks) pointers)) (sym (pos_tests pointer.place.dev (pointer.place.block / 16) dev bucket))
      ∙ ap (λ n. cond {A = ℕ} (is_at (pos_cmp (bucket_pos pointer.place)) (pos_of dev bucket)) blocks 0 + n) (behind_pointers nodes layout blocks pointers (All-tail (IsWellPlaced nodes layout blocks) pointer pointers placed))

  -- Well placed extents use so many blocks of the bucket.
  pub used-entries : (nodes : List Place) (layout : Layout) (entries : Entries) → All (HasWellPlaced nodes layout) entries
      → count_in_bucket (flat_map (λ (entry : Pos × Value). places_of entry.1) entries) dev bucket ≡ total (used (pos_of dev bucket)) entries
  used-entries nodes layout entries placed = count-entries (is_in_bucket dev bucket) entries ∙ each entries placed
    where
      each : (entries : Entries) → All (HasWellPlaced nodes layout) entries → total (λ value. count_by (is_in_bucket dev bucket) (places_of value)) entries ≡ total (used (pos_of dev bucket)) entries
      each [] placed = refl
      each (entry ∷ entries) placed =
          ap (λ n. n + total (λ value. count_by (is_in_bucket dev bucket) (places_of value)) entries) (behind_pointers nodes layout (blocks_of entry.1) (pointers_of entry.1) (All-head (HasWellPlaced nodes layout) entry entries placed))
          ∙ ap (λ n. used (pos_of dev bucket) entry.1 + n) (each entries (All-tail (HasWellPlaced nodes layout) entry entries placed))

  -- block number n of the bucket
  abbrev place_in : ℕ → Place
  place_in n = record { dev = dev; block = bucket * 16 + n }

  -- how often a place is one of the first n of the bucket
  abbrev hits : ℕ → Place → ℕ
  hits zero place = 0
  hits (suc n) place = one_if (is_place (place_in n) place) + hits n place

  -- how often places are one of the first n
  abbrev spread : ℕ → List Place → ℕ
  spread zero places = 0
  spread (suc n) places = count_by (is_place (place_in n)) places + spread n places

  spread-cons : (n : ℕ) (place : Place) (places : List Place) → spread n (place ∷ places) ≡ hits n place + spread n places
  spread-cons zero place places = refl
  spread-cons (suc n) place places = omega (arith, count-cons (is_place (place_in n)) place places, spread-cons n place places)

  hits_once : (n r : ℕ) (place : Place) → r < n → is_place (place_in r) place ≡ true → 1 ≤ hits n place
  hits_once zero r place lt is = absurd (omega (arith, lt))
  hits_once (suc n) r place lt is = ⊎_elim
      (λ (same : r ≡ n). let one : one_if (is_place (place_in n) place) ≡ 1 = ap one_if (ap (λ k. is_place (place_in k) place) (sym same) ∙ is) in omega (arith, one))
      (λ (apart : r ≢ n). let later = hits_once n r place (omega (arith, lt, apart)) is in omega (arith, later))
      (cases_eq r n)

  in_one : (place : Place) → one_if (is_in_bucket dev bucket place) ≤ hits 16 place
  in_one place = by (place.dev == dev) (place.block / 16 == bucket) refl refl
    where
      by : (s t : Bool) → (place.dev == dev) ≡ s → (place.block / 16 == bucket) ≡ t → one_if (s && t) ≤ hits 16 place
      by true true one other =
          let at : bucket * 16 + place.block % 16 ≡ place.block = omega (arith, eqb-true (place.block / 16) bucket other) in
          hits_once 16 (place.block % 16) place (omega arith)
          (both_true (eq-eqb dev place.dev (sym (eqb-true place.dev dev one))) (eq-eqb (bucket * 16 + place.block % 16) place.block at))
      by true false one other = omega arith
      by false true one other = omega arith
      by false false one other = omega arith

  in_spread : (places : List Place) → count_in_bucket places dev bucket ≤ spread 16 places
  in_spread [] = omega arith
  in_spread (place ∷ places) = omega (arith, count-cons (is_in_bucket dev bucket) place places, spread-cons 16 place places, in_one place, in_spread places)

  spread_few : (n : ℕ) (places : List Place) → ((place : Place) → count_by (is_place place) places ≤ 1) → spread n places ≤ n
  spread_few zero places once = omega arith
  spread_few (suc n) places once = omega (arith, once (place_in n), spread_few n places once)

  -- Where no place is used twice, a bucket has no more than its blocks.
  pub bucket_full : (places : List Place) → ((place : Place) → count_by (is_place place) places ≤ 1) → count_in_bucket places dev bucket ≤ 16
  bucket_full places once = omega (arith, in_spread places, spread_few 16 places once)
