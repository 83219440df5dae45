-- A loop that changes each member of a list by its place: what it has made so far, its step and its end.
use Rattle.std.proofs.Common.{◌≡◌, ℕ, zero, suc, ◌+◌, ◌<◌, ◌≤◌, ◌⊎◌, ⊎_elim, min, List, [], ◌∷◌, length, get_or, set, map, refl, sym, ap, ◌∙◌, arith, add-one, length-set}
use Rattle.bucket_pool.specs.Places.{each_from, each_place, partly, partly_from}

pub partly_from_all : {X : Type 0} (f : ℕ → X → X) (at count : ℕ) (xs : List X) → length xs ≤ count → partly_from f at count xs ≡ each_from f at xs
partly_from_all f at zero [] le = refl
partly_from_all f at zero (x ∷ xs) le = absurd (omega (arith, le))
partly_from_all f at (suc count) [] le = refl
partly_from_all f at (suc count) (x ∷ xs) le = ap (λ rest. f at x ∷ rest) (partly_from_all f (suc at) count xs (let less : length xs ≤ count = omega (arith, le) in less))

pub partly_from_get : {X : Type 0} (f : ℕ → X → X) (at count : ℕ) (xs : List X) (d : X) → get_or (partly_from f at count xs) count d ≡ get_or xs count d
partly_from_get f at zero xs d = refl
partly_from_get f at (suc count) [] d = refl
partly_from_get f at (suc count) (x ∷ xs) d = partly_from_get f (suc at) count xs d

pub partly_from_set : {X : Type 0} (f : ℕ → X → X) (at count place : ℕ) (xs : List X) (d : X) → place ≡ at + count → count < length xs
    → set (partly_from f at count xs) count (f place (get_or xs count d)) ≡ partly_from f at (suc count) xs
partly_from_set f at count place [] d is lt = absurd (omega (arith, lt))
partly_from_set f at zero place (x ∷ xs) d is lt = ap (λ (n : ℕ). f n x ∷ xs) (let same : place ≡ at = omega (arith, is) in same)
partly_from_set f at (suc count) place (x ∷ xs) d is lt =
    ap (λ rest. f at x ∷ rest) (partly_from_set f (suc at) count place xs d (let same : place ≡ suc at + count = omega (arith, is) in same) (let less : count < length xs = omega (arith, lt) in less))

pub length-partly_from : {X : Type 0} (f : ℕ → X → X) (at count : ℕ) (xs : List X) → length (partly_from f at count xs) ≡ length xs
length-partly_from f at zero xs = refl
length-partly_from f at (suc count) [] = refl
length-partly_from f at (suc count) (x ∷ xs) = ap suc (length-partly_from f (suc at) count xs)

pub partly_all : {X : Type 0} (f : ℕ → X → X) (count : ℕ) (xs : List X) → length xs ≤ count → partly f count xs ≡ each_place f xs
partly_all f count xs le = partly_from_all f 0 count xs le

pub partly_more : {X : Type 0} (f : ℕ → X → X) (at : ℕ) (xs now : List X) (y d : X) → at < length xs → now ≡ partly f at xs → y ≡ f at (get_or now at d) → set now at y ≡ partly f (at + 1) xs
partly_more f at xs now y d lt is made =
    ap (λ z. set now at z) (made ∙ ap (λ list. f at (get_or list at d)) is ∙ ap (f at) (partly_from_get f 0 at xs d))
    ∙ ap (λ list. set list at (f at (get_or xs at d))) is
    ∙ partly_from_set f 0 at at xs d (let same : at ≡ 0 + at = omega arith in same) lt
    ∙ ap (λ n. partly f n xs) (sym (add-one at))

each_from_map : {X Y : Type 0} (f : X → Y) (at : ℕ) (xs : List X) → each_from (λ _. f) at xs ≡ map f xs
each_from_map f at [] = refl
each_from_map f at (x ∷ xs) = ap (λ rest. f x ∷ rest) (each_from_map f (suc at) xs)

pub partly_map : {X : Type 0} (f : X → X) (count : ℕ) (xs : List X) → length xs ≤ count → partly (λ _. f) count xs ≡ map f xs
partly_map f count xs le = partly_all (λ _. f) count xs le ∙ each_from_map f 0 xs

pub partly_put : {X : Type 0} (f : ℕ → X → X) (at : ℕ) (xs now after : List X) (x y : X) → at < length xs → now ≡ partly f at xs → x ≡ get_or now at x → y ≡ f at x → after ≡ set now at y → after ≡ partly f (at + 1) xs
partly_put f at xs now after x y lt is read made put = put ∙ partly_more f at xs now y x lt is (made ∙ ap (f at) read)

pub same_length : {X : Type 0} (at n : ℕ) (now after : List X) (y : X) → length now ≡ n → after ≡ set now at y → length after ≡ n
same_length at n now after y size put = ap length put ∙ length-set now at y ∙ size

-- what is changed to the end and beyond is the whole
pub partly_past : {X : Type 0} (f : ℕ → X → X) (count more : ℕ) (xs : List X) → length xs ≤ count → length xs ≤ more → partly f count xs ≡ partly f more xs
partly_past f count more xs le over = partly_all f count xs le ∙ sym (partly_all f more xs over)

-- members that stay as they are may be passed over
skip_from : {X : Type 0} (f : ℕ → X → X) (first at end : ℕ) (xs : List X) → at ≤ end → ((k : ℕ) (d : X) → at ≤ k → k < end → k < length xs → f (first + k) (get_or xs k d) ≡ get_or xs k d) → partly_from f first at xs ≡ partly_from f first end xs
skip_from f first zero zero [] le stays = refl
skip_from f first zero (suc end) [] le stays = refl
skip_from f first (suc at) zero xs le stays = absurd (omega (arith, le))
skip_from f first (suc at) (suc end) [] le stays = refl
skip_from f first zero zero (x ∷ xs) le stays = refl
skip_from f first zero (suc end) (x ∷ xs) le stays =
    ap (λ y. y ∷ xs) (sym (ap (λ n. f n x) (let same : first ≡ first + 0 = omega arith in same) ∙ stays 0 x (omega arith) (omega arith) (omega arith)))
    ∙ ap (λ rest. f first x ∷ rest) (skip_from f (suc first) zero end xs (omega arith) (λ k d from to within.
    ap (λ n. f n (get_or xs k d)) (let same : suc first + k ≡ first + suc k = omega arith in same) ∙ stays (suc k) d (omega arith) (omega (arith, to)) (omega (arith, within))))
skip_from f first (suc at) (suc end) (x ∷ xs) le stays =
    ap (λ rest. f first x ∷ rest) (skip_from f (suc first) at end xs (omega (arith, le)) (λ k d from to within.
    ap (λ n. f n (get_or xs k d)) (let same : suc first + k ≡ first + suc k = omega arith in same) ∙ stays (suc k) d (omega (arith, from)) (omega (arith, to)) (omega (arith, within))))

pub partly_skip : {X : Type 0} (f : ℕ → X → X) (at end : ℕ) (xs : List X) → at ≤ end → ((k : ℕ) (d : X) → at ≤ k → k < end → k < length xs → f k (get_or xs k d) ≡ get_or xs k d) → partly f at xs ≡ partly f end xs
partly_skip f at end xs le stays = skip_from f 0 at end xs le (λ k d from to within. ap (λ n. f n (get_or xs k d)) (let same : 0 + k ≡ k = omega arith in same) ∙ stays k d from to within)

-- the members from a place on are still as they were
pub partly_later : {X : Type 0} (f : ℕ → X → X) (first count k : ℕ) (xs : List X) (d : X) → count ≤ k → get_or (partly_from f first count xs) k d ≡ get_or xs k d
partly_later f first zero k xs d le = refl
partly_later f first (suc count) k [] d le = refl
partly_later f first (suc count) zero (x ∷ xs) d le = absurd (omega (arith, le))
partly_later f first (suc count) (suc k) (x ∷ xs) d le = partly_later f (suc first) count k xs d (omega (arith, le))

le_or_le : (m n : ℕ) → (m ≤ n) ⊎ (n ≤ m)
le_or_le m n = grind arith

-- what is changed up to the end of a group, or of the list if that comes first
pub partly_to_end : {X : Type 0} (f : ℕ → X → X) (at from end size stop : ℕ) (xs : List X) → size ≡ length xs → stop ≡ min size end → stop ≤ at → from ≤ at → from ≤ end → (from ≤ stop → at ≤ stop) → partly f at xs ≡ partly f end xs
partly_to_end f at from end size stop xs count least past above low most = ⊎_elim
    (λ le. ap (λ n. partly f n xs) (let same : stop ≡ end = omega (arith, least, le) in let up = most (omega (arith, same, low)) in let both : at ≡ end = omega (arith, same, past, up) in both))
    (λ le. partly_past f at end xs (omega (arith, least, le, past, count)) (omega (arith, le, count)))
    (le_or_le end size)
