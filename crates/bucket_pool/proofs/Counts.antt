-- Counts of what passes a test: whether anything does, and how many are left to be counted.
use Rattle.std.proofs.Common.{◌≡◌, ℕ, zero, suc, ◌+◌, ◌<◌, ◌≤◌, Bool, true, false, cond, ◌||◌, nat_lt, IsTrue, List, [], ◌∷◌, length, drop, get_or, refl, sym, ap, ◌∙◌, arith}
use Rattle.std.specs.List.{list_any, count_by}
use Rattle.std.proofs.lemmas.Bool.Decides.{nat_tests}
use Rattle.std.proofs.lemmas.List.Sums.{sum_by-cons}
use Rattle.bucket_pool.specs.Places.{each_from}

any_step : (b any : Bool) (rest : ℕ) → any ≡ nat_lt 0 rest → (b || any) ≡ nat_lt 0 (cond b 1 0 + rest)
any_step true any rest is = grind (arith, nat_tests)
any_step false any rest is = is ∙ ap (nat_lt 0) (let same : rest ≡ 0 + rest = omega arith in same)

pub any_counted : {X : Type 0} (p : X → Bool) (xs : List X) → list_any p xs ≡ nat_lt 0 (count_by p xs)
any_counted p [] = refl
any_counted p (x ∷ xs) = any_step (p x) (list_any p xs) (count_by p xs) (any_counted p xs) ∙ ap (nat_lt 0) (sym (sum_by-cons (λ y. cond (p y) 1 0) x xs))

room_by : (any : Bool) (held free : ℕ) → any ≡ nat_lt 0 free → nat_lt held free ≡ true → any ≡ true
room_by any held free is lt = is ∙ positive held free lt
  where
    positive : (m n : ℕ) → nat_lt m n ≡ true → nat_lt 0 n ≡ true
    positive m n less = grind (arith, nat_tests)

-- a device with more free buckets than are held back has a free one, whatever it has in an open bucket
pub room_there : {X : Type 0} (p : X → Bool) (xs : List X) (roomy : Bool) (held : ℕ) → nat_lt held (count_by p xs) ≡ true → IsTrue (roomy || list_any p xs)
room_there p xs true held is = refl
room_there p xs false held is = room_by (list_any p xs) held (count_by p xs) (any_counted p xs) is

pub count_left : {X : Type 0} (f : ℕ → X → Bool) (at : ℕ) (xs : List X) (d : X) → at < length xs
    → count_by (λ b. b) (each_from f at (drop at xs)) ≡ cond (f at (get_or xs at d)) 1 0 + count_by (λ b. b) (each_from f (at + 1) (drop (at + 1) xs))
count_left {X = X} f at xs d lt = go at xs lt ∙ ap (λ n. cond (f at (get_or xs at d)) 1 0 + count_by (λ b. b) (each_from f n (drop n xs))) (let same : suc at ≡ at + 1 = omega arith in same)
  where
    go : (n : ℕ) (ys : List X) → n < length ys → count_by (λ b. b) (each_from f at (drop n ys)) ≡ cond (f at (get_or ys n d)) 1 0 + count_by (λ b. b) (each_from f (suc at) (drop (suc n) ys))
    go n [] less = absurd (omega (arith, less))
    go zero (y ∷ ys) less = sum_by-cons (λ b. cond b 1 0) (f at y) (each_from f (suc at) ys)
    go (suc n) (y ∷ ys) less = go n ys (omega (arith, less))

pub count_none : {X : Type 0} (f : ℕ → X → Bool) (at : ℕ) (xs : List X) → length xs ≤ at → count_by (λ b. b) (each_from f at (drop at xs)) ≡ 0
count_none {X = X} f at xs le = ap (λ ys. count_by (λ b. b) (each_from f at ys)) (gone at xs le)
  where
    gone : (n : ℕ) (ys : List X) → length ys ≤ n → drop n ys ≡ []
    gone zero [] less = refl
    gone (suc n) [] less = refl
    gone zero (y ∷ ys) less = absurd (omega (arith, less))
    gone (suc n) (y ∷ ys) less = gone n ys (omega (arith, less))

pub count_more : {X : Type 0} (f : ℕ → X → Bool) (count one at : ℕ) (xs : List X) (d : X) (test : Bool) (whole : ℕ) → at < length xs → count + count_by (λ b. b) (each_from f at (drop at xs)) ≡ whole
    → test ≡ f at (get_or xs at d) → one ≡ cond test 1 0 → (count + one) + count_by (λ b. b) (each_from f (at + 1) (drop (at + 1) xs)) ≡ whole
count_more f count one at xs d test whole lt so_far is once =
    let next = count_left f at xs d lt in
    let same : one ≡ cond (f at (get_or xs at d)) 1 0 = once ∙ ap (λ b. cond {A = ℕ} b 1 0) is in
    sum_up count one (cond (f at (get_or xs at d)) 1 0) (count_by (λ b. b) (each_from f at (drop at xs))) (count_by (λ b. b) (each_from f (at + 1) (drop (at + 1) xs))) whole next same so_far
  where
    sum_up : (n o p before after all : ℕ) → before ≡ p + after → o ≡ p → n + before ≡ all → (n + o) + after ≡ all
    sum_up n o p before after all step same is = omega arith

pub one_at_most : (count one at : ℕ) (test : Bool) → count ≤ at → one ≡ cond test 1 0 → count + one ≤ at + 1
one_at_most count one at true le is = omega arith
one_at_most count one at false le is = omega arith
