-- Loops over a list, seen by what its rest still gives.
use Rattle.std.proofs.Common.{◌≡◌, ℕ, zero, suc, ◌+◌, ◌<◌, ◌≤◌, List, [], ◌∷◌, ◌++◌, length, drop, get_or, refl, ap, sym, ◌∙◌, append_assoc, arith}

drop_suc : {X : Type 0} (xs : List X) (i : ℕ) (x : X) → i < length xs → x ≡ get_or xs i x → drop i xs ≡ x ∷ drop (suc i) xs
drop_suc [] i x lt is = absurd (omega (arith, lt))
drop_suc (y ∷ ys) zero x lt is = λ j. sym is j ∷ ys
drop_suc (y ∷ ys) (suc i) x lt is = drop_suc ys i x (omega (arith, lt)) is

-- The rest of a list begins with the member at its place.
pub drop_more : {X : Type 0} (xs : List X) (i : ℕ) (x : X) → i < length xs → x ≡ get_or xs i x → drop i xs ≡ x ∷ drop (i + 1) xs
drop_more xs i x lt is = drop_suc xs i x lt is ∙ ap (λ j. x ∷ drop j xs) (let e : suc i ≡ i + 1 = omega arith in e)

-- Behind its end a list has no rest.
pub drop_none : {X : Type 0} (xs : List X) (i : ℕ) → length xs ≤ i → drop i xs ≡ []
drop_none [] zero le = refl
drop_none [] (suc i) le = refl
drop_none (y ∷ ys) zero le = absurd (omega (arith, le))
drop_none (y ∷ ys) (suc i) le = drop_none ys i (omega (arith, le))

pub append_none : {X : Type 0} (xs : List X) → xs ++ [] ≡ xs
append_none [] = refl
append_none (x ∷ xs) = ap (λ ys. x ∷ ys) (append_none xs)

-- A list that is made of another, part by part.
module _ {X Y : Type 0} (whole : List X → List Y) (part : X → List Y) (cons : (x : X) (xs : List X) → whole (x ∷ xs) ≡ part x ++ whole xs) where
  pub part_more : (xs : List X) (i : ℕ) (x : X) (done more all : List Y) → i < length xs → x ≡ get_or xs i x → more ≡ done ++ part x → done ++ whole (drop i xs) ≡ all → more ++ whole (drop (i + 1) xs) ≡ all
  part_more xs i x done more all lt is pushed so_far =
      ap (λ ys. ys ++ whole (drop (i + 1) xs)) pushed
      ∙ append_assoc done (part x) (whole (drop (i + 1) xs))
      ∙ ap (λ ys. done ++ ys) (sym (cons x (drop (i + 1) xs)))
      ∙ ap (λ rest. done ++ whole rest) (sym (drop_more xs i x lt is))
      ∙ so_far

  pub part_end : (xs : List X) (i : ℕ) (done all : List Y) → length xs ≤ i → whole [] ≡ [] → done ++ whole (drop i xs) ≡ all → done ≡ all
  part_end xs i done all le none so_far = sym (append_none done) ∙ ap (λ ys. done ++ ys) (sym (ap whole (drop_none xs i le) ∙ none)) ∙ so_far
