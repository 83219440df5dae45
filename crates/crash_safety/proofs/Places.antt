-- Where members stand in a part of a list, or in a list with one more behind.
use Rattle.std.proofs.Common.{◌≡◌, ℕ, zero, suc, ◌+◌, List, [], ◌∷◌, ◌++◌, length, take, drop, Some, ◌⊎◌, inl, inr, ⊎_elim, refl, ap, ◌∙◌, arith}
use Rattle.std.specs.Prelude.{slice_get}

-- A place of a list without its first members is a later one of the whole.
pub slice_get-drop : {X : Type 0} (n : ℕ) (xs : List X) (k : ℕ) → slice_get (drop n xs) k ≡ slice_get xs (n + k)
slice_get-drop zero xs k = let same : k ≡ 0 + k = omega arith in ap (slice_get xs) same
slice_get-drop (suc n) [] k = refl
slice_get-drop (suc n) (x ∷ xs) k = let same : suc (n + k) ≡ suc n + k = omega arith in slice_get-drop n xs k ∙ ap (slice_get (x ∷ xs)) same

-- What stands among the first members stands there in the whole.
pub slice_get-take : {X : Type 0} (n : ℕ) (xs : List X) (k : ℕ) (x : X) → slice_get (take n xs) k ≡ Some x → slice_get xs k ≡ Some x
slice_get-take zero xs k x is = absurd cc
slice_get-take (suc n) [] k x is = is
slice_get-take (suc n) (y ∷ xs) zero x is = is
slice_get-take (suc n) (y ∷ xs) (suc k) x is = slice_get-take n xs k x is

-- What stands in a list with one more member behind stands in the list, or is that member.
pub slice_get-pushed : {X : Type 0} (xs : List X) (y : X) (k : ℕ) (x : X) → slice_get (xs ++ y ∷ []) k ≡ Some x → (slice_get xs k ≡ Some x) ⊎ ((k ≡ length xs) × (y ≡ x))
slice_get-pushed [] y zero x is = inr (refl, cc)
slice_get-pushed [] y (suc k) x is = absurd cc
slice_get-pushed (z ∷ xs) y zero x is = inl is
slice_get-pushed (z ∷ xs) y (suc k) x is = ⊎_elim
    (λ (here : slice_get xs k ≡ Some x). inl here)
    (λ (last : (k ≡ length xs) × (y ≡ x)). inr (ap suc last.0, last.1))
    (slice_get-pushed xs y k x is)
