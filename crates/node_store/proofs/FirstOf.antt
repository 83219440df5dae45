-- The first result that a function gives on the members of a list, as a loop over the list finds it.
use Rattle.std.proofs.Common.{◌≡◌, ℕ, zero, suc, ◌<◌, ◌≤◌, List, [], ◌∷◌, length, drop, get_or, Option, Some, None, ap, sym, ◌∙◌, arith}
use Rattle.std.specs.Option.{option_or}
use Rattle.node_store.specs.StoredSets.{first_of}

module _ {A B : Type 0} (give : A → Option B) where
  or_some : (o rest : Option B) (y : B) → o ≡ Some y → option_or o rest ≡ Some y
  or_some o rest y is = ap (λ p. option_or p rest) is

  or_none : (o rest : Option B) → o ≡ None → option_or o rest ≡ rest
  or_none o rest is = ap (λ p. option_or p rest) is

  -- The member at hand gives a result.
  pub first_here : (xs : List A) (i : ℕ) (x : A) (y : B) (whole : Option B) → i < length xs → get_or xs i x ≡ x → first_of give (drop i xs) ≡ whole → give x ≡ Some y → whole ≡ Some y
  first_here [] i x y whole within at rest is = absurd (omega (arith, within))
  first_here (z ∷ xs) zero x y whole within at rest is = sym rest ∙ or_some (give z) (first_of give xs) y (ap give at ∙ is)
  first_here (z ∷ xs) (suc i) x y whole within at rest is = first_here xs i x y whole (omega (arith, within)) at rest is

  -- It gives none, and the next one is at hand.
  pub first_next : (xs : List A) (i : ℕ) (x : A) (whole : Option B) → i < length xs → get_or xs i x ≡ x → first_of give (drop i xs) ≡ whole → give x ≡ None → first_of give (drop (suc i) xs) ≡ whole
  first_next [] i x whole within at rest is = absurd (omega (arith, within))
  first_next (z ∷ xs) zero x whole within at rest is = sym (or_none (give z) (first_of give xs) (ap give at ∙ is)) ∙ rest
  first_next (z ∷ xs) (suc i) x whole within at rest is = first_next xs i x whole (omega (arith, within)) at rest is

  -- There are no more.
  pub first_none : (xs : List A) (i : ℕ) (whole : Option B) → length xs ≤ i → first_of give (drop i xs) ≡ whole → whole ≡ None
  first_none [] zero whole past rest = sym rest
  first_none [] (suc i) whole past rest = sym rest
  first_none (z ∷ xs) zero whole past rest = absurd (omega (arith, past))
  first_none (z ∷ xs) (suc i) whole past rest = first_none xs i whole (omega (arith, past)) rest
