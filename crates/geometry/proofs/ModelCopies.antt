-- The first copy whose payload has the form.
use Rattle.std.proofs.Common.{◌≡◌, ℕ, zero, suc, ◌+◌, ◌<◌, ◌≤◌, true, false, cond, List, [], ◌∷◌, length, drop, get_or, Option, Some, None, ap, ◌∙◌, sym, arith}
use Rattle.std.proofs.lemmas.List.{drop_all}
use Rattle.std.specs.Prelude.{find}
use Rattle.geometry.specs.declared.copies.SuperCopy.{SuperCopy}
use Rattle.geometry.specs.Superblocks.{has_form}

find_step : (copies : List SuperCopy) (place : ℕ) (copy : SuperCopy) → place < length copies → get_or copies place copy ≡ copy
    → find (λ c. has_form c.payload) (drop place copies) ≡ cond (has_form copy.payload) (Some copy) (find (λ c. has_form c.payload) (drop (suc place) copies))
find_step [] place copy within at = absurd (omega (arith, within))
find_step (head ∷ copies) zero copy within at = ap (λ (c : SuperCopy). cond (has_form c.payload) (Some c) (find (λ c. has_form c.payload) copies)) at
find_step (head ∷ copies) (suc place) copy within at = find_step copies place copy (omega (arith, within)) at

module _ (copies : List SuperCopy) (place : ℕ) (copy : SuperCopy) (within : place < length copies) (at : copy ≡ get_or copies place copy) where
  -- A copy of the form is found.
  pub found_here : has_form copy.payload ≡ true → find (λ c. has_form c.payload) (drop place copies) ≡ Some copy
  found_here is = find_step copies place copy within (sym at) ∙ ap (λ b. cond {A = Option SuperCopy} b (Some copy) (find (λ c. has_form c.payload) (drop (suc place) copies))) is

  -- Any other is passed over.
  pub found_later : has_form copy.payload ≡ false → find (λ c. has_form c.payload) (drop (place + 1) copies) ≡ find (λ c. has_form c.payload) (drop place copies)
  found_later other =
      let next : place + 1 ≡ suc place = omega arith in
      ap (λ n. find (λ (c : SuperCopy). has_form c.payload) (drop n copies)) next
      ∙ sym (find_step copies place copy within (sym at) ∙ ap (λ b. cond {A = Option SuperCopy} b (Some copy) (find (λ c. has_form c.payload) (drop (suc place) copies))) other)

-- After the last copy none is found.
pub found_nowhere : (copies : List SuperCopy) (place : ℕ) → length copies ≤ place → find (λ c. has_form c.payload) (drop place copies) ≡ None
found_nowhere copies place all = ap (find (λ c. has_form c.payload)) (drop_all place copies all)
