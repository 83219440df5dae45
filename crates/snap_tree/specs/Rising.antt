-- What isn't among rising numbers.
use Rattle.std.proofs.Common.{◌≡◌, ℕ, ◌<◌, false, List, [], ◌∷◌, refl, sym, ap, ◌∙◌, arith}
use Rattle.std.specs.Prelude.{◌||◌, nat_eq}
use Rattle.std.specs.List.{AllByRecursion, list_any}
use Rattle.std.specs.List.Sorted.{IsStrictlySortedBy}
use Rattle.std.specs.Ordering.{nat_cmp}
use Rattle.std.specs.declared.cmp.Ordering.TheVariants.{Less}
use Rattle.std.proofs.lemmas.Bool.{ne_eqb}
use Rattle.std.proofs.lemmas.Cmp.{ranked}
use Rattle.std.proofs.lemmas.Map.Keys.{sorted_head}

-- nothing is among numbers above it
pub none_among : (a x : ℕ) (ids : List ℕ) → a < x → AllByRecursion (λ y. nat_cmp x y ≡ Less) ids → list_any (nat_eq a) ids ≡ false
none_among a x [] lt all = refl
none_among a x (y ∷ ids) lt all = ap (λ b. b || list_any (nat_eq a) ids) (ne_eqb a y (omega (arith, lt, ranked x y Less (sym all.0)))) ∙ none_among a x ids lt all.1

-- nothing is among rising numbers of which the first is above it
pub none_above : (a x : ℕ) (ids : List ℕ) → IsStrictlySortedBy nat_cmp (x ∷ ids) → a < x → list_any (nat_eq a) (x ∷ ids) ≡ false
none_above a x ids rises lt = ap (λ b. b || list_any (nat_eq a) ids) (ne_eqb a x (omega (arith, lt))) ∙ none_among a x ids lt (sorted_head nat_cmp x ids rises)
