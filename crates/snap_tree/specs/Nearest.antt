-- The nearest of some ids above an id: the first of its chain that is one of them, and the first of them that is an ancestor.
use Rattle.std.proofs.Common.{◌≡◌, ℕ, ◌<◌, ◌≤◌, Bool, false, cond, Option, Some, None, List, [], ◌∷◌, refl, sym, ap, ◌∙◌, arith, ⊎_elim}
use Rattle.std.specs.Prelude.{◌||◌, nat_eq, if◌then◌else◌}
use Rattle.std.specs.List.{AllByRecursion, list_any}
use Rattle.std.specs.List.Sorted.{IsStrictlySortedBy}
use Rattle.std.specs.Ordering.{nat_cmp}
use Rattle.std.specs.declared.cmp.Ordering.TheVariants.{Less}
use Rattle.std.proofs.lemmas.Bool.{eq-eqb, ne_eqb, cases_lt, cases_eq}
use Rattle.std.proofs.lemmas.Cmp.{ranked}
use Rattle.std.proofs.lemmas.Map.Keys.{sorted_head, sorted_tail}
use Rattle.vol_types.specs.Maps.{IsMap}
use Rattle.snap_tree.specs.Snaps.{Snaps, chain_of, is_ancestor_of}
use Rattle.snap_tree.specs.ChainLaws.{chain_of-rises}
use Rattle.snap_tree.specs.Rising.{none_above}

-- the first number of a list that passes a test
abbrev pub first_that : (ℕ → Bool) → List ℕ → Option ℕ
first_that test [] = None
first_that test (x ∷ xs) = if test x then Some x else first_that test xs

-- whether a number is one of a list
abbrev pub is_among : List ℕ → ℕ → Bool
is_among ids id = list_any (nat_eq id) ids

-- where nothing passes, none is the first
none_passes : (ids : List ℕ) → first_that (λ a. false) ids ≡ None
none_passes [] = refl
none_passes (x ∷ ids) = none_passes ids

-- a number below all of a list can be left out of those that they are looked for among
fewer : (a x : ℕ) (ids xs : List ℕ) → a < x → AllByRecursion (λ y. nat_cmp x y ≡ Less) xs → first_that (is_among (a ∷ ids)) xs ≡ first_that (is_among ids) xs
fewer a x ids [] lt all = refl
fewer a x ids (y ∷ xs) lt all =
    ap (λ b. cond (b || is_among ids y) (Some y) (first_that (is_among (a ∷ ids)) xs)) (ne_eqb y a (omega (arith, lt, ranked x y Less (sym all.0))))
    ∙ ap (λ o. cond (is_among ids y) (Some y) o) (fewer a x ids xs lt all.1)

-- and so where the first is above it
fewer_above : (a x : ℕ) (ids xs : List ℕ) → a < x → IsStrictlySortedBy nat_cmp (x ∷ xs) → first_that (is_among (a ∷ ids)) (x ∷ xs) ≡ first_that (is_among ids) (x ∷ xs)
fewer_above a x ids xs lt rises =
    ap (λ b. cond (b || is_among ids x) (Some x) (first_that (is_among (a ∷ ids)) xs)) (ne_eqb x a (omega (arith, lt)))
    ∙ ap (λ o. cond (is_among ids x) (Some x) o) (fewer a x ids xs lt (sorted_head nat_cmp x xs rises))

-- a first number that isn't among others is passed over
passed : (a : ℕ) (ids xs : List ℕ) → is_among xs a ≡ false → first_that (is_among xs) (a ∷ ids) ≡ first_that (is_among xs) ids
passed a ids xs none = ap (λ b. cond b (Some a) (first_that (is_among xs) ids)) none

-- a first number that both lists have is found
found : (a b : ℕ) (ids xs : List ℕ) → a ≡ b → first_that (is_among (b ∷ xs)) (a ∷ ids) ≡ Some a
found a b ids xs same = ap (λ t. cond (t || is_among xs a) (Some a) (first_that (is_among (b ∷ xs)) ids)) (eq-eqb a b same)

-- The first of two lists of rising numbers, each with those of the other, is the same.
abbrev pub Agree : List ℕ → List ℕ → Type 0
Agree ids xs = first_that (is_among xs) ids ≡ first_that (is_among ids) xs

-- two lists agree if they do without the smaller one of their first numbers
one_more : (a b : ℕ) (ids xs : List ℕ) → IsStrictlySortedBy nat_cmp (a ∷ ids) → IsStrictlySortedBy nat_cmp (b ∷ xs) → Agree ids (b ∷ xs) → Agree (a ∷ ids) xs → Agree (a ∷ ids) (b ∷ xs)
one_more a b ids xs rises up less fewer = ⊎_elim same differ (cases_eq a b)
  where
    same : a ≡ b → Agree (a ∷ ids) (b ∷ xs)
    same is = found a b ids xs is ∙ ap Some is ∙ sym (found b a xs ids (sym is))

    differ : (a ≡ b → ⊥) → Agree (a ∷ ids) (b ∷ xs)
    differ other = ⊎_elim
        (λ (lt : a < b). passed a ids (b ∷ xs) (none_above a b xs up lt) ∙ less ∙ sym (fewer_above a b ids xs lt up))
        (λ (le : b ≤ a). let lt : b < a = ⊎_elim (λ (lt : b < a). lt) (λ (ge : a ≤ b). absurd (other (omega (arith, le, ge)))) (cases_lt b a) in fewer_above b a xs ids lt rises ∙ fewer ∙ sym (passed b xs (a ∷ ids) (none_above b a ids rises lt)))
        (cases_lt a b)

with_first : (a : ℕ) (ids : List ℕ) → IsStrictlySortedBy nat_cmp (a ∷ ids) → ((xs : List ℕ) → IsStrictlySortedBy nat_cmp xs → Agree ids xs) → (xs : List ℕ) → IsStrictlySortedBy nat_cmp xs → Agree (a ∷ ids) xs
with_first a ids rises known [] up = none_passes (a ∷ ids)
with_first a ids rises known (b ∷ xs) up = one_more a b ids xs rises up (known (b ∷ xs) up) (with_first a ids rises known xs (sorted_tail nat_cmp b xs up))

-- the first of some rising numbers that is among others is the first of these that is among them
pub first_of_both : (ids xs : List ℕ) → IsStrictlySortedBy nat_cmp ids → IsStrictlySortedBy nat_cmp xs → first_that (is_among xs) ids ≡ first_that (is_among ids) xs
first_of_both [] xs rises up = sym (none_passes xs)
first_of_both (a ∷ ids) xs rises up = with_first a ids rises (λ ys more. first_of_both ids ys (sorted_tail nat_cmp a ids rises) more) xs up

-- going upwards over ids, the first that is an ancestor is the first of the chain that is one of them
pub nearest_is_first : (snaps : Snaps) (id : ℕ) (ids : List ℕ) → IsMap nat_cmp snaps → IsStrictlySortedBy nat_cmp ids → first_that (λ a. is_ancestor_of snaps a id) ids ≡ first_that (is_among ids) (chain_of snaps id)
nearest_is_first snaps id ids rises up = first_of_both ids (chain_of snaps id) up (chain_of-rises snaps id rises)
