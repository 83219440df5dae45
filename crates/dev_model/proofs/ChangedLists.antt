-- A member of a list that was changed.
use Rattle.std.proofs.Common.{◌≡◌, ℕ, zero, suc, ◌<◌, List, [], ◌∷◌, length, map, get_or, set, refl, ap, ◌∙◌, arith}
use Rattle.dev_model.specs.Disk.{changed}

-- to put the changed member into its place
changed_set : {A : Type 0} (xs : List A) (i : ℕ) (change : A → A) (d : A) → i < length xs → set xs i (change (get_or xs i d)) ≡ changed i change xs
changed_set [] i change d in_range = absurd (omega (arith, in_range))
changed_set (x ∷ xs) zero change d in_range = refl
changed_set (x ∷ xs) (suc i) change d in_range = ap (λ rest. x ∷ rest) (changed_set xs i change d (omega (arith, in_range)))

-- the same for a member that was read from there and then changed
pub changed_by : {A : Type 0} (xs : List A) (i : ℕ) (change : A → A) (old new : A) → i < length xs → old ≡ get_or xs i old → new ≡ change old → set xs i new ≡ changed i change xs
changed_by xs i change old new in_range read is_changed =
    ap (λ x. set xs i x) (is_changed ∙ ap change read) ∙ changed_set xs i change old in_range

-- what changes no member
pub changed_same : {A : Type 0} (xs : List A) (i : ℕ) (change : A → A) → ((x : A) → change x ≡ x) → changed i change xs ≡ xs
changed_same [] i change same = refl
changed_same (x ∷ xs) zero change same = ap (λ y. y ∷ xs) (same x)
changed_same (x ∷ xs) (suc i) change same = ap (λ ys. x ∷ ys) (changed_same xs i change same)

pub length-changed : {A : Type 0} (xs : List A) (i : ℕ) (change : A → A) → length (changed i change xs) ≡ length xs
length-changed [] i change = refl
length-changed (x ∷ xs) zero change = refl
length-changed (x ∷ xs) (suc i) change = ap suc (length-changed xs i change)

pub map-changed : {A B : Type 0} (f : A → B) (xs : List A) (i : ℕ) (change : A → A) (seen : B → B) → ((x : A) → f (change x) ≡ seen (f x)) → map f (changed i change xs) ≡ changed i seen (map f xs)
map-changed f [] i change seen same = refl
map-changed f (x ∷ xs) zero change seen same = ap (λ y. y ∷ map f xs) (same x)
map-changed f (x ∷ xs) (suc i) change seen same = ap (λ ys. f x ∷ ys) (map-changed f xs i change seen same)

-- f doesn't see the change
pub map-changed_same : {A B : Type 0} (f : A → B) (xs : List A) (i : ℕ) (change : A → A) → ((x : A) → f (change x) ≡ f x) → map f (changed i change xs) ≡ map f xs
map-changed_same f [] i change same = refl
map-changed_same f (x ∷ xs) zero change same = ap (λ y. y ∷ map f xs) (same x)
map-changed_same f (x ∷ xs) (suc i) change same = ap (λ ys. f x ∷ ys) (map-changed_same f xs i change same)
