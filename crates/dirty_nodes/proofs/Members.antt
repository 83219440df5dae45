-- What is one of a list, of joined lists, of a part, or of what a function makes of each.
use Rattle.std.proofs.Common.{◌≡◌, ℕ, ◌⊎◌, inl, inr, ⊎_elim, Bool, true, false, cond, Option, Some, None, List, [], ◌∷◌, ◌++◌, map, refl, sym, ap, ◌∙◌, subst}
use Rattle.std.specs.Prelude.{All, slice_get}
use Rattle.std.specs.List.{filter, flat_map}
use Rattle.std.specs.Option.{option_to_list}
use Rattle.std.proofs.lemmas.List.Elements.{All-head, All-tail}
use Rattle.std.proofs.lemmas.Option.{same_Some, none-some as none_some}

-- It is one of the list.
abbrev pub IsIn : {X : Type 0} → X → List X → Type 0
IsIn x [] = ⊥
IsIn x (y ∷ ys) = (x ≡ y) ⊎ IsIn x ys

pub in_front : {X : Type 0} (x : X) (xs ys : List X) → IsIn x xs → IsIn x (xs ++ ys)
in_front x [] ys is = absurd is
in_front x (z ∷ zs) ys is = ⊎_elim (λ (same : x ≡ z). inl same) (λ (later : IsIn x zs). inr (in_front x zs ys later)) is

pub in_back : {X : Type 0} (x : X) (xs ys : List X) → IsIn x ys → IsIn x (xs ++ ys)
in_back x [] ys is = is
in_back x (z ∷ zs) ys is = inr (in_back x zs ys is)

pub in_either : {X : Type 0} (x : X) (xs ys : List X) → IsIn x (xs ++ ys) → IsIn x xs ⊎ IsIn x ys
in_either x [] ys is = inr is
in_either x (z ∷ zs) ys is =
    ⊎_elim (λ (same : x ≡ z). inl (inl same)) (λ (later : IsIn x (zs ++ ys)). ⊎_elim (λ (front : IsIn x zs). inl (inr front)) (λ (back : IsIn x ys). inr back) (in_either x zs ys later)) is

pub all_in : {X : Type 0} (P : X → Type 0) (x : X) (xs : List X) → All P xs → IsIn x xs → P x
all_in P x [] all is = absurd is
all_in P x (z ∷ zs) all is = ⊎_elim (λ (same : x ≡ z). subst P (sym same) (All-head P z zs all)) (λ (later : IsIn x zs). all_in P x zs (All-tail P z zs all) later) is

pub in_flat : {X Y : Type 0} (f : X → List Y) (x : X) (y : Y) (xs : List X) → IsIn x xs → IsIn y (f x) → IsIn y (flat_map f xs)
in_flat f x y [] is here = absurd is
in_flat f x y (z ∷ zs) is here =
    ⊎_elim (λ (same : x ≡ z). in_front y (f z) (flat_map f zs) (subst (λ w. IsIn y (f w)) same here)) (λ (later : IsIn x zs). in_back y (f z) (flat_map f zs) (in_flat f x y zs later here)) is

-- One of a list gives this.
pub record FromOne {X Y : Type 0} (f : X → List Y) (y : Y) (xs : List X) : Type 0 where
  pub one : X
  pub there : IsIn one xs
  pub gives : IsIn y (f one)

pub from_flat : {X Y : Type 0} (f : X → List Y) (y : Y) (xs : List X) → IsIn y (flat_map f xs) → FromOne f y xs
from_flat f y [] is = absurd is
from_flat f y (z ∷ zs) is =
    ⊎_elim (λ (here : IsIn y (f z)). record { one = z; there = inl refl; gives = here })
    (λ (back : IsIn y (flat_map f zs)). let r : FromOne f y zs = from_flat f y zs back in record { one = r.one; there = inr r.there; gives = r.gives })
    (in_either y (f z) (flat_map f zs) is)

-- One of a list is made this.
pub record MadeOfOne {X Y : Type 0} (f : X → Y) (y : Y) (xs : List X) : Type 0 where
  pub one : X
  pub there : IsIn one xs
  pub made : y ≡ f one

pub from_map : {X Y : Type 0} (f : X → Y) (y : Y) (xs : List X) → IsIn y (map f xs) → MadeOfOne f y xs
from_map f y [] is = absurd is
from_map f y (z ∷ zs) is =
    ⊎_elim (λ (same : y ≡ f z). record { one = z; there = inl refl; made = same })
    (λ (later : IsIn y (map f zs)). let r : MadeOfOne f y zs = from_map f y zs later in record { one = r.one; there = inr r.there; made = r.made }) is

pub from_filter : {X : Type 0} (p : X → Bool) (x : X) (xs : List X) → IsIn x (filter p xs) → IsIn x xs × (p x ≡ true)
from_filter p x [] is = absurd is
from_filter p x (z ∷ zs) is = by (from_filter p x zs) (p z) refl is
  where
    later : (IsIn x (filter p zs) → IsIn x zs × (p x ≡ true)) → IsIn x (filter p zs) → IsIn x (z ∷ zs) × (p x ≡ true)
    later rest is = let r = rest is in (inr r.0, r.1)

    by : (IsIn x (filter p zs) → IsIn x zs × (p x ≡ true)) → (b : Bool) → p z ≡ b → IsIn x (cond b (z ∷ filter p zs) (filter p zs)) → IsIn x (z ∷ zs) × (p x ≡ true)
    by rest true test is = ⊎_elim (λ (same : x ≡ z). (inl same, ap p same ∙ test)) (later rest) is
    by rest false test is = later rest is

pub first_in : {X : Type 0} (x : X) (xs : List X) → slice_get xs 0 ≡ Some x → IsIn x xs
first_in x [] is = absurd (none_some x is)
first_in x (z ∷ zs) is = inl (sym (same_Some z x is))

pub from_option : (o : Option ℕ) (y : ℕ) → IsIn y (option_to_list o) → o ≡ Some y
from_option None y is = absurd is
from_option (Some x) y is = ⊎_elim (λ (same : y ≡ x). ap Some (sym same)) (λ (none : ⊥). absurd none) is

pub in_option : (o : Option ℕ) (y : ℕ) → o ≡ Some y → IsIn y (option_to_list o)
in_option o y is = subst (λ (p : Option ℕ). IsIn y (option_to_list p)) (sym is) (inl refl)
