-- Members of lists.
use Rattle.std.proofs.Common.{◌≡◌, ◌⊎◌, inl, inr, Bool, true, false, List, [], ◌∷◌, ◌++◌, map, refl, sym, ap, ◌∙◌}
use Rattle.std.specs.Prelude.{◌||◌}
use Rattle.std.specs.List.{list_any}
use Rattle.std.proofs.lemmas.Bool.{true≢false}

-- The member is one of the list.
abbrev pub Has : {X : Type 0} → X → List X → Type 0
Has x [] = ⊥
Has x (y ∷ ys) = (x ≡ y) ⊎ Has x ys

-- What joined lists have, one of them has.
pub has-append : {X : Type 0} (x : X) (ys zs : List X) → Has x (ys ++ zs) → Has x ys ⊎ Has x zs
has-append x [] zs has = inr has
has-append x (y ∷ ys) zs (inl same) = inl (inl same)
has-append x (y ∷ ys) zs (inr later) = elim (has-append x ys zs later) [ inl there ↦ inl (inr there) | inr there ↦ inr there ]

pub has-first : {X : Type 0} (x : X) (ys zs : List X) → Has x ys → Has x (ys ++ zs)
has-first x [] zs has = elim has [ ]
has-first x (y ∷ ys) zs (inl same) = inl same
has-first x (y ∷ ys) zs (inr later) = inr (has-first x ys zs later)

pub has-second : {X : Type 0} (x : X) (ys zs : List X) → Has x zs → Has x (ys ++ zs)
has-second x [] zs has = has
has-second x (y ∷ ys) zs has = inr (has-second x ys zs has)

-- What a mapped list has comes from a member.
pub has-map : {X Y : Type 0} (f : X → Y) (y : Y) (xs : List X) → Has y (map f xs) → (x : X) × (Has x xs × (y ≡ f x))
has-map f y [] has = elim has [ ]
has-map f y (x ∷ xs) (inl same) = (x, (inl refl, same))
has-map f y (x ∷ xs) (inr later) = let from = has-map f y xs later in (from.0, (inr from.1.0, from.1.1))

pub map-has : {X Y : Type 0} (f : X → Y) (x : X) (xs : List X) → Has x xs → Has (f x) (map f xs)
map-has f x [] has = elim has [ ]
map-has f x (y ∷ xs) (inl same) = inl (ap f same)
map-has f x (y ∷ xs) (inr later) = inr (map-has f x xs later)

-- Where a test passes some member, there is one that passes it; and where it passes none, no member does.
pub any-has : {X : Type 0} (test : X → Bool) (xs : List X) → list_any test xs ≡ true → (x : X) × (Has x xs × (test x ≡ true))
any-has test [] any = absurd (true≢false (sym any))
any-has {X} test (x ∷ xs) any = by (test x) refl any (λ later. any-has test xs later)
  where
    by : (b : Bool) → test x ≡ b → (b || list_any test xs) ≡ true → (list_any test xs ≡ true → (y : X) × (Has y xs × (test y ≡ true))) → (y : X) × (Has y (x ∷ xs) × (test y ≡ true))
    by true is any later = (x, (inl refl, is))
    by false is any later = let from = later any in (from.0, (inr from.1.0, from.1.1))

pub none-has : {X : Type 0} (test : X → Bool) (x : X) (xs : List X) → list_any test xs ≡ false → Has x xs → test x ≡ false
none-has test x [] none has = elim has [ ]
none-has test x (y ∷ xs) none has = by (test y) refl none has (λ rest there. none-has test x xs rest there)
  where
    by : (b : Bool) → test y ≡ b → (b || list_any test xs) ≡ false → Has x (y ∷ xs) → (list_any test xs ≡ false → Has x xs → test x ≡ false) → test x ≡ false
    by true is none has later = absurd (true≢false none)
    by false is none (inl same) later = ap test same ∙ is
    by false is none (inr there) later = later none there
