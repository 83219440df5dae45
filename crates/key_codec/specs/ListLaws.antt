-- Lists whose members rise, and lists of any members, are exact.
use Rattle.std.proofs.Common.{◌≡◌, ℕ, ◌<◌, true, List, [], ◌∷◌, length, map, All, Option, None, Some, option_map, refl, sym, ap, subst}
use Rattle.std.specs.List.{AllByRecursion}
use Rattle.std.specs.Int.{IsInRange}
use Rattle.std.specs.Ordering.{is_lt}
use Rattle.std.specs.declared.cmp.Ordering.{Ordering}
use Rattle.std.specs.declared.cmp.Ordering.TheVariants.{Less, Equal, Greater}
use Rattle.std.proofs.lemmas.List.Elements.{All-from_recursion, recursion_from_All}
use Rattle.vol_types.specs.Ranges.{IsAbove, RiseFrom, Rise}
use Rattle.key_codec.specs.Exact.{IsExactBut, IsExact}
use Rattle.key_codec.specs.Formats.{FormatOf, Format, u8_byte, ranged, followed, items, counted, is_above}
use Rattle.key_codec.specs.Combined.{refit, mapped-exact, followed-exact, FitFrom, EncodesAlike, items-exact}
use Rattle.key_codec.specs.FieldLaws.{byte_within-exact}

less_from_test : (order : Ordering) → is_lt order ≡ true → order ≡ Less
less_from_test Less e = refl
less_from_test Equal e = absurd cc
less_from_test Greater e = absurd cc

-- What passes the test is above.
pub above_from_test : {X : Type 0} (cmp : X → X → Ordering) (before : Option X) (x : X) → is_above cmp before x ≡ true → IsAbove cmp before x
above_from_test cmp None x e = tt
above_from_test cmp (Some before) x e = less_from_test (cmp before x) e

-- What is above passes the test.
pub test_from_above : {X : Type 0} (cmp : X → X → Ordering) (before : Option X) (x : X) → IsAbove cmp before x → is_above cmp before x ≡ true
test_from_above cmp None x e = refl
test_from_above cmp (Some before) x e = ap is_lt e

-- Each member has the property, and is above the one before it, by its key.
abbrev pub RisesBy : {A X : Type 0} → (A → Type 0) → (X → X → Ordering) → (A → X) → Option A → A → Type 0
RisesBy P cmp key before x = P x × IsAbove cmp (option_map key before) (key x)

-- Each member has the property, and they rise.
abbrev pub AreRising : {A X : Type 0} → (A → Type 0) → (X → X → Ordering) → (A → X) → List A → Type 0
AreRising P cmp key xs = All P xs × Rise cmp (map key xs)

rising_parts : {A X : Type 0} (P : A → Type 0) (cmp : X → X → Ordering) (key : A → X) (before : Option A) (xs : List A) → FitFrom (RisesBy P cmp key) before xs → AllByRecursion P xs × RiseFrom cmp (option_map key before) (map key xs)
rising_parts P cmp key before [] fits = (tt, tt)
rising_parts P cmp key before (x ∷ xs) fits =
    let others = rising_parts P cmp key (Some x) xs fits.1 in
    ((fits.0.0, others.0), (fits.0.1, others.1))

rising_whole : {A X : Type 0} (P : A → Type 0) (cmp : X → X → Ordering) (key : A → X) (before : Option A) (xs : List A) → AllByRecursion P xs → RiseFrom cmp (option_map key before) (map key xs) → FitFrom (RisesBy P cmp key) before xs
rising_whole P cmp key before [] each rise = tt
rising_whole P cmp key before (x ∷ xs) each rise = ((each.0, rise.0), rising_whole P cmp key (Some x) xs each.1 rise.1)

-- So many rising members are exact.
pub rising-exact : {E A X : Type 0} {short : E} (P : A → Type 0) (cmp : X → X → Ordering) (key : A → X) (item : Option A → FormatOf E A) → EncodesAlike item → ((before : Option A) → IsExactBut short (RisesBy P cmp key before) (item before)) → (n : ℕ) → IsExactBut short (λ xs. AreRising P cmp key xs × (length xs ≡ n)) (items item n)
rising-exact {E} {A} P cmp key item alike exact n = refit (λ xs. FitFrom (RisesBy P cmp key) None xs × (length xs ≡ n)) (λ xs. AreRising P cmp key xs × (length xs ≡ n)) (items item n)
    (λ xs fits. let parts = rising_parts P cmp key None xs fits.0 in ((All-from_recursion P xs parts.0, parts.1), fits.1))
    (λ xs fits. (rising_whole P cmp key None xs (recursion_from_All P xs fits.0.0) fits.0.1, fits.1))
    (items-exact (RisesBy P cmp key) item alike exact n)

each_parts : {A : Type 0} (P : A → Type 0) (before : Option A) (xs : List A) → FitFrom (λ _ x. P x) before xs → AllByRecursion P xs
each_parts P before [] fits = tt
each_parts P before (x ∷ xs) fits = (fits.0, each_parts P (Some x) xs fits.1)

each_whole : {A : Type 0} (P : A → Type 0) (before : Option A) (xs : List A) → AllByRecursion P xs → FitFrom (λ _ x. P x) before xs
each_whole P before [] each = tt
each_whole P before (x ∷ xs) each = (each.0, each_whole P (Some x) xs each.1)

-- So many members are exact.
pub each-exact : {E A : Type 0} {short : E} (P : A → Type 0) (item : Option A → FormatOf E A) → EncodesAlike item → ((before : Option A) → IsExactBut short P (item before)) → (n : ℕ) → IsExactBut short (λ xs. All P xs × (length xs ≡ n)) (items item n)
each-exact {E} {A} P item alike exact n = refit (λ xs. FitFrom (λ _ x. P x) None xs × (length xs ≡ n)) (λ xs. All P xs × (length xs ≡ n)) (items item n)
    (λ xs fits. (All-from_recursion P xs (each_parts P None xs fits.0), fits.1))
    (λ xs fits. (each_whole P None xs (recursion_from_All P xs fits.0), fits.1))
    (items-exact (λ _ x. P x) item alike exact n)

-- A list after its count is exact.
pub counted-exact : {A : Type 0} (P : List A → Type 0) (k most : ℕ) (item : Option A → Format A) → most < 256 → ((n : ℕ) → IsExact (λ xs. P xs × (length xs ≡ n)) (items item n)) → IsExact (λ xs. P xs × IsInRange 1 most (length xs)) (counted k most item)
unfolding counted
counted-exact {A} P k most item small exact = mapped-exact (λ (p : ℕ × List A). IsInRange 1 most p.0 × (P p.1 × (length p.1 ≡ p.0))) (λ xs. P xs × IsInRange 1 most (length xs)) (followed (ranged k u8_byte 1 most) (items item)) (λ p. p.1) (λ xs. (length xs, xs))
    (λ p fits. ((fits.1.0, subst (λ n. IsInRange 1 most n) (sym fits.1.1) fits.0), ap (λ n. (n, p.1)) fits.1.1))
    (λ xs fits. ((fits.1, (fits.0, refl)), refl))
    (followed-exact (IsInRange 1 most) (λ n xs. P xs × (length xs ≡ n)) (ranged k u8_byte 1 most) (items item) (byte_within-exact k 1 most small) exact)

-- Two properties of each member are one of each.
pub both_of_each : {A : Type 0} (P Q : A → Type 0) (xs : List A) → All P xs → All Q xs → All (λ x. P x × Q x) xs
both_of_each P Q xs p q = λ k d lt. (p k d lt, q k d lt)
