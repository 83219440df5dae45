-- What holds of joined lists, and what is counted in a list.
use Rattle.std.proofs.Common.{◌≡◌, ◌+◌, ℕ, Bool, true, false, cond, List, [], ◌∷◌, refl, ap, arith}
use Rattle.std.proofs.lemmas.List.Elements.{All-append, All-cons, All-head, All-nil, All-tail}
use Rattle.std.proofs.lemmas.List.Sums.{sum_by-cons}
use Rattle.std.specs.List.{count_by, flat_map}
use Rattle.std.specs.Prelude.{◌≢◌, All}
use Rattle.vol_core.proofs.FoundRoots.{all_left, all_right}

-- What holds of all that is joined holds of all that comes of each.
pub each_of_joined : {X Y : Type 0} (P : Y → Type 0) (g : X → List Y) (xs : List X) → All P (flat_map g xs) → All (λ (x : X). All P (g x)) xs
each_of_joined {X} P g [] all = All-nil (λ (x : X). All P (g x))
each_of_joined {X} P g (x ∷ xs) all = All-cons (λ (y : X). All P (g y)) x xs (all_left P (g x) (flat_map g xs) all) (each_of_joined P g xs (all_right P (g x) (flat_map g xs) all))

-- And back.
pub joined_of_each : {X Y : Type 0} (P : Y → Type 0) (g : X → List Y) (xs : List X) → All (λ (x : X). All P (g x)) xs → All P (flat_map g xs)
joined_of_each {X} P g [] all = All-nil P
joined_of_each {X} P g (x ∷ xs) all = All-append P (g x) (flat_map g xs) (All-head (λ (y : X). All P (g y)) x xs all) (joined_of_each P g xs (All-tail (λ (y : X). All P (g y)) x xs all))

-- Nothing is counted where nothing passes.
pub none_counted : {X : Type 0} (p : X → Bool) (xs : List X) → All (λ (x : X). p x ≡ false) xs → count_by p xs ≡ 0
none_counted p [] none = refl
none_counted {X} p (x ∷ xs) none =
    let off : cond {A = ℕ} (p x) 1 0 ≡ 0 = ap (λ (b : Bool). cond {A = ℕ} b 1 0) (All-head (λ (y : X). p y ≡ false) x xs none) in
    let more = sum_by-cons (λ (y : X). cond {A = ℕ} (p y) 1 0) x xs in
    let rest = none_counted p xs (All-tail (λ (y : X). p y ≡ false) x xs none) in
    omega (arith, off, more, rest)

-- Where something is counted, what follows from each that passes holds.
pub counted_there : {X : Type 0} (p : X → Bool) (Q : Type 0) (xs : List X) → All (λ (x : X). p x ≡ true → Q) xs → count_by p xs ≢ 0 → Q
counted_there p Q [] all some = absurd (some refl)
counted_there {X} p Q (x ∷ xs) all some = by (p x) refl (counted_there p Q xs (All-tail (λ (y : X). p y ≡ true → Q) x xs all))
  where
    by : (b : Bool) → p x ≡ b → (count_by p xs ≢ 0 → Q) → Q
    by true is later = All-head (λ (y : X). p y ≡ true → Q) x xs all is
    by false is later = later (λ none.
        let off : cond {A = ℕ} (p x) 1 0 ≡ 0 = ap (λ (b : Bool). cond {A = ℕ} b 1 0) is in
        let more = sum_by-cons (λ (y : X). cond {A = ℕ} (p y) 1 0) x xs in
        some (omega (arith, off, more, none)))

-- Where nothing is counted, none passes.
pub none_passes : {X : Type 0} (p : X → Bool) (xs : List X) → count_by p xs ≡ 0 → All (λ (x : X). p x ≡ false) xs
none_passes {X} p [] none = All-nil (λ (x : X). p x ≡ false)
none_passes {X} p (x ∷ xs) none = by (p x) refl (sum_by-cons (λ (y : X). cond {A = ℕ} (p y) 1 0) x xs) (none_passes p xs)
  where
    by : (b : Bool) → p x ≡ b → count_by p (x ∷ xs) ≡ cond {A = ℕ} (p x) 1 0 + count_by p xs → (count_by p xs ≡ 0 → All (λ (y : X). p y ≡ false) xs) → All (λ (y : X). p y ≡ false) (x ∷ xs)
    by true is more later = let on : cond {A = ℕ} (p x) 1 0 ≡ 1 = ap (λ (b : Bool). cond {A = ℕ} b 1 0) is in absurd (omega (arith, on, more, none))
    by false is more later = All-cons (λ (y : X). p y ≡ false) x xs is (later (omega (arith, more, none)))
