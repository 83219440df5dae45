-- How one thing after another is seen in its parts, and how two that agree go on.
use Rattle.std.proofs.Common.{◌≡◌, Bool, true, false, refl}
use Rattle.std.specs.Prelude.{Result, Ok, Err}
use Rattle.forest_ops.specs.Refusals.{◌>>=◌, result_map, refused_if, Agrees}
use Rattle.forest_ops.specs.declared.operation.Cause.{Cause}

-- What comes after two things comes after the second one.
pub then_assoc : {A B C : Type 0} (r : Result A Cause) (f : A → Result B Cause) (g : B → Result C Cause) → ((r >>= f) >>= g) ≡ (r >>= (λ x. f x >>= g))
then_assoc (Ok x) f g = refl
then_assoc (Err cause) f g = refl

-- What is only handed on stays.
pub then_ok : {A : Type 0} (r : Result A Cause) → (r >>= (λ x. Ok x)) ≡ r
then_ok (Ok x) = refl
then_ok (Err cause) = refl

-- What comes after a thing is the same where it is the same for each value that this may have.
pub then_same : {A B : Type 0} (r : Result A Cause) (f g : A → Result B Cause) → ((x : A) → r ≡ Ok x → f x ≡ g x) → (r >>= f) ≡ (r >>= g)
then_same (Ok x) f g same = same x refl
then_same (Err cause) f g same = refl

-- What is seen of a value that comes after another is seen after it.
pub map_then : {A B C : Type 0} (see : B → C) (r : Result A Cause) (f : A → Result B Cause) → result_map see (r >>= f) ≡ (r >>= (λ x. result_map see (f x)))
map_then see (Ok x) f = refl
map_then see (Err cause) f = refl

-- Two that agree still agree after what comes then, where this agrees of any two values of which it held.
pub agrees-then : {A B C D : Type 0} (P : A → B → Type 0) (Q : C → D → Type 0) (planned : Result A Cause) (forest : Result B Cause) (f : A → Result C Cause) (g : B → Result D Cause) → Agrees P planned forest
    → ((x : A) (y : B) → planned ≡ Ok x → forest ≡ Ok y → P x y → Agrees Q (f x) (g y)) → Agrees Q (planned >>= f) (forest >>= g)
agrees-then P Q (Ok x) (Ok y) f g holds go_on = go_on x y refl refl holds
agrees-then P Q (Err cause) (Err other) f g same go_on = same
agrees-then P Q (Ok x) (Err other) f g none go_on = absurd none
agrees-then P Q (Err cause) (Ok y) f g none go_on = absurd none

-- Where both look at one thing, they agree after it as they do for each value.
pub agrees-same : {A C D : Type 0} (Q : C → D → Type 0) (r : Result A Cause) (f : A → Result C Cause) (g : A → Result D Cause) → ((x : A) → r ≡ Ok x → Agrees Q (f x) (g x)) → Agrees Q (r >>= f) (r >>= g)
agrees-same Q (Ok x) f g go_on = go_on x refl
agrees-same Q (Err cause) f g go_on = refl

-- Where both are refused by one test for one cause, they agree after it as they do where the test fails.
pub agrees-refused_if : {C D : Type 0} (Q : C → D → Type 0) (test : Bool) (cause : Cause) (f : Result C Cause) (g : Result D Cause) → (test ≡ false → Agrees Q f g) → Agrees Q (refused_if test cause >>= (λ _. f)) (refused_if test cause >>= (λ _. g))
agrees-refused_if Q true cause f g go_on = refl
agrees-refused_if Q false cause f g go_on = go_on refl

-- Where one looks at what the other sees of a value, they agree after it as they do for each value.
pub agrees-seen : {A B C D : Type 0} (Q : C → D → Type 0) (see : A → B) (r : Result A Cause) (f : A → Result C Cause) (g : B → Result D Cause) → ((x : A) → r ≡ Ok x → Agrees Q (f x) (g (see x))) → Agrees Q (r >>= f) (result_map see r >>= g)
agrees-seen Q see (Ok x) f g go_on = go_on x refl
agrees-seen Q see (Err cause) f g go_on = refl
