-- Tests and looks one after another, up to the first refusal.
use Rattle.std.specs.Prelude.{◌≡◌, Bool, true, false, Result, Ok, Err}
use Rattle.forest_ops.specs.declared.operation.Cause.{Cause}

infixl 10 ◌>>=◌
-- one thing after another, up to the first refusal
abbrev pub ◌>>=◌ : {A B : Type 0} → Result A Cause → (A → Result B Cause) → Result B Cause
(Ok x) >>= f = f x
(Err cause) >>= f = Err cause

-- a result with its value seen by a function
abbrev pub result_map : {A B : Type 0} → (A → B) → Result A Cause → Result B Cause
result_map see (Ok x) = Ok (see x)
result_map see (Err cause) = Err cause

-- a refusal where the test holds
abbrev pub refused_if : Bool → Cause → Result (Unit {0}) Cause
refused_if true cause = Err cause
refused_if false cause = Ok tt

-- Both are done and it holds of the two values, or both are refused for one cause.
abbrev pub Agrees : {A B : Type 0} → (A → B → Type 0) → Result A Cause → Result B Cause → Type 0
Agrees P (Ok x) (Ok y) = P x y
Agrees P (Err cause) (Err other) = cause ≡ other
Agrees P planned forest = ⊥
