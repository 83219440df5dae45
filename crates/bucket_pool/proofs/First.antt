-- The first member of a list that passes a test: where it is searched for, and that it is there.
use Rattle.std.proofs.Common.{◌≡◌, ℕ, suc, ◌+◌, ◌<◌, ◌≤◌, Bool, true, false, cond, not, ◌||◌, nat_lt, Option, None, Some, is_some, List, [], ◌∷◌, length, refl, sym, subst, arith}
use Rattle.std.specs.List.{list_any, position, position_or_len}
use Rattle.std.proofs.lemmas.Bool.{false≢true}
use Rattle.std.proofs.lemmas.Bool.Decides.{nat_tests}
use Rattle.std.proofs.lemmas.Option.{cond_some, none-some as none_some}

-- what a search says of where it stopped
found_by : (b : Bool) (n at : ℕ) → cond b (Some n) None ≡ Some at → (b ≡ true) × (at ≡ n)
found_by b n at is = let both = cond_some b n at is in (both.0, sym both.1)

missed_by : (b : Bool) (n : ℕ) → cond b (Some n) None ≡ None → b ≡ false
missed_by true n is = absurd (none_some n (sym is))
missed_by false n is = refl

lt_true : (m n : ℕ) → nat_lt m n ≡ true → m < n
lt_true m n is = grind (arith, nat_tests)

lt_false : (m n : ℕ) → nat_lt m n ≡ false → n ≤ m
lt_false m n is = grind (arith, nat_tests)

pub position_some : {X : Type 0} (p : X → Bool) (xs : List X) (at : ℕ) → position p xs ≡ Some at → (at ≡ position_or_len p xs) × (at < length xs)
position_some p xs at is =
    let both = found_by (nat_lt (position_or_len p xs) (length xs)) (position_or_len p xs) at is in
    let lt : position_or_len p xs < length xs = lt_true (position_or_len p xs) (length xs) both.0 in
    (both.1, subst (λ (n : ℕ). n < length xs) (sym both.1) lt)

pub position_none : {X : Type 0} (p : X → Bool) (xs : List X) → position p xs ≡ None → length xs ≤ position_or_len p xs
position_none p xs is = lt_false (position_or_len p xs) (length xs) (missed_by (nat_lt (position_or_len p xs) (length xs)) (position_or_len p xs) is)

any_first_by : (b any : Bool) (first size : ℕ) → (any ≡ true → first < size) → (b || any) ≡ true → cond (not b) (1 + first) 0 < suc size
any_first_by true any first size rest is = omega arith
any_first_by false any first size rest is = let lt = rest is in omega (arith, lt)

pub any_first : {X : Type 0} (p : X → Bool) (xs : List X) → list_any p xs ≡ true → position_or_len p xs < length xs
any_first p [] is = absurd (false≢true is)
any_first p (x ∷ xs) is = any_first_by (p x) (list_any p xs) (position_or_len p xs) (length xs) (any_first p xs) is

pub no_position : {X : Type 0} (p : X → Bool) (xs : List X) → list_any p xs ≡ true → position p xs ≡ None → ⊥
no_position p xs any none = let lt = any_first p xs any in let le = position_none p xs none in omega (arith, lt, le)

none_first_by : (b any : Bool) (first size : ℕ) → (any ≡ false → size ≤ first) → (b || any) ≡ false → suc size ≤ cond (not b) (1 + first) 0
none_first_by true any first size rest is = absurd (false≢true (sym is))
none_first_by false any first size rest is = let le = rest is in omega (arith, le)

none_first : {X : Type 0} (p : X → Bool) (xs : List X) → list_any p xs ≡ false → length xs ≤ position_or_len p xs
none_first p [] is = omega arith
none_first p (x ∷ xs) is = none_first_by (p x) (list_any p xs) (position_or_len p xs) (length xs) (none_first p xs) is

pub some_any : {X : Type 0} (p : X → Bool) (xs : List X) (at : ℕ) → position p xs ≡ Some at → list_any p xs ≡ true
some_any p xs at is = choose (list_any p xs) refl
  where
    choose : (b : Bool) → list_any p xs ≡ b → b ≡ true
    choose true any = refl
    choose false any = let found = position_some p xs at is in let le = none_first p xs any in absurd (omega (arith, found.0, found.1, le))

pub none_any : {X : Type 0} (p : X → Bool) (xs : List X) → position p xs ≡ None → list_any p xs ≡ false
none_any p xs is = choose (list_any p xs) refl
  where
    choose : (b : Bool) → list_any p xs ≡ b → b ≡ false
    choose true any = absurd (no_position p xs any is)
    choose false any = refl

pub some_is_any : {X : Type 0} (p : X → Bool) (xs : List X) → is_some (position p xs) ≡ list_any p xs
some_is_any p xs = choose (position p xs) refl
  where
    choose : (o : Option ℕ) → position p xs ≡ o → is_some o ≡ list_any p xs
    choose None is = sym (none_any p xs is)
    choose (Some at) is = sym (some_any p xs at is)
