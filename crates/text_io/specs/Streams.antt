-- What a run of calls leaves of a source, what it gives to a sink, and when.
use Rattle.std.specs.Prelude.{◌≡◌, ℕ, ◌-◌, ◌≤◌, List, ◌++◌, length, take, drop, replicate, All}

-- At most so many bytes were taken from the start of what was left.
abbrev pub TakesUpTo : ℕ → List ℕ → List ℕ → Type 0
TakesUpTo most old new = (n : ℕ) × (n ≤ most) × (new ≡ drop n old)

-- What was taken from the start of what was left stands after the bytes.
pub record MovesOver (bytes left new_bytes new_left : List ℕ) : Type 0 where
  pub together : bytes ++ left ≡ new_bytes ++ new_left

-- The first of the bytes, maybe none and maybe all, were added to what was held.
abbrev pub GivesPrefix : List ℕ → List ℕ → List ℕ → Type 0
GivesPrefix bytes old new = (n : ℕ) × (n ≤ length bytes) × (new ≡ old ++ take n bytes)

-- Each byte that is held now and wasn't before was given at this moment. The lists tell for each byte held when that was.
pub record AreGivenAt (moment : ℕ) (old new old_given_at new_given_at : List ℕ) : Type 0 where
  pub at : new_given_at ≡ old_given_at ++ replicate (length new - length old) moment

-- Since a sink was so it has gained bytes, each of them by this moment.
pub record GainsBy {K : Type 0} (held given_at : K → List ℕ) (first last : K) (moment : ℕ) : Type 0 where
  pub bytes : List ℕ
  pub moments : List ℕ
  pub holds : held last ≡ held first ++ bytes
  pub given : given_at last ≡ given_at first ++ moments
  pub each : length moments ≡ length bytes
  pub by : All (λ at. at ≤ moment) moments

-- Since a sink was so it has gained this text first, each byte of it by this moment, and maybe more.
pub record GainsTextBy {K : Type 0} (held given_at : K → List ℕ) (first last : K) (text : List ℕ) (moment : ℕ) : Type 0 where
  pub more : List ℕ
  pub moments : List ℕ
  pub others : List ℕ
  pub holds : held last ≡ held first ++ (text ++ more)
  pub given : given_at last ≡ given_at first ++ (moments ++ others)
  pub each : length moments ≡ length text
  pub by : All (λ at. at ≤ moment) moments
