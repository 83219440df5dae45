-- How the outside counts its failures.
use Rattle.std.specs.Prelude.{◌≡◌, ℕ, ◌+◌, ◌-◌, ◌^◌, ◌≤◌, min, Result, IsErr, OnOk}

-- The count rose by so many, or stands still at its end.
abbrev pub RoseBy : ℕ → ℕ → ℕ → Type 0
RoseBy n old new = min (old + n) (2 ^ 64 - 1) ≤ new

-- The count doesn't fall, and the call fails only where it rose.
pub record HasCause {T E : Type 0} (result : Result T E) (old new : ℕ) : Type 0 where
  pub later : old ≤ new
  pub rose : IsErr result → RoseBy 1 old new

-- The call fails only where the count rose, and where it succeeds the count stays.
pub record CountsFaults {T E : Type 0} (result : Result T E) (old new : ℕ) : Type 0 where
  pub later : old ≤ new
  pub rose : IsErr result → RoseBy 1 old new
  pub still : OnOk result (new ≡ old)
