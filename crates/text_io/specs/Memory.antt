-- A source and a sink in memory, and which of their calls fail.
use Rattle.std.specs.Prelude.{◌≡◌, ℕ, ◌+◌, ◌-◌, ◌^◌, min, List, Contains, Result}
use Rattle.vol_types.specs.Faults.{CountsFaults}

-- The calls of a source or a sink.
pub record CallCounts : Type 0 where
  -- the numbers of those that are to fail, from 0
  pub failing : List ℕ
  -- the most bytes that one moves
  pub most : ℕ
  -- how many there were; the count stands still at its end
  pub made : ℕ
  -- how many of them failed
  pub failed : ℕ

-- The next call is to fail.
abbrev pub IsToFail : CallCounts → Type 0
IsToFail calls = Contains calls.failing calls.made

-- No call yet: those with these numbers are to fail, and each moves as many bytes as it can.
abbrev pub no_calls : List ℕ → CallCounts
no_calls failing = record { failing = failing; most = 2 ^ 64 - 1; made = 0; failed = 0 }

-- There was a call more, with this result.
pub record CountsCall {T E : Type 0} (result : Result T E) (old new : CallCounts) : Type 0 where
  pub failing : new.failing ≡ old.failing
  pub most : new.most ≡ old.most
  pub made : new.made ≡ min (old.made + 1) (2 ^ 64 - 1)
  pub failed : CountsFaults result old.failed new.failed

-- A source: the bytes that are left, and its calls.
pub record SourceState : Type 0 where
  pub left : List ℕ
  pub calls : CallCounts

-- A sink: the bytes that it holds, the moment of the devices at which each was given, for how many more it has the memory, and
-- its calls.
pub record SinkState : Type 0 where
  pub held : List ℕ
  pub given_at : List ℕ
  pub room : ℕ
  pub calls : CallCounts
