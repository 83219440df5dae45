-- Which calls of devices in memory fail.
use Rattle.std.specs.Prelude.{◌≡◌, ◌⊎◌, ℕ, ◌+◌, ◌-◌, ◌^◌, ◌≤◌, min, List, [], Option, None, IsSomeAnd, Contains, Result, IsErr, OnOk}
use Rattle.vol_types.specs.Faults.{RoseBy}
use Rattle.dev_model.specs.declared.disk.Pick.{Pick}
use Rattle.dev_model.specs.declared.disk.Pick.TheVariants.{NoneWritten}

-- The calls that are to fail, the first call of those that all fail, what a write that is to fail leaves of its block, and how
-- many calls there were.
pub record Plan : Type 0 where
  pub failing : List ℕ
  pub failing_from : Option ℕ
  pub leaves : Pick
  pub calls : ℕ

-- before the first call, with none that is to fail
abbrev pub no_faults : Plan
no_faults = record { failing = []; failing_from = None; leaves = NoneWritten; calls = 0 }

-- The call with this number is to fail.
abbrev pub FailsAt : Plan → ℕ → Type 0
FailsAt plan call = Contains plan.failing call ⊎ IsSomeAnd plan.failing_from (λ first. first ≤ call)

-- the plan after a call; the count of calls stands still at its end
abbrev pub one_call_more : Plan → Plan
one_call_more plan = record plan { calls = min (plan.calls + 1) (2 ^ 64 - 1) }

-- The call is counted. It fails where it is to fail, and else only where the count of shortages of memory rose.
pub record FollowsPlan {T E : Type 0} (result : Result T E) (old new : Plan) (shortages new_shortages : ℕ) : Type 0 where
  pub counted : new ≡ one_call_more old
  pub planned : FailsAt old old.calls → IsErr result
  pub short : IsErr result → FailsAt old old.calls ⊎ RoseBy 1 shortages new_shortages
  pub ample : OnOk result (new_shortages ≡ shortages)
