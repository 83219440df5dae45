use Rattle.std.proofs.Common.{◌≡◌, ◌<◌, ℕ, true, Some, slice_get}
use Rattle.six_lock.proofs.lock.any_flag.Given as goal

-- none is set among those before
abbrev pub invariant-loop-flag : goal.invariant-loop-flag
invariant-loop-flag l = (k : ℕ) → k < l.flag-index → slice_get l.flags k ≡ Some true → ⊥
