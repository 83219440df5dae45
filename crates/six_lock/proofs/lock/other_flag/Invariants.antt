use Rattle.std.proofs.Common.{◌≡◌, ◌<◌, ℕ, true, Some, slice_get}
use Rattle.six_lock.proofs.lock.other_flag.Given as goal

-- none but the actor's is set among those before
abbrev pub invariant-loop-place : goal.invariant-loop-place
invariant-loop-place l = (k : ℕ) → k < l.place → slice_get l.flags k ≡ Some true → k ≡ l.actor
