-- So far there is a bucket for each root.
use Rattle.std.proofs.Common.{◌≡◌, ◌≤◌, ◌<◌, ℕ, length}
use Rattle.std.specs.Prelude.{slice_index_or}
use Rattle.vol_format.specs.Fresh.{IsRootPlan, no_bucket}
use Rattle.vol_format.proofs.fresh.plan_roots.Given as goal

abbrev pub invariant-loop-number : goal.invariant-loop-number
invariant-loop-number l = record {
  count : length l.roots ≡ l.number;
  each : (number : ℕ) → number < l.number → IsRootPlan l.fn.layout number (slice_index_or l.roots number no_bucket);
  few : l.number ≤ 9;
}
