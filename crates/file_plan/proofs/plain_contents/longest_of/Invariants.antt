use Rattle.std.proofs.Common.{ℕ, ◌≤◌}
use Rattle.file_plan.proofs.Longest.{AreUpTo}
use Rattle.file_plan.proofs.plain_contents.longest_of.Given as goal

abbrev pub invariant-loop-value : goal.invariant-loop-value
invariant-loop-value l = (bound : ℕ) → l.longest ≤ bound → AreUpTo bound l.value-iterator → AreUpTo bound l.values.entries
