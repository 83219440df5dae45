use Rattle.std.proofs.Common.{◌≡◌, ◌<◌, ◌≤◌, IfSome, drop, length}
use Rattle.journal_writer.specs.Writers.{first_flag}
use Rattle.journal_writer.proofs.flags.first_flag.Given as goal

-- the first of those from the place on
abbrev pub invariant-loop-at : goal.invariant-loop-at
invariant-loop-at l = record {
  within : l.at ≤ length l.flags;
  so_far : l.first ≡ first_flag l.at (drop l.at l.flags);
  there : IfSome l.first (λ flag. flag < length l.flags);
}

abbrev pub decreases-loop-at : goal.decreases-loop-at
decreases-loop-at l = l.at
