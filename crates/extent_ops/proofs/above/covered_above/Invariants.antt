use Rattle.std.proofs.Common.{◌≡◌, ◌≤◌, drop, length}
use Rattle.extent_ops.specs.Above.{lowest, swept}
use Rattle.extent_ops.proofs.above.covered_above.Given as goal

abbrev pub invariant-loop-place : goal.invariant-loop-place
invariant-loop-place l = record {
  within : l.place ≤ length l.keys;
  low : l.lowest ≡ lowest l.tree l.parent l.stretch (drop l.place l.keys);
  parts : l.parts ≡ swept l.tree l.parent l.stretch (drop l.place l.keys);
}

abbrev pub decreases-loop-place : goal.decreases-loop-place
decreases-loop-place l = l.place
