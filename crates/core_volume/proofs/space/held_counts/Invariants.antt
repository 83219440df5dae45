use Rattle.std.proofs.Common.{◌≡◌, map}
use Rattle.std.specs.List.{range_with_len}
use Rattle.core_volume.specs.Volumes.{held_on}
use Rattle.core_volume.proofs.space.held_counts.Given as goal

abbrev pub invariant-loop-dev : goal.invariant-loop-dev
invariant-loop-dev l = l.counts ≡ map (held_on l.volume) (range_with_len 0 l.dev)
