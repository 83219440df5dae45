use Rattle.std.proofs.Common.{◌≡◌, map, take}
use Rattle.bucket_pool.specs.Space.{free_count}
use Rattle.core_volume.proofs.space.free_counts.Given as goal

abbrev pub invariant-loop-dev : goal.invariant-loop-dev
invariant-loop-dev l = l.counts ≡ map free_count (take l.dev l.volume.space)
