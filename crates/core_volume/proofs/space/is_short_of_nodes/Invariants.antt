use Rattle.std.proofs.Common.{ℕ, ◌+◌, ◌<◌, [], slice_index_or}
use Rattle.bucket_pool.specs.Space.{free_count}
use Rattle.core_volume.specs.Rulings.{kept_buckets}
use Rattle.core_volume.proofs.space.is_short_of_nodes.Given as goal

abbrev pub invariant-loop-dev : goal.invariant-loop-dev
invariant-loop-dev l = (dev : ℕ) → dev < l.dev → ¬ (free_count (slice_index_or l.pool dev []) < l.marked + kept_buckets)
