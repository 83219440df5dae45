use Rattle.std.proofs.Common.{◌≡◌, ◌≤◌, ◌+◌, drop, slice_index}
use Rattle.std.specs.List.{count_by}
use Rattle.bucket_pool.specs.Places.{each_from}
use Rattle.bucket_pool.specs.Space.{can_give, givers}
use Rattle.bucket_pool.proofs.pool.count_givers.Given as goal

abbrev pub invariant-loop-dev : goal.invariant-loop-dev
invariant-loop-dev l = record {
  few : l.count ≤ l.dev;
  so_far : l.count + count_by (λ can. can) (each_from (λ dev. can_give l.want.blocks l.want.actor (slice_index l.held dev)) l.dev (drop l.dev l.devices)) ≡ givers l.want.blocks l.want.actor l.held l.devices;
}
