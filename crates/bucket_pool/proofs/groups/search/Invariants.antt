use Rattle.std.proofs.Common.{◌*◌}
use Rattle.bucket_pool.specs.Groups.{fits}
use Rattle.bucket_pool.proofs.Grouping.{AreBefore}
use Rattle.bucket_pool.proofs.groups.search.Given as goal

abbrev pub invariant-loop-group : goal.invariant-loop-group
invariant-loop-group l = AreBefore (fits l.want) (256 * l.group) l.buckets
