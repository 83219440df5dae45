use Rattle.bucket_pool.proofs.Grouping.{group_by_cuts}
use Rattle.bucket_pool.proofs.groups.group_of.Goals as goal

pub returns-clause-members : goal.returns-clause-members
returns-clause-members c =
    group_by_cuts c.args.group c.min.result c.min-2.result c.args.buckets.now c.split_at.result.1.now c.split_at-2.result.0.now c.min.ensures c.split_at.ensures.back c.min-2.ensures c.split_at-2.ensures.front
