use Rattle.bucket_pool.proofs.Idling.{idle_group}
use Rattle.bucket_pool.proofs.groups.has_busy.Goals as goal

pub returns : goal.returns
returns c = λ none. idle_group c.args.group c.args.buckets.now c.args.groups.now (record { free = 0; busy = 0 }) c.requires c.if-group-groups.false none
