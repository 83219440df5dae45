use Rattle.std.proofs.Common.{◌∙◌, sym}
use Rattle.bucket_pool.specs.Groups.{fits, group_of, may_fit}
use Rattle.bucket_pool.proofs.Grouping.{fits_counted, uncounted}
use Rattle.bucket_pool.proofs.groups.search_group.Goals as goal

pub returns-then-count_for-eq0-clause-found : goal.returns-then-count_for-eq0-clause-found
returns-then-count_for-eq0-clause-found c =
    uncounted (fits c.args.want) (may_fit c.args.want) (group_of c.args.group c.args.buckets.now) (fits_counted c.args.want) (sym c.requires.counted ∙ sym c.count_for.ensures ∙ c.if-count_for-eq0.true)
