use Rattle.std.proofs.Common.{◌∙◌, ◌*◌, ◌≤◌, ◌≡◌, length, sym, arith, subst, ℕ}
use Rattle.bucket_pool.specs.Groups.{fits}
use Rattle.bucket_pool.proofs.Grouping.{before_more, counts_for, hit_in_group, missed_in_group, none_at_all}
use Rattle.bucket_pool.proofs.groups.search.Goals as goal

pub search_group-requires-clause-counted : goal.search_group-requires-clause-counted
search_group-requires-clause-counted c = counts_for c.args.want c.args.buckets.now c.args.groups.now c.loop-group.group (record { free = 0; busy = 0 }) c.requires.counted c.loop-group-test.true

pub returns-in-Some : goal.returns-in-Some
returns-in-Some c =
    hit_in_group (fits c.args.want) c.loop-group.group c.in-Some.at c.args.buckets.now c.loop-group.invariant (sym c.search_group.ensures.found ∙ c.in-Some.is)

pub loop-group-preserved : goal.loop-group-preserved
loop-group-preserved c =
    before_more (fits c.args.want) c.loop-group.group c.args.buckets.now c.loop-group.invariant (missed_in_group (fits c.args.want) c.loop-group.group c.args.buckets.now (sym c.search_group.ensures.found ∙ c.in_default.is))

pub returns : goal.returns
returns c =
    let all : c.loop-group.group ≡ length c.args.groups.now = omega arith in
    none_at_all (fits c.args.want) c.loop-group.group c.args.buckets.now (subst (λ (n : ℕ). length c.args.buckets.now ≤ 256 * n) (sym all) c.requires.counted.covers) c.loop-group.invariant
