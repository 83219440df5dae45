use Rattle.std.proofs.Common.{◌≤◌, sym, arith}
use Rattle.std.specs.Cmp.{nat_cmp_is}
use Rattle.std.specs.declared.cmp.Ordering.TheVariants.{Less}
use Rattle.std.proofs.lemmas.Map.Keys.{ge_from_not_lt}
use Rattle.snap_tree.proofs.greatest.last_below.Goals as goal

pub returns-in-Some-clause-greatest : goal.returns-in-Some-clause-greatest
returns-in-Some-clause-greatest g c id lt past there =
    let greatest = (c.range.ensures.in_range tt).4 _ _ c.in-Some.ensures.steps in
    let low : id ≤ c.in-Some.id.now = ge_from_not_lt c.in-Some.id.now id (greatest id (tt, sym (nat_cmp_is id c.args.bound Less lt)) there) in omega (arith, low, past)
