use Rattle.std.proofs.Common.{◌≡◌, ◌≤◌, true, subst, arith}
use Rattle.snap_tree.specs.Names.{has_pair}
use Rattle.snap_tree.proofs.Naming.{in_range_of, into_range_of, not_below}
use Rattle.snap_tree.proofs.names.namer_up_to.Goals as goal

pub returns-in-None-clause-greatest : goal.returns-in-None-clause-greatest
returns-in-None-clause-greatest c namer le past there =
    cc (there, (c.range.ensures.in_range c.new.ensures.exhausted).5 c.in-None.ensures.steps.0 (c.args.named, namer) (into_range_of _ _ c.args.named c.args.bound namer c.new.ensures.start c.new.ensures.end le))

pub returns-in-Some : goal.returns-in-Some
returns-in-Some c =
    let here = (c.range.ensures.in_range c.new.ensures.exhausted).3 _ _ c.in-Some.ensures.steps in
    let greatest = (c.range.ensures.in_range c.new.ensures.exhausted).4 _ _ c.in-Some.ensures.steps in
    let one = in_range_of _ _ c.args.named c.args.bound c.in-Some.field-0.now.0 c.in-Some.field-0.now.1 c.new.ensures.start c.new.ensures.end here.0.0 here.0.1 in
    record {
      within = one.1;
      there = subst (λ q. has_pair c.args.pairs.now.keys q c.in-Some.field-0.now.1 ≡ true) one.0 here.1;
      greatest = λ namer le past there. let low : namer ≤ c.in-Some.field-0.now.1 = not_below c.args.named c.in-Some.field-0.now.0 c.in-Some.field-0.now.1 namer one.0 (greatest (c.args.named, namer) (into_range_of _ _ c.args.named c.args.bound namer c.new.ensures.start c.new.ensures.end le) there) in omega (arith, low, past);
    }
