use Rattle.std.proofs.Common.{arith, subst, sym}
use Rattle.file_plan.proofs.Longest.{AreUpTo, none_up_to, up_to_more}
use Rattle.file_plan.proofs.plain_contents.longest_of.Goals as goal

pub loop-value-init : goal.loop-value-init
loop-value-init c = λ bound le all. subst (AreUpTo bound) c.into_iter-value-iterator.ensures.into_iter_gives.0 all

pub loop-value-preserved : goal.loop-value-preserved
loop-value-preserved c = λ bound le all.
    let longest = c.longest_with-longest.ensures in
    c.loop-value.invariant bound (omega (arith, longest, le))
    (subst (AreUpTo bound) (sym c.in-Some.ensures.steps) (up_to_more bound _ _ _ (omega (arith, longest, le)) all))

pub returns : goal.returns
returns c = c.loop-value.invariant c.loop-value.longest (omega arith) (subst (AreUpTo c.loop-value.longest) (sym c.in-None.ensures.steps.0) (none_up_to c.loop-value.longest))
