use Rattle.std.proofs.Common.{◌∙◌, inl, subst, sym}
use Rattle.vol_session.specs.Shortages.{IsHelped}
use Rattle.volume.proofs.committing.settle.Goals as goal

pub fail_uncommitted-requires-clause-intended : goal.fail_uncommitted-requires-clause-intended
fail_uncommitted-requires-clause-intended g c = record { reply = c.args.not.reply; intended = c.requires.intended }

pub fail_uncommitted-requires-clause-helpless : goal.fail_uncommitted-requires-clause-helpless
fail_uncommitted-requires-clause-helpless g c = inl (sym c.may_be_helped.ensures ∙ c.if-may_be_helped.false)

pub returns-then-may_be_helped-clause-helped : goal.returns-then-may_be_helped-clause-helped
returns-then-may_be_helped-clause-helped g c = λ before. c.try_again.ensures.helped

pub returns-clause-helped : goal.returns-clause-helped
returns-clause-helped g c = λ before. subst IsHelped (sym c.fail_uncommitted.ensures.shortages) (before (sym c.may_be_helped.ensures ∙ c.if-may_be_helped.false))
