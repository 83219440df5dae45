use Rattle.std.proofs.Common.{subst, arith}
use Rattle.std.specs.Prelude.{All}
use Rattle.std.proofs.lemmas.List.{take_all}
use Rattle.std.proofs.lemmas.List.Elements.{All-more}
use Rattle.vol_types.specs.Widths.{PosFits}
use Rattle.vol_types.specs.declared.keys.Update.{Update}
use Rattle.core_volume.proofs.volume.see_widths.Goals as goal

pub loop-update-preserved : goal.loop-update-preserved
loop-update-preserved c =
    All-more (λ (update : Update). PosFits update.pos) c.args.updates.now c.loop-update.update-index c.update-item.result c.loop-update-test.true c.loop-update.invariant
    (subst (λ (update : Update). PosFits update.pos) c.update-item.is c.wide.ensures.fits)

pub returns : goal.returns
returns c = subst (All (λ (update : Update). PosFits update.pos)) (take_all c.loop-update.update-index c.args.updates.now (omega (arith, c.loop-update-test.false))) c.loop-update.invariant
