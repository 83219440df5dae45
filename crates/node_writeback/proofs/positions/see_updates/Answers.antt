-- Each position that is seen has the widths of its type.
use Rattle.std.proofs.Common.{subst, arith}
use Rattle.std.specs.Prelude.{All}
use Rattle.std.proofs.lemmas.List.{take_all}
use Rattle.std.proofs.lemmas.List.Elements.{All-more}
use Rattle.node_writeback.proofs.Wide.{IsWide}
use Rattle.node_writeback.proofs.positions.see_updates.Goals as goal

pub loop-update-preserved : goal.loop-update-preserved
loop-update-preserved c =
    All-more IsWide c.args.updates.now c.loop-update.update-index c.update-item.result c.loop-update-test.true c.loop-update.invariant (subst IsWide c.update-item.is c.wide.ensures.fits)

pub returns : goal.returns
returns c = subst (All IsWide) (take_all c.loop-update.update-index c.args.updates.now (omega (arith, c.loop-update-test.false))) c.loop-update.invariant
