use Rattle.std.proofs.Common.{subst, arith}
use Rattle.std.specs.Prelude.{All}
use Rattle.std.proofs.lemmas.List.{take_all}
use Rattle.std.proofs.lemmas.List.Elements.{All-more}
use Rattle.vol_types.specs.Positions.{least_pos}
use Rattle.vol_types.specs.Widths.{PosFits}
use Rattle.tree_keys.proofs.making.see_widths.Goals as goal

pub loop-end-preserved : goal.loop-end-preserved
loop-end-preserved c = All-more PosFits c.args.ends.now c.loop-end.end-index least_pos c.loop-end-test.true c.loop-end.invariant c.wide.ensures.fits

pub returns : goal.returns
returns c = subst (All PosFits) (take_all c.loop-end.end-index c.args.ends.now (omega (arith, c.loop-end-test.false))) c.loop-end.invariant
