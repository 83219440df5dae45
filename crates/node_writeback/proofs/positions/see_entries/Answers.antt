-- The updates of each entry are seen.
use Rattle.std.proofs.Common.{List, subst, arith}
use Rattle.std.specs.Prelude.{All}
use Rattle.std.proofs.lemmas.List.{take_all}
use Rattle.std.proofs.lemmas.List.Elements.{All-more}
use Rattle.vol_types.specs.declared.keys.Update.{Update}
use Rattle.node_writeback.proofs.Wide.{AreWide, IsWide}
use Rattle.node_writeback.proofs.positions.see_entries.Goals as goal

pub loop-entry-preserved : goal.loop-entry-preserved
loop-entry-preserved c =
    All-more AreWide c.args.entries.now c.loop-entry.entry-index c.entry-item.result c.loop-entry-test.true c.loop-entry.invariant
    (subst AreWide c.entry-item.is (subst (λ (us : List Update). All IsWide us) c.as_slice.ensures c.see_updates.ensures))

pub returns : goal.returns
returns c = subst (All AreWide) (take_all c.loop-entry.entry-index c.args.entries.now (omega (arith, c.loop-entry-test.false))) c.loop-entry.invariant
