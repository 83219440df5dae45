use Rattle.std.proofs.Common.{subst, sym}
use Rattle.vol_types.specs.Widths.{PosFits}
use Rattle.tree_nodes.specs.RowLaws.{row-with_value}
use Rattle.tree_nodes.proofs.level.LevelNodes.put.Goals as goal

pub invariant_of-self-2 : goal.invariant_of-self-2
invariant_of-self-2 c =
    row-with_value c.wide-greatest.result c.args.node c.self.inside.nodes.entries c.insert.new.self.entries c.self.invariant (subst PosFits (sym c.wide-greatest.ensures.same) c.wide-greatest.ensures.fits)
    c.in_ok-insert.ensures.entries
