use Rattle.std.specs.List.{AllByRecursion}
use Rattle.vol_types.specs.Maps.{IsMap}
use Rattle.vol_types.specs.Positions.{pos_cmp}
use Rattle.replay.proofs.Making.{handed_on, tree_rises}
use Rattle.replay.proofs.btrees.tree_nodes.Goals as goal

pub returns-in_err-levels-clause-err : goal.returns-in_err-levels-clause-err
returns-in_err-levels-clause-err c same is =
    handed_on c.from_residual.result c.in_err-levels.field-0.0 (¬ AllByRecursion (IsMap pos_cmp) c.args.levels) c.from_residual.ensures.1 c.in_err-levels.ensures.err same (tree_rises c.args.levels is)
