use Rattle.tree_keys.proofs.Copying.{part_covered, part_in_range, part_rises}
use Rattle.tree_keys.proofs.TreeKeys.leaf.Goals as goal

pub copy_range-requires-clause-rises : goal.copy_range-requires-clause-rises
copy_range-requires-clause-rises c = part_rises c.start_of-start.result c.args.end.now c.self.inside.keys.entries c.within.result c.within.ensures c.self.invariant.0.rises

pub copy_range-requires-clause-covered : goal.copy_range-requires-clause-covered
copy_range-requires-clause-covered c = part_covered c.start_of-start.result c.args.end.now c.self.inside.keys.entries c.within.result c.within.ensures c.self.invariant.0.fit

pub copy_range-requires-clause-in_range : goal.copy_range-requires-clause-in_range
copy_range-requires-clause-in_range c = part_in_range c.start_of-start.result c.args.end.now c.self.inside.keys.entries c.within.result c.within.ensures c.self.invariant.0.in_range
