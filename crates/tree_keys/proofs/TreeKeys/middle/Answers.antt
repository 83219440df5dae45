use Rattle.std.proofs.Common.{arith}
use Rattle.tree_keys.proofs.Copying.{part_few}
use Rattle.tree_keys.proofs.TreeKeys.middle.Goals as goal

pub count_values-count-requires : goal.count_values-count-requires
count_values-count-requires c =
    omega (arith, c.len-all.ensures.len, c.len-all.ensures.small, part_few c.start_of-start.result c.args.end.now c.self.inside.keys.entries c.within.result c.within.ensures)
