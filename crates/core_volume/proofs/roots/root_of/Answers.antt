use Rattle.core_volume.proofs.RootNodes.{copied_in_range, root_in_range}
use Rattle.core_volume.proofs.roots.root_of.Goals as goal

pub returns-clause-in_range : goal.returns-clause-in_range
returns-clause-in_range c = copied_in_range c.copy.result c.root.result.now c.copy.ensures (root_in_range c.args.map.now c.height.ensures.sound c.in-Some.btree c.root.result.now c.root.ensures)
