use Rattle.std.proofs.Common.{arith}
use Rattle.tree_nodes.specs.TreeLaws.{tree-height}
use Rattle.tree_nodes.proofs.tree.TreeNodes.height.Goals as goal

pub overflow_cast-result : goal.overflow_cast-result
overflow_cast-result c = omega (arith, c.len.ensures, (tree-height c.self.inside.levels.items c.self.invariant).1)
