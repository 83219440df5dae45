use Rattle.std.proofs.Common.{refl}
use Rattle.tree_nodes.specs.TreeLaws.{set-here, set-other, tree-divided, tree-grown, tree-height, tree-with_node}
use Rattle.tree_nodes.proofs.laws.changes_leave_trees.Goals as goal

pub returns : goal.returns
returns c = record {
  height = tree-height;
  replaced = λ levels level at fresh tree there node. tree-with_node levels level at tree there fresh node;
  divided = λ levels level greatest at first second tree low there fits child one other. tree-divided levels level greatest tree there at first second fits child one other low;
  grown = tree-grown;
  here = λ levels level nodes lt. set-here levels level nodes lt level refl;
  elsewhere = λ levels level other nodes lt apart. set-other levels level nodes lt other apart;
}
