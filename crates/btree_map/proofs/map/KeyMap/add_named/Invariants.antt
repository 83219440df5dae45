use Rattle.std.proofs.Common.{◌≡◌, ◌++◌, drop}
use Rattle.btree_map.specs.Sizes.{node_sizes}
use Rattle.btree_map.proofs.map.KeyMap.add_named.Given as goal

abbrev pub invariant-loop-leaf : goal.invariant-loop-leaf
invariant-loop-leaf l = l.sizes ++ node_sizes l.self l.btree (drop l.leaf-index l.leaves) ≡ l.fn.sizes ++ node_sizes l.self l.btree l.leaves
