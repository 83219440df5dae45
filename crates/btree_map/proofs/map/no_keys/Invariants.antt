use Rattle.std.proofs.Common.{◌≡◌, map, take}
use Rattle.btree_map.specs.Trees.{one_leaf}
use Rattle.btree_map.proofs.map.no_keys.Given as goal

abbrev pub invariant-loop : goal.invariant-loop
invariant-loop l = l.keys.items ≡ map (λ _. one_leaf) (take l.index l.roots)
