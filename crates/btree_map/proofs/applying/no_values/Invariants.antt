use Rattle.std.proofs.Common.{◌≡◌, [], map, take}
use Rattle.btree_map.proofs.applying.no_values.Given as goal

abbrev pub invariant-loop : goal.invariant-loop
invariant-loop l = l.last.items ≡ map (λ _. []) (take l.index l.keys)
