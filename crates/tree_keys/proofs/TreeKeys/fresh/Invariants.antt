use Rattle.std.proofs.Common.{◌≡◌, ◌++◌}
use Rattle.tree_keys.specs.Changes.{fresh_positions}
use Rattle.tree_keys.proofs.TreeKeys.fresh.Given as goal

abbrev pub invariant-loop-pos : goal.invariant-loop-pos
invariant-loop-pos l = l.fresh.items ++ fresh_positions l.pos-iterator l.self.entries ≡ fresh_positions l.last.entries l.self.entries
