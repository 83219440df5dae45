use Rattle.std.proofs.Common.{◌≡◌, None, take}
use Rattle.node_mem.specs.Nodes.{with_keys}
use Rattle.tree_keys.specs.Changes.{keys_with}
use Rattle.tree_keys.specs.Cuts.{with_entries}
use Rattle.tree_keys.proofs.TreeKeys.clear.Given as goal

abbrev pub invariant-loop-pos : goal.invariant-loop-pos
invariant-loop-pos l = l.self ≡ with_entries l.fn.self (with_keys (keys_with None (take l.pos-index l.positions)) l.fn.self.entries)
