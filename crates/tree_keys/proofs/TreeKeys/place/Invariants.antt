use Rattle.std.proofs.Common.{◌≡◌, Some, take}
use Rattle.node_mem.specs.Nodes.{with_keys}
use Rattle.tree_keys.specs.Changes.{keys_with}
use Rattle.tree_keys.specs.Cuts.{with_entries}
use Rattle.vol_types.specs.declared.values.Value.TheVariants.{White}
use Rattle.tree_keys.proofs.TreeKeys.place.Given as goal

abbrev pub invariant-loop-count : goal.invariant-loop-count
invariant-loop-count l = l.self ≡ with_entries l.fn.self (with_keys (keys_with (Some White) (take l.count l.positions)) l.fn.self.entries)
