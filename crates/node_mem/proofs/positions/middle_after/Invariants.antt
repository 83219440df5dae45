use Rattle.std.proofs.Common.{◌≡◌, map, take}
use Rattle.std.specs.Map.{keys_of}
use Rattle.node_mem.specs.Nodes.{with_keys}
use Rattle.node_mem.proofs.positions.middle_after.Given as goal

abbrev pub invariant-loop-change : goal.invariant-loop-change
invariant-loop-change g l = l.positions.keys ≡ keys_of (with_keys (map g.C.Change.key (take l.change-index l.changes)) l.entries.entries)
