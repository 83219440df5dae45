use Rattle.std.proofs.Common.{◌≡◌, ◌++◌, drop}
use Rattle.std.specs.Map.{values_of}
use Rattle.vol_info.proofs.btrees.add_level.Given as goal

abbrev pub invariant-loop-node : goal.invariant-loop-node
invariant-loop-node l = l.nodes ++ values_of (drop l.node-index l.level) ≡ l.fn.nodes ++ values_of l.level
