use Rattle.std.proofs.Common.{◌≡◌, ◌++◌, drop}
use Rattle.std.specs.List.{flat_map}
use Rattle.std.specs.Map.{values_of}
use Rattle.vol_info.proofs.btrees.nodes_of.Given as goal

abbrev pub invariant-loop-level : goal.invariant-loop-level
invariant-loop-level l = l.nodes ++ flat_map values_of (drop l.level-index l.levels) ≡ flat_map values_of l.levels
