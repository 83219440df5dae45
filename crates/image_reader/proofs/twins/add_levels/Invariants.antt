use Rattle.std.proofs.Common.{◌≡◌, ◌++◌, drop, map}
use Rattle.std.specs.List.{flat_map}
use Rattle.std.specs.Map.{values_of}
use Rattle.image_reader.specs.Twins.{born}
use Rattle.image_reader.proofs.twins.add_levels.Given as goal

abbrev pub invariant-loop-level : goal.invariant-loop-level
invariant-loop-level l = l.into ++ map born (flat_map values_of (drop l.level-index l.levels)) ≡ l.fn.into ++ map born (flat_map values_of l.levels)
