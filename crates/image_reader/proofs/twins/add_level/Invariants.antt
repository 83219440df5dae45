use Rattle.std.proofs.Common.{◌≡◌, ◌++◌, drop, map}
use Rattle.std.specs.Map.{values_of}
use Rattle.image_reader.specs.Twins.{born}
use Rattle.image_reader.proofs.twins.add_level.Given as goal

abbrev pub invariant-loop-pointer : goal.invariant-loop-pointer
invariant-loop-pointer l = l.into ++ map born (values_of (drop l.pointer-index l.nodes)) ≡ l.fn.into ++ map born (values_of l.nodes)
