use Rattle.std.proofs.Common.{◌≡◌, ◌++◌, map}
use Rattle.forest_ops.specs.Steps.{flagged}
use Rattle.forest_ops.proofs.subvolume.Subvolume.push_names.Given as goal

abbrev pub invariant-loop-name : goal.invariant-loop-name
invariant-loop-name l = l.list ++ map (flagged l.self) l.name-iterator ≡ map (flagged l.self) l.names
