use Rattle.std.proofs.Common.{◌≡◌, ◌++◌, map}
use Rattle.forest_ops.specs.Steps.{flagged_subvolume}
use Rattle.forest_ops.proofs.subvolumes.Subvolumes.push_names.Given as goal

abbrev pub invariant-loop-name : goal.invariant-loop-name
invariant-loop-name l = l.list ++ map flagged_subvolume l.name-iterator ≡ map flagged_subvolume l.self
