use Rattle.std.proofs.Common.{◌≡◌, take, map}
use Rattle.extent_ops.specs.Cutting.{change_of}
use Rattle.extent_ops.proofs.cutting.changes_of.Given as goal

abbrev pub invariant-loop-key : goal.invariant-loop-key
invariant-loop-key l = l.changes ≡ map change_of (take l.key-index l.keys)
