use Rattle.std.proofs.Common.{◌≡◌, take, map}
use Rattle.extent_ops.specs.Above.{hole_of}
use Rattle.extent_ops.proofs.above.holes_of.Given as goal

abbrev pub invariant-loop-stretch : goal.invariant-loop-stretch
invariant-loop-stretch l = l.changes ≡ map hole_of (take l.stretch-index l.stretches)
