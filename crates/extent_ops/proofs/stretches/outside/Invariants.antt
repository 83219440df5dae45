use Rattle.std.proofs.Common.{◌≡◌, ◌++◌, drop}
use Rattle.extent_ops.specs.Stretches.{outside}
use Rattle.extent_ops.proofs.stretches.outside.Given as goal

abbrev pub invariant-loop-stretch : goal.invariant-loop-stretch
invariant-loop-stretch l = l.parts ++ outside l.from l.end (drop l.stretch-index l.stretches) ≡ outside l.fn.first l.end l.stretches
