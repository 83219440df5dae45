use Rattle.std.proofs.Common.{◌≡◌, take, map}
use Rattle.extent_ops.specs.Cutting.{stretch_of}
use Rattle.extent_ops.proofs.cutting.stretches_of.Given as goal

abbrev pub invariant-loop-key : goal.invariant-loop-key
invariant-loop-key l = l.stretches ≡ map stretch_of (take l.key-index l.keys)
