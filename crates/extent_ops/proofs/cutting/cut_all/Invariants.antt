use Rattle.std.proofs.Common.{◌≡◌, ◌++◌, drop}
use Rattle.extent_ops.specs.Cutting.{cut_all}
use Rattle.extent_ops.specs.Stretches.{RiseFrom}
use Rattle.extent_ops.proofs.cutting.cut_all.Given as goal

abbrev pub invariant-loop-key : goal.invariant-loop-key
invariant-loop-key l = RiseFrom 0 l.stretches → l.changes ++ cut_all l.id l.stretches (drop l.key-index l.keys) ≡ cut_all l.id l.stretches l.keys
