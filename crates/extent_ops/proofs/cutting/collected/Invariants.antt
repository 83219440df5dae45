use Rattle.std.proofs.Common.{◌≡◌, []}
use Rattle.extent_ops.specs.Cutting.{collected}
use Rattle.extent_ops.proofs.cutting.collected.Given as goal

abbrev pub invariant-loop-change : goal.invariant-loop-change
invariant-loop-change l = l.entries.entries ≡ collected [] l.yielded
