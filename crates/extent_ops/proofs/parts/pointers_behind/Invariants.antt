use Rattle.std.proofs.Common.{◌≡◌, take, map}
use Rattle.extent_ops.specs.Cutting.{pointer_behind}
use Rattle.extent_ops.proofs.parts.pointers_behind.Given as goal

abbrev pub invariant-loop-pointer : goal.invariant-loop-pointer
invariant-loop-pointer l = l.moved ≡ map (pointer_behind l.skip) (take l.pointer-index l.pointers)
