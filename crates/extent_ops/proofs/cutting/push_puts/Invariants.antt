use Rattle.std.proofs.Common.{◌≡◌, ◌++◌, map, take}
use Rattle.extent_ops.specs.Cutting.{put_part}
use Rattle.extent_ops.proofs.cutting.push_puts.Given as goal

abbrev pub invariant-loop-part : goal.invariant-loop-part
invariant-loop-part l = l.changes ≡ l.fn.changes ++ map (put_part l.first l.value) (take l.part-index l.parts)
