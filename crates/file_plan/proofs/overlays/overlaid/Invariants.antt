use Rattle.std.proofs.Common.{◌≡◌, map}
use Rattle.std.specs.List.{range_with_len}
use Rattle.file_plan.specs.Writes.{byte_over}
use Rattle.file_plan.proofs.overlays.overlaid.Given as goal

abbrev pub invariant-loop-index : goal.invariant-loop-index
invariant-loop-index l = l.made ≡ map (byte_over l.base l.size l.start l.offset l.bytes) (range_with_len l.start l.index)
