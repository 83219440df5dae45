use Rattle.std.proofs.Common.{◌≡◌, take}
use Rattle.file_plan.specs.BlockIo.{places_at, places_of}
use Rattle.file_plan.proofs.runs.pointers_behind.Given as goal

abbrev pub invariant-loop-pointer : goal.invariant-loop-pointer
invariant-loop-pointer l = places_of l.behind ≡ places_at l.index (take l.pointer-index l.pointers)
