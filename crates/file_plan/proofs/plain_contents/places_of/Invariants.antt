use Rattle.std.proofs.Common.{◌≡◌, take}
use Rattle.file_plan.specs.BlockIo.{places_of}
use Rattle.file_plan.proofs.plain_contents.places_of.Given as goal

abbrev pub invariant-loop-pointer : goal.invariant-loop-pointer
invariant-loop-pointer l = l.places ≡ places_of (take l.pointer-index l.pointers)
