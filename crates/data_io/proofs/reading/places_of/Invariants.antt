use Rattle.std.proofs.Common.{◌≡◌, take}
use Rattle.data_io.specs.Reads.{places_of}
use Rattle.data_io.proofs.reading.places_of.Given as goal

abbrev pub invariant-loop-pointer : goal.invariant-loop-pointer
invariant-loop-pointer l = l.places ≡ places_of (take l.pointer-index l.pointers)
