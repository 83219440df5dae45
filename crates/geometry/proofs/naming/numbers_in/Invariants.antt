use Rattle.std.proofs.Common.{◌≡◌, map, take}
use Rattle.std.specs.Int.{w32, from_le_bytes}
use Rattle.geometry.proofs.naming.numbers_in.Given as goal

abbrev pub invariant-loop-chunk : goal.invariant-loop-chunk
invariant-loop-chunk l = l.numbers.items ≡ map (from_le_bytes w32) (take l.chunk-index l.chunks)
