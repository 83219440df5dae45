use Rattle.std.proofs.Common.{take}
use Rattle.birth_index.specs.Births.{Finds, birth_of}
use Rattle.birth_index.proofs.making.index_of.Given as goal

abbrev pub invariant-loop-code : goal.invariant-loop-code
invariant-loop-code l = Finds l.names.entries (birth_of (take l.code l.nodes))
