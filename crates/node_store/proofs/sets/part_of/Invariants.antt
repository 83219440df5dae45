use Rattle.std.proofs.Common.{◌≡◌, drop}
use Rattle.node_store.specs.StoredSets.{first_of, part_in, part_of}
use Rattle.node_store.proofs.sets.part_of.Given as goal

abbrev pub invariant-loop-copy : goal.invariant-loop-copy
invariant-loop-copy l = first_of (part_in l.first l.n l.part) (drop l.copy-index l.copies) ≡ part_of l.copies l.first l.n l.part
