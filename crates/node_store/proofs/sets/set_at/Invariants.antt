use Rattle.std.proofs.Common.{◌≡◌, drop}
use Rattle.node_store.specs.StoredSets.{first_of, set_at, set_from}
use Rattle.node_store.proofs.sets.set_at.Given as goal

abbrev pub invariant-loop-copy : goal.invariant-loop-copy
invariant-loop-copy l = first_of (set_from l.copies l.id l.birth l.n) (drop l.copy-index l.copies) ≡ set_at l.copies l.id l.birth l.n
