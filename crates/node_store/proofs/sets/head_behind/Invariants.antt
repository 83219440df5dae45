use Rattle.std.proofs.Common.{◌≡◌, ◌+◌, ◌-◌}
use Rattle.node_store.specs.StoredSets.{first_head}
use Rattle.node_store.proofs.sets.head_behind.Given as goal

abbrev pub invariant-loop-n : goal.invariant-loop-n
invariant-loop-n l = first_head l.copies l.id l.birth (16 - l.n) l.n ≡ first_head l.copies l.id l.birth (16 - (l.end + 1)) (l.end + 1)
