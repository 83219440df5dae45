use Rattle.std.proofs.Common.{◌≡◌, ◌-◌, ◌≤◌}
use Rattle.node_store.specs.StoredSets.{sets_from}
use Rattle.node_store.proofs.Joined.{joined}
use Rattle.node_store.proofs.sets.sets_found.Given as goal

abbrev pub invariant-loop : goal.invariant-loop
invariant-loop l = record {
  so_far : joined l.sets (sets_from l.copies l.id l.birth (16 - l.counter) l.end) ≡ sets_from l.copies l.id l.birth 16 0;
  within : l.end ≤ 16;
}
