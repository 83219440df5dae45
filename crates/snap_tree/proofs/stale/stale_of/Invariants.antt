use Rattle.std.proofs.Common.{◌≡◌, ℕ, true}
use Rattle.std.specs.Prelude.{IfSome}
use Rattle.snap_tree.specs.Names.{has_id}
use Rattle.snap_tree.specs.Links.{IsPast}
use Rattle.snap_tree.specs.Changes.{HasMoved, HasChildren, IsBelowMoved}
use Rattle.snap_tree.proofs.Cursors.{left}
use Rattle.snap_tree.proofs.stale.stale_of.Given as goal

abbrev pub invariant-loop-next : goal.invariant-loop-next
invariant-loop-next l = record {
  moved : HasMoved l.changes.entries l.stale.keys;
  few : (id : ℕ) → has_id l.stale.keys id ≡ true → IsBelowMoved l.snaps.entries l.changes.entries l.stale.keys id;
  closed : (id : ℕ) → IsPast l.next id → HasChildren l.snaps.entries l.stale.keys id;
  there : IfSome l.next (λ id. has_id l.stale.keys id ≡ true);
}

abbrev pub decreases-loop-next : goal.decreases-loop-next
decreases-loop-next l = left l.next
