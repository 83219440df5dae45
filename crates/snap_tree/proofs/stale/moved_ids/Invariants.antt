use Rattle.std.proofs.Common.{◌≡◌, ℕ, true}
use Rattle.std.specs.Ordering.{nat_cmp}
use Rattle.vol_types.specs.Maps.{value_at}
use Rattle.snap_tree.specs.Names.{has_id}
use Rattle.snap_tree.specs.Links.{IsPast}
use Rattle.snap_tree.specs.Changes.{is_moved}
use Rattle.snap_tree.proofs.Cursors.{left}
use Rattle.snap_tree.proofs.stale.moved_ids.Given as goal

abbrev pub invariant-loop-next : goal.invariant-loop-next
invariant-loop-next l =
    ((id : ℕ) → IsPast l.next id → is_moved (value_at nat_cmp id l.changes.entries) ≡ true → has_id l.ids.keys id ≡ true) × ((id : ℕ) → has_id l.ids.keys id ≡ true → is_moved (value_at nat_cmp id l.changes.entries) ≡ true)

abbrev pub decreases-loop-next : goal.decreases-loop-next
decreases-loop-next l = left l.next
