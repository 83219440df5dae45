use Rattle.std.proofs.Common.{ℕ}
use Rattle.std.specs.Ordering.{nat_cmp}
use Rattle.vol_types.specs.Maps.{value_at}
use Rattle.snap_tree.specs.Snaps.{Snaps}
use Rattle.snap_tree.specs.Links.{IsPast}
use Rattle.snap_tree.specs.Changes.{Leads, ChangeFits}
use Rattle.snap_tree.proofs.Cursors.{left}
use Rattle.snap_tree.proofs.change.will_stand.Given as goal

abbrev pub invariant-loop-next : goal.invariant-loop-next
invariant-loop-next l =
    (new : Snaps) → Leads l.snaps.entries new l.changes.entries → (id : ℕ) → IsPast l.next id → ChangeFits new l.pairs.keys l.changes.entries id (value_at nat_cmp id l.changes.entries)

abbrev pub decreases-loop-next : goal.decreases-loop-next
decreases-loop-next l = left l.next
