use Rattle.std.proofs.Common.{◌≡◌, ℕ}
use Rattle.std.specs.Ordering.{nat_cmp}
use Rattle.vol_types.specs.Maps.{value_at}
use Rattle.snap_tree.specs.Snaps.{live_leaves}
use Rattle.snap_tree.specs.Links.{IsPast}
use Rattle.snap_tree.specs.Changes.{IsEntered, HasRoom, given}
use Rattle.snap_tree.proofs.Cursors.{left}
use Rattle.snap_tree.proofs.settle.enter.Given as goal

abbrev pub invariant-loop-next : goal.invariant-loop-next
invariant-loop-next l =
    IsEntered l.changes.entries l.initial.snaps.entries l.snaps.entries l.initial.pairs.keys l.pairs.keys l.initial.links.entries l.links.entries
    × ((id : ℕ) → IsPast l.next id → HasRoom l.snaps.entries l.pairs.keys l.links.entries id (given (value_at nat_cmp id l.changes.entries)))
    × (l.live ≡ live_leaves l.snaps.entries)

abbrev pub decreases-loop-next : goal.decreases-loop-next
decreases-loop-next l = left l.next
