use Rattle.std.proofs.Common.{ℕ}
use Rattle.std.specs.Prelude.{IsSome}
use Rattle.std.specs.Ordering.{nat_cmp}
use Rattle.vol_types.specs.Maps.{value_at}
use Rattle.snap_tree.specs.Links.{HasLinks, HaveSameIds, IsPast}
use Rattle.snap_tree.proofs.Cursors.{left}
use Rattle.snap_tree.proofs.links.link_all.Given as goal

abbrev pub invariant-loop-next : goal.invariant-loop-next
invariant-loop-next l =
    ((id : ℕ) → IsPast l.next id → IsSome (value_at nat_cmp id l.snaps.entries) → HasLinks l.snaps.entries l.links.entries id) × HaveSameIds l.snaps.entries l.links.entries

abbrev pub decreases-loop-next : goal.decreases-loop-next
decreases-loop-next l = left l.next
