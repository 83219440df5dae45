use Rattle.std.proofs.Common.{◌≡◌, ℕ, true}
use Rattle.std.specs.Ordering.{nat_cmp}
use Rattle.vol_types.specs.Maps.{value_at}
use Rattle.snap_tree.specs.Names.{has_pair, names}
use Rattle.snap_tree.specs.Links.{IsPast}
use Rattle.snap_tree.proofs.Cursors.{left}
use Rattle.snap_tree.proofs.names.names_of.Given as goal

abbrev pub invariant-loop-next : goal.invariant-loop-next
invariant-loop-next l =
    ((named namer : ℕ) → has_pair l.pairs.keys named namer ≡ true → names named (value_at nat_cmp namer l.snaps.entries) ≡ true) × ((namer : ℕ) → IsPast l.next namer → (named : ℕ) → names named (value_at nat_cmp namer l.snaps.entries) ≡ true → has_pair l.pairs.keys named namer ≡ true)

abbrev pub decreases-loop-next : goal.decreases-loop-next
decreases-loop-next l = left l.next
