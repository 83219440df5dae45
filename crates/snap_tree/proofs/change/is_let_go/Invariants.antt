use Rattle.std.proofs.Common.{◌≡◌, ◌<◌, ◌^◌, ℕ, true}
use Rattle.std.specs.Prelude.{IsSome, IfSome}
use Rattle.std.specs.Ordering.{nat_cmp}
use Rattle.vol_types.specs.Maps.{value_at}
use Rattle.snap_tree.specs.Names.{has_pair}
use Rattle.snap_tree.specs.Links.{IsPast}
use Rattle.snap_tree.proofs.Cursors.{left}
use Rattle.snap_tree.proofs.change.is_let_go.Given as goal

abbrev pub invariant-loop-next : goal.invariant-loop-next
invariant-loop-next l =
    ((namer : ℕ) → namer < 2 ^ 32 → IsPast l.next namer → has_pair l.pairs.keys l.id namer ≡ true → IsSome (value_at nat_cmp namer l.changes.entries)) × IfSome l.next (λ namer. has_pair l.pairs.keys l.id namer ≡ true)

abbrev pub decreases-loop-next : goal.decreases-loop-next
decreases-loop-next l = left l.next
