use Rattle.std.proofs.Common.{◌≡◌, ◌<◌, ◌^◌, ℕ, true}
use Rattle.std.specs.Prelude.{◌⊎◌}
use Rattle.snap_tree.specs.Names.{has_id, has_pair}
use Rattle.snap_tree.specs.Links.{IsPast}
use Rattle.snap_tree.specs.Changes.{IsChildOf}
use Rattle.snap_tree.proofs.Cursors.{left}
use Rattle.snap_tree.proofs.stale.add_children.Given as goal

abbrev pub invariant-loop-next : goal.invariant-loop-next
invariant-loop-next l =
    ((id : ℕ) → IsPast l.next id → id < 2 ^ 32 → has_pair l.pairs.keys l.parent id ≡ true → IsChildOf l.snaps.entries l.parent id → has_id l.ids.keys id ≡ true)
    × ((id : ℕ) → has_id l.initial.ids.keys id ≡ true → has_id l.ids.keys id ≡ true)
    × ((id : ℕ) → has_id l.ids.keys id ≡ true → (has_id l.initial.ids.keys id ≡ true) ⊎ IsChildOf l.snaps.entries l.parent id)

abbrev pub decreases-loop-next : goal.decreases-loop-next
decreases-loop-next l = left l.next
