use Rattle.std.proofs.Common.{◌≡◌, ℕ}
use Rattle.std.specs.Ordering.{nat_cmp}
use Rattle.vol_types.specs.Maps.{IsMap, value_at}
use Rattle.snap_tree.specs.Snaps.{live_leaves}
use Rattle.snap_tree.specs.Names.{has_pair}
use Rattle.snap_tree.specs.Links.{IsPast}
use Rattle.snap_tree.specs.Changes.{SettledAt}
use Rattle.snap_tree.proofs.Cursors.{left}
use Rattle.snap_tree.proofs.settle.settle.Given as goal

abbrev pub invariant-loop-next : goal.invariant-loop-next
invariant-loop-next l = record {
  rises : IsMap nat_cmp l.snaps.entries;
  live : l.live ≡ live_leaves l.snaps.entries;
  settled : (id : ℕ) → IsPast l.next id → SettledAt l.forth l.initial.snaps.entries l.snaps.entries l.initial.pairs.keys l.pairs.keys l.initial.links.entries l.links.entries id (value_at nat_cmp id l.changes.entries);
  records : (id : ℕ) → (IsPast l.next id → ⊥) → value_at nat_cmp id l.snaps.entries ≡ value_at nat_cmp id l.initial.snaps.entries;
  pairs : (named id : ℕ) → (IsPast l.next id → ⊥) → has_pair l.pairs.keys named id ≡ has_pair l.initial.pairs.keys named id;
  links : (id : ℕ) → (IsPast l.next id → ⊥) → value_at nat_cmp id l.links.entries ≡ value_at nat_cmp id l.initial.links.entries;
}

abbrev pub decreases-loop-next : goal.decreases-loop-next
decreases-loop-next l = left l.next
