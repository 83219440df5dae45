-- Which ids the records name, as pairs of an id that is named and the id whose record names it.
use Rattle.std.specs.Prelude.{◌≡◌, ℕ, Bool, false, ◌&&◌, ◌||◌, ◌==◌, not, Option, Some, None, List}
use Rattle.std.specs.List.{list_any}
use Rattle.std.specs.BTreeMap.{is_at}
use Rattle.std.specs.declared.cmp.Ordering.{Ordering}
use Rattle.std.specs.Ordering.{nat_cmp, ordering_then}
use Rattle.vol_types.specs.Maps.{value_at}
use Rattle.vol_types.specs.declared.values.Snap.{Snap}
use Rattle.snap_tree.specs.Snaps.{Snaps}

-- pairs of an id that is named and the one that names it, in rising order
abbrev pub Pairs : Type 0
Pairs = List (ℕ × ℕ)

-- by the id that is named, and then by the one that names it
abbrev pub pair_cmp : ℕ × ℕ → ℕ × ℕ → Ordering
pair_cmp a b = ordering_then (nat_cmp a.0 b.0) (nat_cmp a.1 b.1)

-- whether some pairs have that of an id that is named and one that names it
abbrev pub has_pair : Pairs → ℕ → ℕ → Bool
has_pair pairs named namer = list_any (is_at (pair_cmp (named, namer))) pairs

-- whether a record that may be none names an id, as its parent or as a child; 0 stands for none
abbrev pub names : ℕ → Option Snap → Bool
names named None = false
names named (Some snap) = not (named == 0) && (snap.parent == named || snap.first_child == named || snap.second_child == named)

-- The pairs are those of the ids that records name, and no others.
abbrev pub IsIndex : Snaps → Pairs → Type 0
IsIndex snaps pairs = (named namer : ℕ) → has_pair pairs named namer ≡ names named (value_at nat_cmp namer snaps)

-- whether an id is one of some, which rise
abbrev pub has_id : List ℕ → ℕ → Bool
has_id ids id = list_any (is_at (nat_cmp id)) ids
