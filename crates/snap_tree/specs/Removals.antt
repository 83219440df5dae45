-- What the removal of an interior id with one child does to the tree: its child goes under its parent.
use Rattle.std.specs.Prelude.{◌≡◌, ◌<◌, ℕ, ◌==◌, not, Some, List, if◌then◌else◌}
use Rattle.std.specs.List.{filter}
use Rattle.std.specs.Option.{option_map}
use Rattle.std.specs.Ordering.{nat_cmp}
use Rattle.vol_types.specs.Maps.{value_at, with_value, without}
use Rattle.vol_types.specs.declared.values.Snap.{Snap}
use Rattle.snap_tree.specs.Snaps.{Snaps, with_snap}

-- Both ids are there, and the second one alone has the first one, which is not 0, as its parent.
pub record HasOneChild (snaps : Snaps) (id child : ℕ) (interior below : Snap) : Type 0 where
  pub some : 0 < id
  pub found : value_at nat_cmp id snaps ≡ Some interior
  pub child_found : value_at nat_cmp child snaps ≡ Some below
  pub parent : below.parent ≡ id
  pub only : (other : ℕ) (snap : Snap) → value_at nat_cmp other snaps ≡ Some snap → snap.parent ≡ id → other ≡ child

-- the record under another parent
abbrev pub moved_under : ℕ → Snap → Snap
moved_under parent snap = record { parent = parent; first_child = snap.first_child; second_child = snap.second_child; state = snap.state }

-- the record with another child in place of one
abbrev pub with_child : ℕ → ℕ → Snap → Snap
with_child old new snap = record { parent = snap.parent; first_child = (if snap.first_child == old then new else snap.first_child); second_child = (if snap.second_child == old then new else snap.second_child); state = snap.state }

-- the ids without an interior one, whose child has its parent, which names this child in its place
abbrev pub removed_snaps : Snaps → ℕ → ℕ → Snap → Snap → Snaps
removed_snaps snaps id child interior below = without nat_cmp id (with_value nat_cmp child (moved_under interior.parent below) (with_snap interior.parent (option_map (with_child id child) (value_at nat_cmp interior.parent snaps)) snaps))

-- the ids of a list but one
abbrev pub but : ℕ → List ℕ → List ℕ
but id ids = filter (λ other. not (other == id)) ids
