-- The records of snapshot ids after a new root and after a leaf has died; those after a split stand with the trees themselves.
use Rattle.std.specs.Prelude.{◌≡◌, ℕ, Some, [], ◌∷◌, List}
use Rattle.std.specs.Ordering.{nat_cmp}
use Rattle.key_meaning.specs.Checks.{IsJoined}
use Rattle.snap_tree.specs.Snaps.{Snaps}
use Rattle.snap_tree.specs.Splits.{interior_over, leaf_under, snap_update}
use Rattle.vol_types.specs.Maps.{value_at, with_value}
use Rattle.vol_types.specs.declared.keys.Update.{Update}
use Rattle.vol_types.specs.declared.values.Snap.{Snap}
use Rattle.vol_types.specs.declared.values.SnapState.TheVariants.{DeadLeaf}

-- Each id is joined to its parent and its children.
abbrev pub AreJoined : Snaps → Type 0
AreJoined snaps = (id : ℕ) (snap : Snap) → value_at nat_cmp id snaps ≡ Some snap → IsJoined snaps id snap

-- the ids with a further one, which is a live leaf and has no parent
abbrev pub with_root : ℕ → Snaps → Snaps
with_root id snaps = with_value nat_cmp id (leaf_under 0) snaps

-- the record of a leaf that is dead
abbrev pub dead : Snap → Snap
dead leaf = record leaf { state = DeadLeaf }

-- the ids after a leaf has died, which stays where it is
abbrev pub with_dead : ℕ → Snap → Snaps → Snaps
with_dead id leaf snaps = with_value nat_cmp id (dead leaf) snaps

-- the updates that split a leaf: it becomes interior, over a greater new id and a smaller one
abbrev pub split_updates : ℕ → ℕ → ℕ → Snap → List Update
split_updates id greater smaller leaf = snap_update id (interior_over greater smaller leaf) ∷ snap_update greater (leaf_under id) ∷ snap_update smaller (leaf_under id) ∷ []
