-- What a snapshot does to the tree of ids: the live leaf becomes interior, with two new leaves under it.
use Rattle.std.specs.Prelude.{◌≡◌, ◌≢◌, ℕ, ◌-◌, ◌<◌, ◌≤◌, false, Some, None, [], ◌∷◌, ⊤}
use Rattle.std.specs.Ordering.{nat_cmp}
use Rattle.vol_types.specs.Maps.{value_at, with_value}
use Rattle.vol_types.specs.declared.keys.Update.{Update}
use Rattle.vol_types.specs.declared.positions.Btree.TheVariants.{Snapshots}
use Rattle.vol_types.specs.declared.values.Snap.{Snap}
use Rattle.vol_types.specs.declared.values.SnapState.TheVariants.{LiveLeaf, Interior}
use Rattle.vol_types.specs.declared.values.Value.TheVariants as values
use Rattle.snap_tree.specs.Snaps.{Snaps, are_trees}
use Rattle.snap_tree.specs.declared.fault.SnapFault.{SnapFault}
use Rattle.snap_tree.specs.declared.fault.SnapFault.TheVariants.{NoNode, NotLeaf, IdsSpent, NoMemory}
use Rattle.snap_tree.specs.declared.split.Split.{Split}

-- the update that gives an id its record
abbrev pub snap_update : ℕ → Snap → Update
snap_update id snap = record { btree = Snapshots; level = 0; pos = record { inode = 0; offset = id; snapshot = 0 }; value = Some (values.Snap snap) }

-- the record of a live leaf under a parent
abbrev pub leaf_under : ℕ → Snap
leaf_under parent = record { parent = parent; first_child = 0; second_child = 0; state = LiveLeaf }

-- the record of a leaf that has become interior, over two children
abbrev pub interior_over : ℕ → ℕ → Snap → Snap
interior_over first second snap = record { parent = snap.parent; first_child = first; second_child = second; state = Interior }

-- the ids after a leaf was split, where the greater one of the new ids is this
abbrev pub split_snaps : Snaps → ℕ → ℕ → Snap → Snaps
split_snaps snaps id next leaf = with_value nat_cmp (next - 1) (leaf_under id) (with_value nat_cmp next (leaf_under id) (with_value nat_cmp id (interior_over next (next - 1) leaf) snaps))

-- The live leaf is split: the source goes on in the greater of two new ids, and the copy in the smaller one.
pub record IsSplit (snaps : Snaps) (id next : ℕ) (split : Split) : Type 0 where
  pub leaf : Snap
  pub found : value_at nat_cmp id snaps ≡ Some leaf
  pub live : leaf.state ≡ LiveLeaf
  pub left : 2 ≤ next
  pub source : split.source ≡ next
  pub copy : split.copy ≡ next - 1
  pub updates : split.updates ≡ snap_update id (interior_over next (next - 1) leaf) ∷ snap_update next (leaf_under id) ∷ snap_update (next - 1) (leaf_under id) ∷ []

-- The id is there, and no live leaf.
pub record IsNoLeaf (snaps : Snaps) (id : ℕ) : Type 0 where
  pub snap : Snap
  pub found : value_at nat_cmp id snaps ≡ Some snap
  pub other : snap.state ≢ LiveLeaf

-- When a leaf isn't split: fewer than two ids are left, or else the id is missing or no live leaf.
abbrev pub SplitFails : Snaps → ℕ → ℕ → SnapFault → Type 0
SplitFails snaps id next IdsSpent = next < 2
SplitFails snaps id next NoNode = (2 ≤ next) × (value_at nat_cmp id snaps ≡ None)
SplitFails snaps id next NotLeaf = (2 ≤ next) × IsNoLeaf snaps id
SplitFails snaps id next NoMemory = ⊤

-- When keys make no trees.
abbrev pub TreesFail : Snaps → SnapFault → Type 0
TreesFail snaps NoNode = are_trees snaps ≡ false
TreesFail snaps NotLeaf = ⊥
TreesFail snaps IdsSpent = ⊥
TreesFail snaps NoMemory = ⊤

-- When a chain isn't had: the id is missing.
abbrev pub ChainFails : Snaps → ℕ → SnapFault → Type 0
ChainFails snaps id NoNode = value_at nat_cmp id snaps ≡ None
ChainFails snaps id NotLeaf = ⊥
ChainFails snaps id IdsSpent = ⊥
ChainFails snaps id NoMemory = ⊤
