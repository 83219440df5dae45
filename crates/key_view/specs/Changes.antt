-- How an id comes to see a value at a position, or none: the updates of its own key there, and what stays.
use Rattle.std.specs.Prelude.{◌≡◌, ℕ, Bool, false, Option, Some, None, is_some, List, [], ◌∷◌, if◌then◌else◌}
use Rattle.key_meaning.specs.Visible.{own_value, snaps_of, visible, visible_above}
use Rattle.snap_tree.specs.Snaps.{is_ancestor_of}
use Rattle.vol_types.specs.KeyMaps.{KeyMap}
use Rattle.vol_types.specs.declared.keys.Update.{Update}
use Rattle.vol_types.specs.declared.positions.Btree.{Btree}
use Rattle.vol_types.specs.declared.values.Value.{Value}
use Rattle.vol_types.specs.declared.values.Value.TheVariants.{White}

-- the update of the key that an id has at a position
abbrev pub own_update : Btree → ℕ → ℕ → ℕ → Option Value → Update
own_update btree inode offset id value = record {
  btree = btree;
  level = 0;
  pos = record { inode = inode; offset = offset; snapshot = id };
  value = value;
}

-- whether a whiteout is needed for an id to see nothing at a position: its parent sees a value there
abbrev pub needs_whiteout : KeyMap → Btree → ℕ → ℕ → ℕ → Bool
needs_whiteout keys btree inode offset id = is_some (visible_above keys btree inode offset id)

-- the updates after which an id sees nothing at a position: a whiteout where one is needed, else its own key goes, if it
-- has one
abbrev pub removal : KeyMap → Btree → ℕ → ℕ → ℕ → List Update
removal keys btree inode offset id =
    if needs_whiteout keys btree inode offset id then own_update btree inode offset id (Some White) ∷ []
    else if is_some (own_value keys btree inode offset id) then own_update btree inode offset id None ∷ []
    else []

-- the updates after which an id sees this value at a position, or none
abbrev pub updates_to_see : KeyMap → Btree → ℕ → ℕ → ℕ → Option Value → List Update
updates_to_see keys btree inode offset id (Some value) = own_update btree inode offset id (Some value) ∷ []
updates_to_see keys btree inode offset id None = removal keys btree inode offset id

-- The id sees this value at the position in the new key map, and all else that is seen stays: what the id sees elsewhere, and
-- what ids see whose chains don't have it.
pub record SeesThere (old new : KeyMap) (btree : Btree) (inode offset id : ℕ) (value : Option Value) : Type 0 where
  pub here : visible new btree inode offset id ≡ value
  pub elsewhere : (b : Btree) (i o : ℕ) → ¬ ((b ≡ btree) × (i ≡ inode) × (o ≡ offset)) → visible new b i o id ≡ visible old b i o id
  pub others : (other : ℕ) → is_ancestor_of (snaps_of old) id other ≡ false → (b : Btree) (i o : ℕ) → visible new b i o other ≡ visible old b i o other
  pub ids : snaps_of new ≡ snaps_of old
