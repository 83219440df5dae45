-- Which value shows at a position in a snapshot: that of the nearest id of its chain that has a key there.
use Rattle.std.specs.Prelude.{ℕ, Option, Some, None, List, [], ◌∷◌}
use Rattle.std.specs.Option.{option_or}
use Rattle.snap_tree.specs.Snaps.{Snaps, chain_of, chain_of_maybe, parent_of, snaps_in}
use Rattle.vol_types.specs.KeyMaps.{KeyMap, keys_in, value_in}
use Rattle.vol_types.specs.declared.positions.Btree.{Btree}
use Rattle.vol_types.specs.declared.values.Value.{Value}
use Rattle.vol_types.specs.declared.values.Value.TheVariants.{White}

-- the records of the snapshot ids of a key map
abbrev pub snaps_of : KeyMap → Snaps
snaps_of keys = snaps_in (keys_in keys.snapshots)

-- the value that one id itself has there
abbrev pub own_value : KeyMap → Btree → ℕ → ℕ → ℕ → Option Value
own_value keys btree inode offset id = value_in keys btree (record { inode = inode; offset = offset; snapshot = id })

-- the value of the first of these ids that has one
abbrev pub first_value : KeyMap → Btree → ℕ → ℕ → List ℕ → Option Value
first_value keys btree inode offset [] = None
first_value keys btree inode offset (id ∷ ids) = option_or (own_value keys btree inode offset id) (first_value keys btree inode offset ids)

-- what a value shows, which is nothing where it is a whiteout
abbrev pub shown : Option Value → Option Value
shown (Some White) = None
shown other = other

-- the value that shows in an id
abbrev pub visible : KeyMap → Btree → ℕ → ℕ → ℕ → Option Value
visible keys btree inode offset id = shown (first_value keys btree inode offset (chain_of (snaps_of keys) id))

-- the value that shows in the parent of an id; none where it has none
abbrev pub visible_above : KeyMap → Btree → ℕ → ℕ → ℕ → Option Value
visible_above keys btree inode offset id = shown (first_value keys btree inode offset (chain_of_maybe (snaps_of keys) (parent_of (snaps_of keys) id)))
