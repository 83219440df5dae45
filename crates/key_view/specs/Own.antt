-- The keys that ids have of their own at one position, from some id upwards.
use Rattle.std.specs.Prelude.{◌≡◌, ◌==◌, ℕ, ◌<◌, ◌≤◌, Bool, ◌&&◌, not, nat_lt, Option, Some, None, option_map, if◌then◌else◌}
use Rattle.key_meaning.specs.Visible.{own_value}
use Rattle.vol_types.specs.KeyMaps.{KeyMap}
use Rattle.vol_types.specs.declared.keys.Key.{Key}
use Rattle.vol_types.specs.declared.positions.Btree.{Btree}
use Rattle.vol_types.specs.declared.positions.Pos.{Pos}
use Rattle.vol_types.specs.declared.values.Value.{Value}

-- No id from the first number up to the second one, itself left out, has a key there.
abbrev pub HaveNone : KeyMap → Btree → ℕ → ℕ → ℕ → ℕ → Type 0
HaveNone keys btree inode offset from end = (id : ℕ) → from ≤ id → id < end → own_value keys btree inode offset id ≡ None

-- The id with its value is the first from a number on that has a key there.
pub record IsFirstOwn (keys : KeyMap) (btree : Btree) (inode offset from : ℕ) (own : ℕ × Value) : Type 0 where
  pub value : own_value keys btree inode offset own.0 ≡ Some own.1
  pub none_before : HaveNone keys btree inode offset from own.0

-- The id with its value is the first from a number on that has a key there, or no such id has one.
abbrev pub IsNextOwn : KeyMap → Btree → ℕ → ℕ → ℕ → Option (ℕ × Value) → Type 0
IsNextOwn keys btree inode offset from None = (id : ℕ) → from ≤ id → own_value keys btree inode offset id ≡ None
IsNextOwn keys btree inode offset from (Some own) = IsFirstOwn keys btree inode offset from own

-- whether a key stands at the inode and the offset of a position, at its id or a greater one
abbrev pub stands_above : Pos → Pos → Bool
stands_above from pos = pos.inode == from.inode && pos.offset == from.offset && not (nat_lt pos.snapshot from.snapshot)

-- the id of a key with its value, where it stands so
abbrev pub own_of : Key → Pos → Option (ℕ × Value)
own_of key from = if stands_above from key.pos then option_map (λ value. (key.pos.snapshot, value)) key.value else None
