-- Which kinds of keys stand where in a btree, and which updates may be made.
use Rattle.std.specs.Prelude.{◌≡◌, ℕ, ◌<◌, Bool, List, [], ◌∷◌, Option, Some, None, ⊤, if◌then◌else◌, ◌==◌, nat_eq}
use Rattle.std.specs.List.{list_any}
use Rattle.vol_types.specs.declared.keys.Update.{Update}
use Rattle.vol_types.specs.declared.positions.Btree.{Btree}
use Rattle.vol_types.specs.declared.values.Value.{Value}
use Rattle.vol_types.specs.Ranges.{IsKeyValue}
use Rattle.vol_types.specs.Values.{kind_of, kinds_in, IsKindOf}

-- A value in the leaves, which are level 0, is of one of the btree's kinds, and one above them is a node.
pub record MayStand (btree : Btree) (level : ℕ) (value : Value) : Type 0 where
  pub in_leaf : level ≡ 0 → IsKindOf btree (kind_of value)
  pub above : 0 < level → kind_of value ≡ 12

-- A key with this value may stand there, and so may one that is removed.
abbrev pub Stands : Btree → ℕ → Option Value → Type 0
Stands btree level None = ⊤
Stands btree level (Some value) = MayStand btree level value

-- the kinds of values at a level of a btree
abbrev pub kinds_at : Btree → ℕ → List ℕ
kinds_at btree level = if level == 0 then kinds_in btree else 12 ∷ []

-- whether a key of this kind may stand there; kind 0 is that of a key that is removed
unfoldable pub stands : Btree → ℕ → ℕ → Bool
stands btree level kind = list_any (nat_eq kind) (0 ∷ kinds_at btree level)

-- The update's key may stand where it is put, and its value is in range.
pub record IsUpdate (update : Update) : Type 0 where
  pub stands : Stands update.btree update.level update.value
  pub in_range : IsKeyValue update.value
