-- Which keys may be written as a set of a node.
use Rattle.std.specs.Prelude.{ℕ, ◌<◌, ◌^◌, List, length, map, All}
use Rattle.vol_types.specs.Positions.{pos_cmp, IsWithin}
use Rattle.vol_types.specs.Ranges.{Rise, IsKeyValue}
use Rattle.vol_types.specs.Standing.{Stands}
use Rattle.vol_types.specs.declared.keys.Key.{Key}
use Rattle.vol_types.specs.declared.positions.Btree.{Btree}
use Rattle.vol_types.specs.declared.positions.Pos.{Pos}

-- The keys of a set rise and fit 32 bits in number, and each is covered by the node, may stand in the btree at the node's level, and has a value in range, if it has one.
pub record AreSetKeys (btree : Btree) (level : ℕ) (least greatest : Pos) (keys : List Key) : Type 0 where
  pub few : length keys < 2 ^ 32
  pub rise : Rise pos_cmp (map (λ key. key.pos) keys)
  pub covered : All (λ key. IsWithin least greatest key.pos) keys
  pub stand : All (λ key. Stands btree level key.value) keys
  pub in_range : All (λ key. IsKeyValue key.value) keys
