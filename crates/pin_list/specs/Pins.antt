-- What pins mean: each pinned node holds back the journal from one sequence number on.
use Rattle.std.specs.Prelude.{◌≡◌, ℕ, ◌+◌, ◌≤◌, length, min, Option, Some, None, List, [], ◌∷◌}
use Rattle.std.specs.Ordering.{nat_cmp}
use Rattle.vol_types.specs.Maps.{IsMap, value_at, with_value}

-- the pinned nodes in rising order, each with the number that it pins, and for how many more nodes there is room
pub record Pins : Type 0 where
  pub numbers : List (ℕ × ℕ)
  pub spare : ℕ

-- the smaller of a number and the one that was there, if there was one
abbrev pub smaller : ℕ → Option ℕ → ℕ
smaller seq None = seq
smaller seq (Some before) = min seq before

-- the numbers with a node pinned at a number, or at its own where that is smaller
abbrev pub with_pin : ℕ → ℕ → List (ℕ × ℕ) → List (ℕ × ℕ)
with_pin node seq numbers = with_value nat_cmp node (smaller seq (value_at nat_cmp node numbers)) numbers

-- the least number that a node pins, if one is pinned
abbrev pub least_pin : List (ℕ × ℕ) → Option ℕ
least_pin [] = None
least_pin (pin ∷ pins) = Some (smaller pin.1 (least_pin pins))

-- The number is the oldest pin: a node pins it, and none pins a smaller one.
pub record IsOldest (numbers : List (ℕ × ℕ)) (oldest : ℕ) : Type 0 where
  pub node : ℕ
  pub pinned : value_at nat_cmp node numbers ≡ Some oldest
  pub least : (n seq : ℕ) → value_at nat_cmp n numbers ≡ Some seq → oldest ≤ seq

-- What a list of pins keeps: its nodes rise, it knows how many there are, and the list of spare places has room for all.
pub record IsKept (numbers : List (ℕ × ℕ)) (len spare room : ℕ) : Type 0 where
  pub rises : IsMap nat_cmp numbers
  pub counts : len ≡ length numbers
  pub fits : len + spare ≤ room
