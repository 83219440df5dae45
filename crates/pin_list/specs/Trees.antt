-- What a search tree of pins is seen as, and what holds of it.
use Rattle.std.specs.Prelude.{◌≡◌, ℕ, zero, suc, ◌+◌, ◌≤◌, max, length, Option, Some, None, List, [], ◌∷◌, ◌++◌, Box}
use Rattle.std.specs.declared.alloc.Global.{Global}
use Rattle.pin_list.specs.Pins.{least_pin}
use Rattle.pin_list.specs.declared.tree.Fork.{Fork}

-- the pins of a fork and its sides, in the order of the nodes
abbrev pub pins_of : Fork → List (ℕ × ℕ)
pins_of fork = fork.left.0 ++ (fork.node, fork.seq) ∷ fork.right.0

-- the pins of a tree, and its height
abbrev pub shape_of : Option (Box Fork Global) → List (ℕ × ℕ) × ℕ
shape_of None = ([], 0)
shape_of (Some fork) = (pins_of fork.value, fork.value.height)

-- the fewest pins that a tree of so many levels has, where each fork's sides differ by at most one level: they grow as the numbers of
-- Fibonacci
unfoldable pub fewest : ℕ → ℕ
fewest zero = 0
fewest (suc zero) = 1
fewest (suc (suc height)) = suc (fewest (suc height) + fewest height)

-- The sides of a fork differ in height by at most so much, and each has as many pins as its height asks for.
pub record AreSides (by : ℕ) (fork : Fork) : Type 0 where
  pub lower : fork.left.1 ≤ fork.right.1 + by
  pub higher : fork.right.1 ≤ fork.left.1 + by
  pub left : fewest fork.left.1 ≤ length fork.left.0
  pub right : fewest fork.right.1 ≤ length fork.right.0

-- A fork knows its height and the least number at and under it, and its sides differ by at most one level.
pub record IsBalanced (fork : Fork) : Type 0 where
  pub sides : AreSides 1 fork
  pub height : fork.height ≡ max fork.left.1 fork.right.1 + 1
  pub least : Some fork.least ≡ least_pin (pins_of fork)

-- A tree is empty, or its fork is balanced.
abbrev pub IsTree : Option (Box Fork Global) → Type 0
IsTree None = Unit {0}
IsTree (Some fork) = IsBalanced fork.value

-- The height of a tree that is made of sides whose heights differ by two at most: one more than the higher side, or as much as it
-- where they differ by two.
pub record IsMended (left right height : ℕ) : Type 0 where
  pub least : max left right ≤ height
  pub most : height ≤ max left right + 1
  pub even : left ≤ right + 1 → right ≤ left + 1 → height ≡ max left right + 1

-- A tree is cut into its first pin, which a fork has, and the tree of the others.
pub record IsCut (whole : List (ℕ × ℕ) × ℕ) (first : Fork) (rest : List (ℕ × ℕ) × ℕ) : Type 0 where
  pub pins : whole.0 ≡ (first.node, first.seq) ∷ rest.0
  pub least : whole.1 ≤ rest.1 + 1
  pub most : rest.1 ≤ whole.1
  pub low : fewest rest.1 ≤ length rest.0
