-- What is made of a list place by place, and what the first members give that can.
use Rattle.std.specs.Prelude.{ℕ, zero, suc, Option, None, Some, List, [], ◌∷◌}

-- each member changed by a function of its place, where the first one's place is given
abbrev pub each_from : {X Y : Type 0} → (ℕ → X → Y) → ℕ → List X → List Y
each_from f at [] = []
each_from f at (x ∷ xs) = f at x ∷ each_from f (suc at) xs

-- each member changed by a function of its place
abbrev pub each_place : {X Y : Type 0} → (ℕ → X → Y) → List X → List Y
each_place f xs = each_from f 0 xs

-- the first so many members changed, each by its place, where the first one's place is given
abbrev pub partly_from : {X : Type 0} → (ℕ → X → X) → ℕ → ℕ → List X → List X
partly_from f at zero xs = xs
partly_from f at (suc count) [] = []
partly_from f at (suc count) (x ∷ xs) = f at x ∷ partly_from f (suc at) count xs

-- the first so many members changed, each by its place
abbrev pub partly : {X : Type 0} → (ℕ → X → X) → ℕ → List X → List X
partly f count xs = partly_from f 0 count xs

-- what was given, and the members afterwards
pub record Picked (G X : Type 0) : Type 0 where
  pub given : List G
  pub left : List X

-- a first member that gives something or nothing, before what the later ones give in each of these cases
abbrev pub with_pick : {G X : Type 0} → Option (G × X) → X → Picked G X → Picked G X → Picked G X
with_pick None x none some = record { given = none.given; left = x ∷ none.left }
with_pick (Some pick) x none some = record { given = pick.0 ∷ some.given; left = pick.1 ∷ some.left }

-- what the first so many members give that give something, each by a function of its place, where the first one's place
-- is given
abbrev pub picked_from : {G X : Type 0} → (ℕ → X → Option (G × X)) → ℕ → ℕ → List X → Picked G X
picked_from pick at count [] = record { given = []; left = [] }
picked_from pick at zero (x ∷ xs) = record { given = []; left = x ∷ xs }
picked_from pick at (suc count) (x ∷ xs) = with_pick (pick at x) x (picked_from pick (suc at) (suc count) xs) (picked_from pick (suc at) count xs)

-- the list with the member at a place changed, where there is one
abbrev pub changed : {X : Type 0} → (X → X) → ℕ → List X → List X
changed f at [] = []
changed f zero (x ∷ xs) = f x ∷ xs
changed f (suc at) (x ∷ xs) = x ∷ changed f at xs
