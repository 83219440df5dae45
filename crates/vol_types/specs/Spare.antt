-- A list with the room that it has.
use Rattle.std.specs.Prelude.{ℕ, List}

-- the members of a list, and how many more it takes without memory
pub record Spare (T : Type 0) : Type 0 where
  pub members : List T
  pub spare : ℕ
