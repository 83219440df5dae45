-- Which arguments the code refuses before clap reads them. What the arguments mean doesn't rest on this.
use Rattle.std.specs.Prelude.{ℕ, ◌==◌, ◌&&◌, Bool, false, not, List, [], ◌∷◌}

-- the argument begins with a hyphen, but not with two hyphens and a name: `-`, `--`, `-x`
abbrev pub is_stray : List ℕ → Bool
is_stray [] = false
is_stray (first ∷ []) = first == 45
is_stray (first ∷ second ∷ []) = first == 45
is_stray (first ∷ second ∷ third ∷ rest) = first == 45 && not (second == 45)
