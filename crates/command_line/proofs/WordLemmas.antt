-- Tests of arguments after references.
use Rattle.std.proofs.Common.{◌≡◌, ◌||◌, Bool, List, [], ◌∷◌, map, refl, ap}
use Rattle.std.specs.List.{list_any}

-- what holds of one of the mapped elements
pub any_of_mapped : {X Y : Type 0} (p : Y → Bool) (f : X → Y) (xs : List X) → list_any (λ x. p (f x)) xs ≡ list_any p (map f xs)
any_of_mapped p f [] = refl
any_of_mapped p f (x ∷ xs) = ap (λ b. p (f x) || b) (any_of_mapped p f xs)
