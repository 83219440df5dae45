-- Lists that rise from each member to the next, and those in which each member is below all later ones, are the same.
use Rattle.std.proofs.Common.{List, [], ◌∷◌, Some}
use Rattle.std.specs.Cmp.{IsTotalOrder}
use Rattle.std.specs.List.{AllByRecursion}
use Rattle.std.specs.List.Sorted.{IsStrictlySortedBy}
use Rattle.std.specs.Prelude.{◌≡◌}
use Rattle.std.specs.declared.cmp.Ordering.{Ordering}
use Rattle.std.specs.declared.cmp.Ordering.TheVariants.{Less}
use Rattle.vol_types.specs.Ranges.{RiseFrom, Rise}

module _ {X : Type 0} (cmp : X → X → Ordering) where
  rise_after : (x : X) (xs : List X) → AllByRecursion (λ y. cmp x y ≡ Less) xs → IsStrictlySortedBy cmp xs → RiseFrom cmp (Some x) xs
  unfolding IsStrictlySortedBy
  rise_after x [] above sorted = tt
  rise_after x (y ∷ xs) above sorted = (above.0, rise_after y xs sorted.0 sorted.1)

  -- A list in which each member is below all later ones rises.
  pub Rise-from_sorted : (xs : List X) → IsStrictlySortedBy cmp xs → Rise cmp xs
  unfolding IsStrictlySortedBy
  Rise-from_sorted [] sorted = tt
  Rise-from_sorted (x ∷ xs) sorted = (tt, rise_after x xs sorted.0 sorted.1)

  module _ (total : IsTotalOrder cmp) where
    above_after : (low x : X) (xs : List X) → cmp low x ≡ Less → RiseFrom cmp (Some x) xs → AllByRecursion (λ y. cmp low y ≡ Less) xs
    above_after low x [] less rise = tt
    above_after low x (y ∷ xs) less rise = let above = total.trans low x y less rise.0 in (above, above_after low y xs above rise.1)

    above_first : (x : X) (xs : List X) → RiseFrom cmp (Some x) xs → AllByRecursion (λ y. cmp x y ≡ Less) xs
    above_first x [] rise = tt
    above_first x (y ∷ xs) rise = (rise.0, above_after x y xs rise.0 rise.1)

    sorted_after : (x : X) (xs : List X) → RiseFrom cmp (Some x) xs → IsStrictlySortedBy cmp xs
    unfolding IsStrictlySortedBy
    sorted_after x [] rise = tt
    sorted_after x (y ∷ xs) rise = (above_first y xs rise.1, sorted_after y xs rise.1)

    -- In a list that rises each member is below all later ones.
    pub sorted-from_Rise : (xs : List X) → Rise cmp xs → IsStrictlySortedBy cmp xs
    unfolding IsStrictlySortedBy
    sorted-from_Rise [] rise = tt
    sorted-from_Rise (x ∷ xs) rise = (above_first x xs rise.1, sorted_after x xs rise.1)
