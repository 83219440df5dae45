-- What the ranges of a map in memory give.
use Rattle.std.proofs.Common.{◌≡◌, Bool, true, false, cond, not, ◌&&◌, Option, Some, None, List, [], ◌∷◌, refl, sym, ap}
use Rattle.std.specs.Prelude.{option_map, slice_get}
use Rattle.std.specs.List.{filter}
use Rattle.std.specs.Map.Iter.{TakesFirst}
use Rattle.std.specs.Ordering.{is_le}
use Rattle.std.proofs.lemmas.List.Elements.{filter_agree}
use Rattle.vol_types.specs.Positions.{pos_cmp}
use Rattle.vol_types.specs.declared.positions.Pos.{Pos}

-- the item that is taken from the front is the first one
pub first_taken : {A X : Type 0} (shows : A → X) (values rest : List X) (taken : Option A) → TakesFirst shows values taken rest → option_map shows taken ≡ slice_get values 0
first_taken shows values rest None none = sym (ap (λ xs. slice_get xs 0) none.0)
first_taken shows values rest (Some x) some = sym (ap (λ xs. slice_get xs 0) some)

and_true : (b : Bool) → (b && true) ≡ b
and_true true = refl
and_true false = refl

-- entries from a position on
pub from-range : {X : Type 0} (pos : Pos) (entries : List (Pos × X)) → filter (λ e. is_le (pos_cmp pos e.0) && true) entries ≡ filter (λ e. is_le (pos_cmp pos e.0)) entries
from-range pos entries = filter_agree (λ e. is_le (pos_cmp pos e.0) && true) (λ e. is_le (pos_cmp pos e.0)) (λ e. and_true (is_le (pos_cmp pos e.0))) entries

-- nothing passes a test and its opposite
pub none_pass : {X : Type 0} (test : X → Bool) (xs : List X) → filter (λ x. test x && not (test x)) xs ≡ []
none_pass test [] = refl
none_pass test (x ∷ xs) = by (test x) (none_pass test xs)
  where
    by : (b : Bool) → filter (λ x. test x && not (test x)) xs ≡ [] → cond (b && not b) (x ∷ filter (λ x. test x && not (test x)) xs) (filter (λ x. test x && not (test x)) xs) ≡ []
    by true later = later
    by false later = later
