-- The early end that a call hands on, and the arguments.
use Rattle.std.proofs.Common.{◌≡◌, ◌<◌, ◌≤◌, List, [], ◌∷◌, Result, Ok, Err, IfErr, OnErr, length, map, slice_index_or, ap, sym, subst, arith}
use Rattle.std.specs.Result.{IsErrAnd}

-- what holds of an error holds of a result that hands it on
pub handed_on : {T E : Type 0} (result : Result T E) (P : E → Type 0) (error : E) → IsErrAnd result (λ e. e ≡ error) → P error → IfErr result P
handed_on (Ok value) P error is holds = absurd is
handed_on (Err e) P error is holds = subst P (sym is) holds

-- what holds holds where a result is an error
pub handed_on_err : {T E P : Type 0} (result : Result T E) → P → OnErr result P
handed_on_err (Ok value) holds = tt
handed_on_err (Err e) holds = holds

-- a list with one item is mapped to the one image
pub one_mapped : {T X : Type 0} (f : T → X) (items : List T) (item : T) → 1 ≤ length items → length items < 2 → item ≡ slice_index_or items 0 item → map f items ≡ f item ∷ []
one_mapped f [] item some one is = absurd (omega (arith, some))
one_mapped f (first ∷ []) item some one is = ap (λ x. f x ∷ []) (sym is)
one_mapped f (first ∷ second ∷ items) item some one is = absurd (omega (arith, one))
