-- The last item of a list, and the one that an iterator takes from its end.
use Rattle.std.proofs.Common.{◌≡◌, ◌-◌, Option, Some, None, List, [], ◌∷◌, ◌++◌, length, refl, sym, ap, ◌∙◌, arith}
use Rattle.std.specs.Prelude.{option_map, slice_get}
use Rattle.std.specs.Map.Iter.{TakesLast}
use Rattle.std.proofs.Math.Seq.{get_or-append_seam}
use Rattle.std.proofs.lemmas.List.{length-append}
use Rattle.std.proofs.lemmas.Option.{slice_get_read}

-- The last of a list that was pushed to is what was pushed.
pub last_pushed : {X : Type 0} (xs : List X) (x : X) → slice_get (xs ++ x ∷ []) (length (xs ++ x ∷ []) - 1) ≡ Some x
last_pushed xs x =
    let at : length (xs ++ x ∷ []) - 1 ≡ length xs = omega (arith, length-append xs (x ∷ [])) in
    ap (λ i. slice_get (xs ++ x ∷ []) i) at
    ∙ slice_get_read (xs ++ x ∷ []) (length (xs ++ x ∷ [])) (length xs) x refl (omega (arith, length-append xs (x ∷ []))) (sym (get_or-append_seam xs x [] x))

-- The item that is taken from the end is the last one.
pub last_taken : {A X : Type 0} (shows : A → X) (values rest : List X) (taken : Option A) → TakesLast shows values taken rest → option_map shows taken ≡ slice_get values (length values - 1)
last_taken shows values rest None none = sym (ap (λ xs. slice_get xs (length xs - 1)) none.0)
last_taken shows values rest (Some x) some = sym (ap (λ xs. slice_get xs (length xs - 1)) some ∙ last_pushed rest (shows x))
