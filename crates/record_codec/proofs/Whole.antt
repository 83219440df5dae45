-- Bytes that are read to their end.
use Rattle.std.proofs.Common.{◌≡◌, ℕ, List, [], ◌∷◌, ◌++◌, Result, Ok, Err, refl, sym, ap, subst, ◌∙◌, append-nil}
use Rattle.std.specs.Prelude.{IfOk}
use Rattle.vol_types.specs.Widths.{AreBytes}
use Rattle.key_codec.specs.Exact.{IsExactBut}
use Rattle.key_codec.specs.Formats.{FormatOf, ◌>>=◌}
use Rattle.key_codec.specs.Combined.{bind_ok}
use Rattle.record_codec.specs.declared.fault.RecordFault.{RecordFault}
use Rattle.record_codec.specs.declared.fault.RecordFault.TheVariants.{Short}
use Rattle.record_codec.specs.Reading.{Gives}
use Rattle.record_codec.specs.Sets.{all_read}

nothing_left : {A : Type 0} (x y : A) (rest : List ℕ) → all_read (x, rest) ≡ Ok y → (x ≡ y) × (rest ≡ [])
nothing_left x y [] e = let same : x ≡ y = cc in (same, refl)
nothing_left x y (b ∷ rest) e = absurd cc

-- What is read to its end fits, and the bytes are its encoding.
pub whole_found : {A : Type 0} (Fits : A → Type 0) (format : FormatOf RecordFault A) → IsExactBut Short Fits format → (bytes : List ℕ) (result : Result A RecordFault) → AreBytes bytes
    → Gives (λ x. x) result (format.read bytes >>= all_read) → IfOk result (λ x. Fits x × (bytes ≡ format.encode x))
whole_found {A = A} Fits format exact bytes (Ok x) are e =
    let b = bind_ok (format.read bytes) all_read x e in
    let left = nothing_left b.0.0 x b.0.1 b.2 in
    let f = exact.found bytes b.0.0 b.0.1 are b.1 in
    let encoded : bytes ≡ format.encode b.0.0 = f.1 ∙ ap (λ r. format.encode b.0.0 ++ r) left.1 ∙ append-nil (format.encode b.0.0) in
    subst (λ (y : A). Fits y × (bytes ≡ format.encode y)) left.0 (f.0, encoded)
whole_found Fits format exact bytes (Err fault) are e = tt

-- What fits is read from its encoding.
pub whole_again : {A : Type 0} (Fits : A → Type 0) (format : FormatOf RecordFault A) → IsExactBut Short Fits format → (x : A) → Fits x → (format.read (format.encode x) >>= all_read) ≡ Ok x
whole_again Fits format exact x fits = ap (λ b. format.read b >>= all_read) (sym (append-nil (format.encode x))) ∙ ap (λ r. r >>= all_read) (exact.only x [] fits)
