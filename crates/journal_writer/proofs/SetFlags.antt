-- Flags that are set one after the other.
use Rattle.std.proofs.Common.{◌≡◌, ℕ, zero, suc, ◌<◌, Bool, true, List, [], ◌∷◌, length, slice_set, refl, ap, arith}
use Rattle.journal_writer.specs.Writers.{with_flags}

-- With one more flag set, one more of the first ones is.
pub set_next : (count : ℕ) (flags : List Bool) → count < length flags → slice_set (with_flags count flags) count true ≡ with_flags (suc count) flags
set_next count [] lt = absurd (omega (arith, lt))
set_next zero (flag ∷ flags) lt = refl
set_next (suc count) (flag ∷ flags) lt = ap (λ (rest : List Bool). true ∷ rest) (set_next count flags (omega (arith, lt)))
