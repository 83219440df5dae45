-- The search for the first run of blocks that may be reserved: one step on, and its end.
use Rattle.std.proofs.Common.{◌≡◌, ℕ, zero, suc, ◌+◌, ◌<◌, true, false, Some, if◌then◌else◌, List, [], ◌∷◌, length, drop, ap, ◌∙◌, arith}
use Rattle.bucket_pool.specs.declared.bucket.Slot.{Slot}
use Rattle.bucket_pool.specs.Buckets.{begins_empty, first_run_from}

pub run_goes_on : (at count : ℕ) (slots : List Slot) → at < length slots → begins_empty count (drop at slots) ≡ false
    → first_run_from at count (drop at slots) ≡ first_run_from (at + 1) count (drop (at + 1) slots)
run_goes_on at count slots lt not = go at slots lt not ∙ ap (λ n. first_run_from (at + 1) count (drop n slots)) (let same : suc at ≡ at + 1 = omega arith in same)
  where
    go : (n : ℕ) (ss : List Slot) → n < length ss → begins_empty count (drop n ss) ≡ false → first_run_from at count (drop n ss) ≡ first_run_from (at + 1) count (drop (suc n) ss)
    go n [] less missing = absurd (omega (arith, less))
    go zero (s ∷ ss) less missing = ap (λ b. if b then Some at else first_run_from (at + 1) count ss) missing
    go (suc n) (s ∷ ss) less missing = go n ss (omega (arith, less)) missing

pub run_is_here : (at count : ℕ) (slots : List Slot) → at < length slots → begins_empty count (drop at slots) ≡ true → first_run_from at count (drop at slots) ≡ Some at
run_is_here at count slots lt here = go at slots lt here
  where
    go : (n : ℕ) (ss : List Slot) → n < length ss → begins_empty count (drop n ss) ≡ true → first_run_from at count (drop n ss) ≡ Some at
    go n [] less is = absurd (omega (arith, less))
    go zero (s ∷ ss) less is = ap (λ b. if b then Some at else first_run_from (at + 1) count ss) is
    go (suc n) (s ∷ ss) less is = go n ss (omega (arith, less)) is
