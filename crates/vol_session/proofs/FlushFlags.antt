-- The device that is to be flushed next has its flag set, and a flush of it leaves one flag less.
use Rattle.std.proofs.Common.{◌≡◌, ◌<◌, ◌≤◌, ◌+◌, ◌-◌, ℕ, suc, Bool, true, false, cond, Some, List, [], ◌∷◌, length, take, drop, sym, ap, ◌∙◌, ⊎_elim, arith}
use Rattle.std.specs.Prelude.{slice_index_or, slice_set, replicate}
use Rattle.std.proofs.lemmas.Bool.{cases_lt, false≢true}
use Rattle.std.proofs.lemmas.List.{get_or-take, get_or_past, length-append, length-drop, length-replicate, length-take}
use Rattle.std.proofs.lemmas.List.Sums.{count_by-le-length, sum_by-set}
use Rattle.std.proofs.lemmas.Option.{same_Some}
use Rattle.journal_writer.specs.Writers.{first_flag, with_flags}
use Rattle.vol_session.specs.Left.{flags_left}

-- The first flag that is set, where flags are numbered from here on, is set.
first_is_set : (from : ℕ) (flags : List Bool) (dev : ℕ) → first_flag from flags ≡ Some dev → (from ≤ dev) × (slice_index_or flags (dev - from) false ≡ true)
first_is_set from [] dev is = absurd cc
first_is_set from (true ∷ flags) dev is =
    let same : from ≡ dev = same_Some from dev is in
    (omega (arith, same), ap (λ (n : ℕ). slice_index_or (true ∷ flags) n false) (let zero_is : dev - from ≡ 0 = omega (arith, same) in zero_is))
first_is_set from (false ∷ flags) dev is =
    let later = first_is_set (suc from) flags dev is in
    let some = later.0 in
    (omega (arith, some), ap (λ (n : ℕ). slice_index_or (false ∷ flags) n false) (let place : dev - from ≡ suc (dev - suc from) = omega (arith, some) in place) ∙ later.1)

pub flag_is_set : (flags : List Bool) (dev : ℕ) → first_flag 0 flags ≡ Some dev → slice_index_or flags dev false ≡ true
flag_is_set flags dev is = let found = first_is_set 0 flags dev is in ap (λ (n : ℕ). slice_index_or flags n false) (let same : dev ≡ dev - 0 = omega arith in same) ∙ found.1

-- So is the first one among the first so many.
pub flag_is_set_of : (count : ℕ) (flags : List Bool) (dev : ℕ) → first_flag 0 (take count flags) ≡ Some dev → slice_index_or flags dev false ≡ true
flag_is_set_of count flags dev is =
    let set = flag_is_set (take count flags) dev is in
    ⊎_elim
    (λ (less : dev < count). sym (get_or-take count flags dev false less) ∙ set)
    (λ (most : count ≤ dev). absurd (false≢true (sym (get_or_past (take count flags) dev false (let short = length-take count flags in omega (arith, most, short))) ∙ set)))
    (cases_lt dev count)

-- A flag that is cleared is one less.
pub one_flag_less : (flags : List Bool) (dev : ℕ) → slice_index_or flags dev false ≡ true → flags_left (slice_set flags dev false) < flags_left flags
one_flag_less flags dev set = ⊎_elim
    (λ (less : dev < length flags).
    let one : cond {A = ℕ} (slice_index_or flags dev false) 1 0 ≡ 1 = ap (λ (b : Bool). cond {A = ℕ} b 1 0) set in
    let sum = sum_by-set (λ (b : Bool). cond {A = ℕ} b 1 0) flags dev false false less in
    omega (arith, one, sum))
    (λ (most : length flags ≤ dev). absurd (false≢true (sym (get_or_past flags dev false most) ∙ set)))
    (cases_lt dev (length flags))

-- There are no more of them than flags.
pub few_flags : (count : ℕ) (flags : List Bool) → length flags ≡ count → flags_left flags ≤ count
few_flags count flags are = let few = count_by-le-length (λ (b : Bool). b) flags in omega (arith, few, are)

pub length-with_flags : (count : ℕ) (flags : List Bool) → length (with_flags count flags) ≡ count + (length flags - count)
length-with_flags count flags =
    length-append (replicate count true) (drop count flags) ∙ ap (λ (n : ℕ). n + length (drop count flags)) (length-replicate count true) ∙ ap (λ (n : ℕ). count + n) (length-drop count flags)
