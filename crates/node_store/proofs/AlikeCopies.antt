-- Copies that are all like the first one are alike.
use Rattle.std.proofs.Common.{◌≡◌, ℕ, zero, suc, ◌<◌, List, [], ◌∷◌, length, get_or, Option, refl, ap, sym, ◌∙◌, arith}
use Rattle.std.specs.Prelude.{Contains}
use Rattle.node_store.specs.declared.opening.OpenBlock.{OpenBlock}
use Rattle.node_store.specs.Answers.{AreAlike}
use Rattle.node_store.specs.Copies.{block_in}
use Rattle.node_store.specs.StoredSets.{Copies}

-- So many of the others show the same as the first in each block before the end.
abbrev pub AreLike : ℕ → List (Option OpenBlock) → Copies → ℕ → Type 0
AreLike end first rest count = (i : ℕ) (d : List (Option OpenBlock)) → i < count → (n : ℕ) → n < end → block_in first n ≡ block_in (get_or rest i d) n

pub all_alike : (end : ℕ) (first : List (Option OpenBlock)) (rest : Copies) → AreLike end first rest (length rest) → AreAlike end (first ∷ rest)
all_alike end first rest like one other in_one in_other n lt = sym (to one in_one) ∙ to other in_other
  where
    to : (copy : List (Option OpenBlock)) → Contains (first ∷ rest) copy → block_in first n ≡ block_in copy n
    to copy (zero, within, at) = ap (λ (c : List (Option OpenBlock)). block_in c n) at
    to copy (suc k, within, at) = like k copy (omega (arith, within)) n lt ∙ ap (λ (c : List (Option OpenBlock)). block_in c n) at

-- Where one isn't like the first, they aren't.
pub not_alike : (end : ℕ) (first : List (Option OpenBlock)) (rest : Copies) (i : ℕ) (copy : List (Option OpenBlock)) → i < length rest → get_or rest i copy ≡ copy → AreAlike end (first ∷ rest)
    → (n : ℕ) → n < end → block_in first n ≡ block_in copy n
not_alike end first rest i copy within at alike n lt =
    alike first copy (0, omega arith, refl) (suc i, (let l : suc i < length (first ∷ rest) = omega (arith, within) in l), at) n lt

pub none_alike : (end : ℕ) → AreAlike end []
none_alike end one other in_one in_other n lt = absurd (omega (arith, in_one.1))
