-- Lists that are written and read piece by piece.
use Rattle.std.proofs.Common.{◌≡◌, ℕ, ◌+◌, ◌++◌, List, length, take, sym, ◌∙◌, ap}

-- Where `bytes`, which are `meant`, were written after the first a elements, which are `prefix`, the first b elements are both.
pub written : (prefix meant bytes before after : List ℕ) (a b : ℕ) → take a before ≡ prefix → bytes ≡ meant → take (a + length bytes) after ≡ take a before ++ bytes → a + length meant ≡ b → take b after ≡ prefix ++ meant
written prefix meant bytes before after a b was is put ends =
    let reach : a + length bytes ≡ b = ap (λ xs. a + length xs) is ∙ ends in
    ap (λ n. take n after) (sym reach) ∙ put ∙ ap (λ xs. xs ++ bytes) was ∙ ap (λ xs. prefix ++ xs) is
