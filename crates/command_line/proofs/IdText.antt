-- How long the text of an id is.
use Rattle.std.proofs.Common.{◌≡◌, ℕ, List, length, refl}
use Rattle.uuid.specs.Text.{by_index, hyphenated_text}

-- the hyphenated form has 36 characters
pub length_hyphenated : (letter : ℕ) (bytes : List ℕ) → length (hyphenated_text letter bytes) ≡ 36
unfolding by_index
length_hyphenated letter bytes = refl
