-- The lines of a text, and the words of a line.
use Rattle.std.specs.Prelude.{◌≡◌, ℕ, Bool, true, not, IsTrue, ◌==◌, List, [], ◌∷◌, ◌++◌, Option, Some, None, if◌then◌else◌}
use Rattle.std.specs.List.{list_all, onto_first, slice_split}

-- LF ends a line, and the last line may lack it; the empty text has no line
abbrev pub lines_of : List ℕ → List (List ℕ)
lines_of [] = []
lines_of (byte ∷ bytes) = if byte == 10 then [] ∷ lines_of bytes else onto_first byte (lines_of bytes)

-- a line that is empty or begins with `#` says nothing
abbrev pub is_skipped : List ℕ → Bool
is_skipped [] = true
is_skipped (byte ∷ bytes) = byte == 35

-- one space stands between two words; a word may be empty
abbrev pub words_of : List ℕ → List (List ℕ)
words_of line = slice_split (λ byte. byte == 32) line

-- the words of what stands behind a space; none where there is no space
abbrev pub words_in : Option (List ℕ) → List (List ℕ)
words_in None = []
words_in (Some text) = words_of text

-- what the byte cuts off a text: the byte and what stands behind it, or nothing where it isn't there
abbrev pub cut_off : ℕ → Option (List ℕ) → List ℕ
cut_off byte None = []
cut_off byte (Some rest) = byte ∷ rest

-- The text is cut at the first such byte, if it has one.
pub record IsCut (byte : ℕ) (text before : List ℕ) (rest : Option (List ℕ)) : Type 0 where
  pub parts : text ≡ before ++ cut_off byte rest
  pub unbroken : IsTrue (list_all (λ b. not (b == byte)) before)
