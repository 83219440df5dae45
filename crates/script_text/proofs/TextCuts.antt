-- Where a text is cut, and what its lines and words are then.
use Rattle.std.proofs.Common.{◌≡◌, ℕ, ◌<◌, Bool, true, false, not, cond, List, [], ◌∷◌, ◌++◌, length, ◌+◌, ◌-◌, take, drop, get_or, ◌≤◌, Option, Some, None, refl, sym, subst, ap, ◌∙◌, arith, append-nil}
use Rattle.std.proofs.lemmas.List.{take_all}
use Rattle.std.proofs.lemmas.Grind.{common_steps}
use Rattle.std.specs.Prelude.{◌==◌}
use Rattle.std.specs.List.{list_all, onto_first, slice_split}
use Rattle.std.proofs.lemmas.Bool.{and_parts}
use Rattle.script_text.specs.Lines.{IsCut, lines_of, words_in, words_of}

-- the byte isn't among the bytes
abbrev pub is_unbroken : ℕ → List ℕ → Bool
is_unbroken byte bytes = list_all (λ b. not (b == byte)) bytes

-- the cut at a byte that stands here
pub cut_here : (byte : ℕ) (text : List ℕ) (at : ℕ) → at < length text → get_or text at 0 ≡ byte → is_unbroken byte (take at text) ≡ true
    → IsCut byte text (take at text) (Some (take (length text - (at + 1)) (drop (at + 1) text)))
cut_here byte text at within found unbroken = record {
  parts = let parts : text ≡ take at text ++ (byte ∷ drop (at + 1) text) = grind (arith, common_steps) in
      let rest : take (length text - (at + 1)) (drop (at + 1) text) ≡ drop (at + 1) text = grind (arith, common_steps) in
      parts ∙ ap (λ more. take at text ++ byte ∷ more) (sym rest);
  unbroken = unbroken;
}

-- there is no cut
pub cut_nowhere : (byte : ℕ) (text : List ℕ) (at : ℕ) → length text ≤ at → is_unbroken byte (take at text) ≡ true → IsCut byte text text None
cut_nowhere byte text at past unbroken = record {
  parts = sym (append-nil text);
  unbroken = subst (λ t. is_unbroken byte t ≡ true) (take_all at text past) unbroken;
}

-- no first byte of what is unbroken is the byte
first_differs : (byte b : ℕ) (bytes : List ℕ) → is_unbroken byte (b ∷ bytes) ≡ true → (b == byte) ≡ false
first_differs byte b bytes unbroken = by (b == byte) (and_parts (not (b == byte)) (is_unbroken byte bytes) unbroken).0
  where
    by : (is : Bool) → not is ≡ true → is ≡ false
    by true e = absurd (cc)
    by false e = refl

-- the parts of a text at a byte
pub split_at_cut : (byte : ℕ) (before : List ℕ) (rest : List ℕ) → is_unbroken byte before ≡ true
    → slice_split (λ b. b == byte) (before ++ byte ∷ rest) ≡ before ∷ slice_split (λ b. b == byte) rest
split_at_cut byte [] rest unbroken =
    let is : (byte == byte) ≡ true = grind arith in
    ap (λ here. cond here ([] ∷ slice_split (λ b. b == byte) rest) (onto_first byte (slice_split (λ b. b == byte) rest))) is
split_at_cut byte (b ∷ before) rest unbroken =
    ap (λ here. cond here ([] ∷ slice_split (λ b. b == byte) (before ++ byte ∷ rest)) (onto_first b (slice_split (λ b. b == byte) (before ++ byte ∷ rest)))) (first_differs byte b before unbroken)
    ∙ ap (onto_first b) (split_at_cut byte before rest (and_parts (not (b == byte)) (is_unbroken byte before) unbroken).1)

pub split_uncut : (byte : ℕ) (text : List ℕ) → is_unbroken byte text ≡ true → slice_split (λ b. b == byte) text ≡ text ∷ []
split_uncut byte [] unbroken = refl
split_uncut byte (b ∷ text) unbroken =
    ap (λ here. cond here ([] ∷ slice_split (λ b. b == byte) text) (onto_first b (slice_split (λ b. b == byte) text))) (first_differs byte b text unbroken)
    ∙ ap (onto_first b) (split_uncut byte text (and_parts (not (b == byte)) (is_unbroken byte text) unbroken).1)

-- the parts of what stands behind the byte, if it is there
abbrev pub parts_behind : ℕ → Option (List ℕ) → List (List ℕ)
parts_behind byte None = []
parts_behind byte (Some rest) = slice_split (λ b. b == byte) rest

-- a text is its first part and those behind it
pub cut_splits : (byte : ℕ) (text before : List ℕ) (rest : Option (List ℕ)) → IsCut byte text before rest → slice_split (λ b. b == byte) text ≡ before ∷ parts_behind byte rest
cut_splits byte text before (Some rest) cut = ap (slice_split (λ b. b == byte)) cut.parts ∙ split_at_cut byte before rest cut.unbroken
cut_splits byte text before None cut = ap (slice_split (λ b. b == byte)) (cut.parts ∙ append-nil before) ∙ split_uncut byte before cut.unbroken

same_words : (rest : Option (List ℕ)) → parts_behind 32 rest ≡ words_in rest
same_words None = refl
same_words (Some rest) = refl

-- the words of a line are its first word and those behind it
pub cut_words : (line word : List ℕ) (rest : Option (List ℕ)) → IsCut 32 line word rest → words_of line ≡ word ∷ words_in rest
cut_words line word rest cut = cut_splits 32 line word rest cut ∙ ap (λ words. word ∷ words) (same_words rest)

-- the first line ends before the first LF
lines_of-append : (line rest : List ℕ) → is_unbroken 10 line ≡ true → lines_of (line ++ 10 ∷ rest) ≡ line ∷ lines_of rest
lines_of-append [] rest unbroken = refl
lines_of-append (byte ∷ line) rest unbroken =
    ap (λ here. cond here ([] ∷ lines_of (line ++ 10 ∷ rest)) (onto_first byte (lines_of (line ++ 10 ∷ rest)))) (first_differs 10 byte line unbroken)
    ∙ ap (onto_first byte) (lines_of-append line rest (and_parts (not (byte == 10)) (is_unbroken 10 line) unbroken).1)

-- a text without LF is one line, if it isn't empty
lines_of-unbroken : (byte : ℕ) (line : List ℕ) → is_unbroken 10 (byte ∷ line) ≡ true → lines_of (byte ∷ line) ≡ (byte ∷ line) ∷ []
lines_of-unbroken byte [] unbroken = ap (λ here. cond here ([] ∷ []) (onto_first byte [])) (first_differs 10 byte [] unbroken)
lines_of-unbroken byte (next ∷ line) unbroken =
    ap (λ here. cond here ([] ∷ lines_of (next ∷ line)) (onto_first byte (lines_of (next ∷ line)))) (first_differs 10 byte (next ∷ line) unbroken)
    ∙ ap (onto_first byte) (lines_of-unbroken next line (and_parts (not (byte == 10)) (is_unbroken 10 (next ∷ line)) unbroken).1)

lines_of-last : (text : List ℕ) → 0 < length text → is_unbroken 10 text ≡ true → lines_of text ≡ text ∷ []
lines_of-last [] some unbroken = absurd (omega arith)
lines_of-last (byte ∷ text) some unbroken = lines_of-unbroken byte text unbroken

-- the first line of a text, and what stands behind it
pub cut_lines : (text line rest : List ℕ) → IsCut 10 text line (Some rest) → lines_of text ≡ line ∷ lines_of rest
cut_lines text line rest cut = ap lines_of cut.parts ∙ lines_of-append line rest cut.unbroken

pub last_line : (text line : List ℕ) → 0 < length text → IsCut 10 text line None → lines_of text ≡ line ∷ []
last_line text line some cut =
    let same : text ≡ line = cut.parts ∙ append-nil line in
    ap lines_of same ∙ lines_of-last line (subst (λ t. 0 < length t) same some) cut.unbroken
