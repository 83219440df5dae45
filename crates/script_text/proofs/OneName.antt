-- A word is one name at most, and a text one list of names.
use Rattle.std.proofs.Common.{◌≡◌, ℕ, ◌+◌, ◌*◌, true, List, [], ◌∷◌, refl, sym, subst, ap, ◌∙◌}
use Rattle.std.proofs.lemmas.Bool.{false≢true}
use Rattle.std.specs.Prelude.{IsTrue, ◌==◌}
use Rattle.std.specs.Char.{digit_value}
use Rattle.std.specs.List.{AllZip, slice_split}
use Rattle.script_text.specs.Bytes.{is_itself}
use Rattle.script_text.specs.Words.{BeginsWith, IsEscape, SaysName, SaysNames}
use Rattle.script_text.specs.Words.BeginsWith.{itself, escaped}

-- `%` doesn't stand for itself
not_itself : (byte : ℕ) → byte ≡ 37 → IsTrue (is_itself byte) → ⊥
not_itself byte is good = false≢true (subst (λ b. is_itself b ≡ true) is good)

one_escape : (text : List ℕ) (a b : ℕ) (rest later : List ℕ) → IsEscape text a rest → IsEscape text b later → (a ≡ b) × (rest ≡ later)
one_escape text a b rest later is also =
    let same : is.high ∷ is.low ∷ rest ≡ also.high ∷ also.low ∷ later = sym is.parts ∙ also.parts in
    let first : is.high ≡ also.high = cc in
    let second : is.low ≡ also.low = cc in
    (is.digits.value ∙ ap (λ h. 16 * digit_value h + digit_value is.low) first ∙ ap (λ l. 16 * digit_value also.high + digit_value l) second ∙ sym also.digits.value, cc)

pub one_first : (word : List ℕ) (a b : ℕ) (rest later : List ℕ) → BeginsWith word a rest → BeginsWith word b later → (a ≡ b) × (rest ≡ later)
one_first word a b rest later (itself good is) (itself fine also) = let same : a ∷ rest ≡ b ∷ later = sym is ∙ also in (cc, cc)
one_first word a b rest later (itself good is) (escaped text also escape) =
    let same : a ∷ rest ≡ 37 ∷ text = sym is ∙ also in absurd (not_itself a (cc) good)
one_first word a b rest later (escaped text is escape) (itself good also) =
    let same : b ∷ later ≡ 37 ∷ text = sym also ∙ is in absurd (not_itself b (cc) good)
one_first word a b rest later (escaped text is escape) (escaped other also second) =
    let same : 37 ∷ text ≡ 37 ∷ other = sym is ∙ also in
    let texts : text ≡ other = cc in
    one_escape other a b rest later (subst (λ t. IsEscape t a rest) texts escape) second

-- no name begins where nothing is left
pub none_first : (word : List ℕ) (byte : ℕ) (rest : List ℕ) → word ≡ [] → BeginsWith word byte rest → ⊥
none_first word byte rest empty (itself good is) = let same : byte ∷ rest ≡ [] = sym is ∙ empty in cc
none_first word byte rest empty (escaped text is escape) = let same : 37 ∷ text ≡ [] = sym is ∙ empty in cc

pub one_name : (word a b : List ℕ) → SaysName word a → SaysName word b → a ≡ b
one_name word [] [] is also = refl
one_name word [] (y ∷ b) is also = absurd (none_first word y also.0 is also.1)
one_name word (x ∷ a) [] is also = absurd (none_first word x is.0 also is.1)
one_name word (x ∷ a) (y ∷ b) is also =
    let same : (x ≡ y) × (is.0 ≡ also.0) = one_first word x y is.0 also.0 is.1 also.1 in
    ap (λ byte. byte ∷ a) same.0 ∙ ap (λ name. y ∷ name) (one_name also.0 a b (subst (λ rest. SaysName rest a) same.1 is.2) also.2)

one_each : (words a b : List (List ℕ)) → AllZip SaysName words a → AllZip SaysName words b → a ≡ b
one_each [] [] [] is also = refl
one_each [] [] (y ∷ b) is also = absurd also
one_each [] (x ∷ a) b is also = absurd is
one_each (word ∷ words) [] b is also = absurd is
one_each (word ∷ words) (x ∷ a) [] is also = absurd also
one_each (word ∷ words) (x ∷ a) (y ∷ b) is also = ap (λ name. name ∷ a) (one_name word x y is.0 also.0) ∙ ap (λ names. y ∷ names) (one_each words a b is.1 also.1)

pub one_names : (text : List ℕ) (a b : List (List ℕ)) → SaysNames text a → SaysNames text b → a ≡ b
one_names [] a b is also = is ∙ sym also
one_names (byte ∷ text) a b is also = one_each (slice_split (λ b. b == 47) (byte ∷ text)) a b is also

-- a word that begins with `%` begins with what is escaped behind it
pub only_escaped : (word text : List ℕ) → word ≡ 37 ∷ text → ((byte : ℕ) (rest : List ℕ) → ¬ IsEscape text byte rest) → (byte : ℕ) (rest : List ℕ) → ¬ BeginsWith word byte rest
only_escaped word text is none byte rest (itself good also) = let same : byte ∷ rest ≡ 37 ∷ text = sym also ∙ is in not_itself byte (cc) good
only_escaped word text is none byte rest (escaped other also escape) =
    let same : 37 ∷ other ≡ 37 ∷ text = sym also ∙ is in
    let texts : other ≡ text = cc in
    none byte rest (subst (λ t. IsEscape t byte rest) texts escape)
