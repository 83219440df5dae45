-- What a word of a line stands for: a name, a path, a number, or bytes.
use Rattle.std.specs.Prelude.{◌≡◌, ℕ, ◌+◌, ◌*◌, ◌^◌, ◌<◌, ◌≤◌, ◌==◌, IsTrue, not, List, [], ◌∷◌, ◌++◌, length, codes, Ok}
use Rattle.std.specs.Char.{is_digit, digit_value}
use Rattle.std.specs.Fmt.{decimal}
use Rattle.std.specs.List.{AllZip, list_all, slice_split}
use Rattle.hex.specs.Hex.{decode_of}
use Rattle.plain_forest.specs.declared.path.Path.{Path}
use Rattle.script_text.specs.Bytes.{is_itself}

-- The two characters are hex digits, of either case, and stand for the byte.
pub record AreDigitsOf (byte high low : ℕ) : Type 0 where
  pub first : IsTrue (is_digit high 16)
  pub second : IsTrue (is_digit low 16)
  pub value : byte ≡ 16 * digit_value high + digit_value low

-- The text is two hex digits that stand for the byte, and the rest.
pub record IsEscape (text : List ℕ) (byte : ℕ) (rest : List ℕ) : Type 0 where
  pub high : ℕ
  pub low : ℕ
  pub parts : text ≡ high ∷ low ∷ rest
  pub digits : AreDigitsOf byte high low

-- The word begins with a byte of a name, which stands for itself or is written as `%` and two hex digits, and goes on with the rest.
pub data BeginsWith (word : List ℕ) (byte : ℕ) (rest : List ℕ) : Type 0 where
  itself : IsTrue (is_itself byte) → word ≡ byte ∷ rest → BeginsWith word byte rest
  escaped : (text : List ℕ) → word ≡ 37 ∷ text → IsEscape text byte rest → BeginsWith word byte rest

-- the word is the bytes of the name, one behind the other
abbrev pub SaysName : List ℕ → List ℕ → Type 0
SaysName word [] = word ≡ []
SaysName word (byte ∷ name) = (rest : List ℕ) × BeginsWith word byte rest × SaysName rest name

-- `/` stands between two names, and no text is no name
abbrev pub SaysNames : List ℕ → List (List ℕ) → Type 0
SaysNames [] names = names ≡ []
SaysNames (byte ∷ text) names = AllZip SaysName (slice_split (λ b. b == 47) (byte ∷ text)) names

-- The word is a subvolume's name without `:`, then `:/`, and then names.
pub record IsPathCut (word sub names : List ℕ) : Type 0 where
  pub text : word ≡ sub ++ codes ":/" ++ names
  pub colonless : IsTrue (list_all (λ byte. not (byte == 58)) sub)

-- The word is the path.
pub record SaysPath (word : List ℕ) (path : Path) : Type 0 where
  pub sub : List ℕ
  pub names : List ℕ
  pub cut : IsPathCut word sub names
  pub sub_said : SaysName sub path.sub
  pub names_said : SaysNames names path.names

-- The word is the number in decimal digits, without a leading zero.
pub record SaysNumber (word : List ℕ) (number : ℕ) : Type 0 where
  pub fits : number < 2 ^ 64
  pub text : word ≡ decimal number

-- The word is a number of bytes that can be read at once.
pub record SaysLength (word : List ℕ) (number : ℕ) : Type 0 where
  pub said : SaysNumber word number
  pub most : number ≤ 65536

-- The word is bytes that can be written at once, each as two hex digits of either case.
pub record SaysBytes (word bytes : List ℕ) : Type 0 where
  pub said : decode_of word ≡ Ok bytes
  pub least : 1 ≤ length bytes
  pub most : length bytes ≤ 65536
