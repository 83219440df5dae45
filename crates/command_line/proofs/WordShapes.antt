-- What an argument is to clap, by its first bytes.
use Rattle.std.proofs.Common.{◌≡◌, ◌⊎◌, ℕ, Bool, true, false, not, true≢false, [], ◌∷◌, ◌==◌, ◌&&◌, Option, Some, None, inl, inr, refl}
use Rattle.std.specs.Str.{bytes_eq}
use Rattle.clap.specs.Lexer.{long_of, name_and_value, short_of}
use Rattle.command_line.specs.Options.{Text, has_hyphen, long_word}
use Rattle.command_line.specs.Words.{is_stray}

-- The argument is no option.
pub record IsPlainWord (word : Text) : Type 0 where
  pub hyphen : has_hyphen word ≡ false
  pub long : long_of word ≡ None
  pub ours : long_word word ≡ None
  pub short : short_of word ≡ None
  pub dashes : bytes_eq word (45 ∷ 45 ∷ []) ≡ false

-- The argument is an option of this name, with this value.
pub record IsLongWord (word name : Text) (given : Option Text) : Type 0 where
  pub hyphen : has_hyphen word ≡ true
  pub long : long_of word ≡ Some (name, given)
  pub ours : long_word word ≡ Some (name, given)
  pub dashes : bytes_eq word (45 ∷ 45 ∷ []) ≡ false

abbrev IsWord : Text → Type 0
IsWord word = IsPlainWord word ⊎ ((name : Text) × (given : Option Text) × IsLongWord word name given)

-- an argument of three bytes or more, by the tests of its first two
longer : (x y z : ℕ) (rest : Text) (first second : Bool) → (x == 45) ≡ first → (y == 45) ≡ second → (first && not second) ≡ false → IsWord (x ∷ y ∷ z ∷ rest)
longer x y z rest false second is_x is_y e = inl (record { hyphen = is_x; long = rw is_x refl; ours = rw is_x refl; short = rw is_x refl; dashes = rw is_x refl })
longer x y z rest true false is_x is_y e = absurd (true≢false e)
longer x y z rest true true is_x is_y e =
    let parts = name_and_value (z ∷ rest) in
    inr (parts.0, parts.1, record { hyphen = is_x; long = rw (is_x, is_y) refl; ours = rw (is_x, is_y) refl; dashes = rw (is_x, is_y) refl })

-- an argument that is not stray is an option or no option
pub word_shape : (word : Text) → is_stray word ≡ false → IsWord word
word_shape [] e = inl (record { hyphen = refl; long = refl; ours = refl; short = refl; dashes = refl })
word_shape (x ∷ []) e = inl (record { hyphen = e; long = rw e refl; ours = refl; short = rw e refl; dashes = rw e refl })
word_shape (x ∷ y ∷ []) e = inl (record { hyphen = e; long = rw e refl; ours = rw e refl; short = rw e refl; dashes = rw e refl })
word_shape (x ∷ y ∷ z ∷ rest) e = longer x y z rest _ _ refl refl e
