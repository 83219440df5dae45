-- A name that is printed can be read again.
use Rattle.std.proofs.Common.{◌≡◌, ◌≢◌, ℕ, ◌+◌, ◌*◌, ◌/◌, ◌%◌, ◌<◌, Bool, true, false, cond, not, ◌&&◌, ◌||◌, List, [], ◌∷◌, ◌++◌, refl, sym, ap, ◌∙◌, arith}
use Rattle.std.proofs.lemmas.Bool.Decides.{nat_tests}
use Rattle.std.proofs.lemmas.List.Elements.{All-head, All-tail}
use Rattle.std.specs.Prelude.{◌==◌, All, nat_lt}
use Rattle.std.specs.Char.{digit_value, is_digit}
use Rattle.std.specs.Fmt.{digit_glyph}
use Rattle.script_text.specs.Bytes.{is_itself, is_plain}
use Rattle.script_text.specs.Replies.{escaped, escaped_byte}
use Rattle.script_text.specs.Words.{BeginsWith, SaysName}
use Rattle.script_text.specs.Words.BeginsWith.{itself, escaped as by_digits}

glyph_value : (d : ℕ) → d < 16 → digit_value (digit_glyph true d) ≡ d
glyph_value d below = grind (arith, nat_tests)

glyph_is_digit : (d : ℕ) → d < 16 → is_digit (digit_glyph true d) 16 ≡ true
glyph_is_digit d below = let value = glyph_value d below in grind (arith, nat_tests, value)

plain_itself : (byte : ℕ) → is_plain byte ≡ true → byte ≢ 47 → is_itself byte ≡ true
plain_itself byte plain other =
    let no_slash : (byte == 47) ≡ false = grind (arith, nat_tests, other) in
    by (nat_lt 127 byte) (is_plain byte) (byte == 47) plain no_slash
  where
    by : (high plain slash : Bool) → plain ≡ true → slash ≡ false → (high || plain && not slash) ≡ true
    by true plain slash is so = refl
    by false true true is so = sym so
    by false true false is so = refl
    by false false slash is so = is

-- a byte as it is printed
begins : (byte : ℕ) (rest : List ℕ) → byte < 256 → byte ≢ 47 → BeginsWith (escaped_byte byte ++ rest) byte rest
begins byte rest below other = by (is_plain byte) refl
  where
    by : (plain : Bool) → is_plain byte ≡ plain → BeginsWith (cond plain (byte ∷ []) (37 ∷ digit_glyph true (byte / 16) ∷ digit_glyph true (byte % 16) ∷ []) ++ rest) byte rest
    by true is = itself (plain_itself byte is other) refl
    by false is =
        let first : byte / 16 < 16 = omega (arith, below) in
        let second : byte % 16 < 16 = omega arith in
        let upper = glyph_value (byte / 16) first in
        let lower = glyph_value (byte % 16) second in
        let parts : byte ≡ 16 * (byte / 16) + byte % 16 = omega arith in
        by_digits (digit_glyph true (byte / 16) ∷ digit_glyph true (byte % 16) ∷ rest) refl (record {
          high = digit_glyph true (byte / 16);
          low = digit_glyph true (byte % 16);
          parts = refl;
          digits = record {
            first = glyph_is_digit (byte / 16) first;
            second = glyph_is_digit (byte % 16) second;
            value = parts ∙ ap (λ h. 16 * h + byte % 16) (sym upper) ∙ ap (λ l. 16 * digit_value (digit_glyph true (byte / 16)) + l) (sym lower);
          };
        })

-- a byte that isn't `/`
abbrev IsPrinted : ℕ → Type 0
IsPrinted byte = (byte < 256) × (byte ≢ 47)

pub printed_name : (name : List ℕ) → All (λ byte. (byte < 256) × (byte ≢ 47)) name → SaysName (escaped name) name
printed_name [] good = refl
printed_name (byte ∷ name) good =
    let here = All-head IsPrinted byte name good in
    (escaped name, begins byte (escaped name) here.0 here.1, printed_name name (All-tail IsPrinted byte name good))
