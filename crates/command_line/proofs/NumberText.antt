-- What `parse` makes of a numeral, and that `decimal` gives numerals.
use Rattle.std.proofs.Common.{◌≡◌, ◌∙◌, ◌↔◌, ℕ, ◌<◌, ◌^◌, ◌&&◌, ◌==◌, Bool, cond, true, false, not, List, [], ◌∷◌, length, get_or, zero, suc, Option, Some, None, Result, Ok, Err, refl, sym, ap, arith, true≢false, nat_lt, lt-ltb, ltb-true}
use Rattle.std.specs.List.{list_all}
use Rattle.std.specs.Char.{is_ascii_digit}
use Rattle.std.specs.Fmt.{decimal}
use Rattle.std.specs.Result.{OkIff, result_ok}
use Rattle.std.specs.Str.{all_ascii_digits}
use Rattle.std.specs.Str.Parse.{ParsesUnsigned, digits_value}
use Rattle.std.proofs.lemmas.Str.Parse.{IsNumeralModel, numerals_by_value, parse_digits, tells_all_ascii_digits}
use Rattle.std.proofs.lemmas.Fmt.{decimal-digits_value, digits_decimal, digits_value-decimal, decimal_digit, decimal_nonempty, first_decimal}
use Rattle.std.proofs.lemmas.Bool.Decides.{nat_tests}
use Rattle.std.proofs.lemmas.Option.{none-some, same_Some}
use Rattle.std.proofs.lemmas.Bool.{and_parts}
use Rattle.command_line.specs.Numbers.{is_numeral, number}

-- digits, as std defines them
abbrev AreDigits : List ℕ → Type 0
AreDigits ds = all_ascii_digits ds ≡ true

digits : IsNumeralModel AreDigits (digits_value 10)
digits = numerals_by_value AreDigits tells_all_ascii_digits

-- a test of each byte is std's test of all
all_same : (ds : List ℕ) → list_all is_ascii_digit ds ≡ all_ascii_digits ds
all_same [] = refl
all_same (d ∷ ds) = ap (λ b. is_ascii_digit d && b) (all_same ds)

-- a numeral is one digit or more, and begins with 0 only where it is `0`
numeral_parts : (text : List ℕ) → is_numeral text ≡ true → (0 < length text) × AreDigits text × (get_or text 0 0 ≡ 48 → length text ≡ 1)
numeral_parts [] is = absurd (true≢false (sym is))
numeral_parts (d ∷ []) is = (omega arith, rw is refl, λ _. refl)
numeral_parts (a ∷ b ∷ rest) is =
    let parts = and_parts (not (a == 48)) (list_all is_ascii_digit (a ∷ b ∷ rest)) is in
    let no_zero : a ≡ 48 → ⊥ = λ e. true≢false (sym parts.0 ∙ ap (λ n. not (n == 48)) e) in
    (omega arith, sym (all_same (a ∷ b ∷ rest)) ∙ parts.1, λ e. absurd (no_zero e))

-- a list of digits that begins with 0 only where it is `0` is a numeral
numeral_made : (text : List ℕ) → 0 < length text → AreDigits text → (get_or text 0 0 ≡ 48 → length text ≡ 1) → is_numeral text ≡ true
numeral_made [] some are lead = absurd (omega arith)
numeral_made (d ∷ []) some are lead = (and_parts (is_ascii_digit d) true are).0
numeral_made (a ∷ b ∷ rest) some are lead =
    let no_zero : not (a == 48) ≡ true = grind (arith, nat_tests, lead) in
    rw (no_zero, all_same (a ∷ b ∷ rest), are) refl

-- the number of a numeral whose value fits
number_of_numeral : (text : List ℕ) → is_numeral text ≡ true → (fits : Bool) → nat_lt (digits_value 10 text) (2 ^ 64) ≡ fits → number text ≡ cond fits (Some (digits_value 10 text)) None
number_of_numeral text is fits e = rw (is, e) refl

-- no number of a numeral whose value does not fit, and the number of one whose value does
read_as_number : {E : Type 0} (text : List ℕ) (r : Result ℕ E) → is_numeral text ≡ true → OkIff r ((0 < length text) × (digits_value 10 text < 2 ^ 64)) (digits_value 10 text)
    → (fits : Bool) → nat_lt (digits_value 10 text) (2 ^ 64) ≡ fits → result_ok r ≡ number text
read_as_number text (Ok n) is of fits e = ap Some of.1 ∙ sym (number_of_numeral text is true (lt-ltb _ _ of.0.1))
read_as_number text (Err x) is never true e = absurd (never ((numeral_parts text is).0, ltb-true _ _ e))
read_as_number text (Err x) is never false e = sym (number_of_numeral text is false e)

-- `parse` reads a numeral as its number
pub parsed_number : {E : Type 0} (text : List ℕ) (r : Result ℕ E) → is_numeral text ≡ true → ParsesUnsigned 64 10 text r → result_ok r ≡ number text
parsed_number text r is h = read_as_number text r is (parse_digits digits 64 text r h (numeral_parts text is).1) _ refl

-- what `decimal` gives is a numeral
decimal_is_numeral : (n : ℕ) → n < 2 ^ 64 → is_numeral (decimal n) ≡ true
decimal_is_numeral zero fits = ap is_numeral (decimal_digit 0 (omega arith))
decimal_is_numeral (suc n) fits = numeral_made (decimal (suc n)) (decimal_nonempty (suc n) fits) (digits_decimal digits (suc n) fits) (λ e. omega (arith, first_decimal (suc n) (omega arith) fits, e))

-- a text of a number is its decimal numeral
number_numeral : (text : List ℕ) (n : ℕ) → (is fits : Bool) → is_numeral text ≡ is → nat_lt (digits_value 10 text) (2 ^ 64) ≡ fits
    → cond (is && fits) (Some (digits_value 10 text)) None ≡ Some n → text ≡ decimal n
number_numeral text n true true is fits e =
    let parts = numeral_parts text is in
    sym (decimal-digits_value digits text parts.1 parts.0 parts.2 (ltb-true _ _ fits)) ∙ ap decimal (same_Some _ _ e)
number_numeral text n true false is fits e = absurd (none-some n e)
number_numeral text n false fits is _ e = absurd (none-some n e)

-- the texts of a number are its decimal numeral alone
pub number_is_decimal : (text : List ℕ) (n : ℕ) → n < 2 ^ 64 → number text ≡ Some n ↔ text ≡ decimal n
number_is_decimal text n fits = (number_numeral text n _ _ refl refl, λ e. ap number e ∙ is)
  where
    is : number (decimal n) ≡ Some n
    is =
        let value : digits_value 10 (decimal n) ≡ n = digits_value-decimal digits n fits in
        number_of_numeral (decimal n) (decimal_is_numeral n fits) true (lt-ltb _ _ (rw value fits)) ∙ ap Some value

-- no number of a text that is no numeral
pub no_number : (text : List ℕ) → is_numeral text ≡ false → None ≡ number text
no_number text is = sym (rw is refl)

-- what is the number of a text is so of its decimal numeral alone
pub numeral_by : (answer : Option ℕ) (text : List ℕ) → answer ≡ number text → (n : ℕ) → n < 2 ^ 64 → answer ≡ Some n ↔ text ≡ decimal n
numeral_by answer text is n fits = (λ e. (number_is_decimal text n fits).0 (sym is ∙ e), λ e. is ∙ (number_is_decimal text n fits).1 e)
