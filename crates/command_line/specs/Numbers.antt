-- Which text is a number: decimal digits without a sign or a leading zero, at most 2^64 - 1.
use Rattle.std.specs.Prelude.{ℕ, ◌^◌, ◌==◌, ◌&&◌, Bool, false, not, List, [], ◌∷◌, Option, Some, None, nat_lt, if◌then◌else◌}
use Rattle.std.specs.List.{list_all}
use Rattle.std.specs.Char.{is_ascii_digit}
use Rattle.std.specs.Str.Parse.{digits_value}

-- the text is one digit or more, and begins with 0 only where it is `0`
abbrev pub is_numeral : List ℕ → Bool
is_numeral [] = false
is_numeral (digit ∷ []) = is_ascii_digit digit
is_numeral (first ∷ second ∷ rest) = not (first == 48) && list_all is_ascii_digit (first ∷ second ∷ rest)

-- the number of the text, where it is below 2^64
abbrev pub number : List ℕ → Option ℕ
number text = if is_numeral text && nat_lt (digits_value 10 text) (2 ^ 64) then Some (digits_value 10 text) else None
