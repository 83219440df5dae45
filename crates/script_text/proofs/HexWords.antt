-- Words of hex digits that write bytes.
use Rattle.std.proofs.Common.{◌≡◌, ℕ, ◌*◌, ◌<◌, ◌≤◌, true, false, List, length, Ok, arith}
use Rattle.std.specs.Prelude.{◌==◌}
use Rattle.std.proofs.lemmas.Bool.{eqb-true}
use Rattle.std.proofs.lemmas.Bool.Decides.{nat_tests}
use Rattle.hex.specs.Hex.{decode_of}
use Rattle.hex.proofs.HexLemmas.{decode_of-ok}
use Rattle.script_text.specs.Words.{SaysBytes}

two_digits : (word bytes : List ℕ) → decode_of word ≡ Ok bytes → length word ≡ 2 * length bytes
two_digits word bytes is = (decode_of-ok word bytes is).2

-- an empty word writes no bytes
pub empty_writes_none : (word bytes : List ℕ) → (length word == 0) ≡ true → ¬ SaysBytes word bytes
empty_writes_none word bytes empty says =
    let digits = two_digits word bytes says.said in
    let none = eqb-true (length word) 0 empty in
    omega (arith, digits, none, says.least)

-- a word that is too long writes none
pub long_writes_none : (word bytes : List ℕ) → 131072 < length word → ¬ SaysBytes word bytes
long_writes_none word bytes long says = let digits = two_digits word bytes says.said in omega (arith, long, digits, says.most)

some_digits : (count : ℕ) → (count == 0) ≡ false → 0 < count
some_digits count is = grind (arith, nat_tests)

-- each other word that decodes writes bytes
pub writes_bytes : (word bytes : List ℕ) → decode_of word ≡ Ok bytes → (length word == 0) ≡ false → length word ≤ 131072 → SaysBytes word bytes
writes_bytes word bytes is some most =
    let digits = two_digits word bytes is in
    let least = some_digits (length word) some in
    record { said = is; least = omega (arith, digits, least); most = omega (arith, digits, most) }
