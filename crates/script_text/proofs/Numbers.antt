-- What a word is that is no number, or too great a one.
use Rattle.std.proofs.Common.{◌≢◌, ℕ, ◌<◌, ◌≤◌, List, sym, subst, arith}
use Rattle.std.proofs.lemmas.Fmt.{IsAscii-decimal}
use Rattle.std.proofs.lemmas.Str.{IsUtf8-from_ascii}
use Rattle.std.specs.Prelude.{IsUtf8}
use Rattle.std.specs.Fmt.{decimal}
use Rattle.script_text.specs.Words.{SaysLength, SaysNumber}
use Rattle.script_text.proofs.OneWord.{one_number}

-- a number is UTF-8
pub numbers_are_text : (word : List ℕ) (number : ℕ) → ¬ IsUtf8 word → ¬ SaysNumber word number
numbers_are_text word number binary is = binary (subst IsUtf8 (sym is.text) (IsUtf8-from_ascii (decimal number) (IsAscii-decimal number is.fits)))

-- a word that is no number is no client's
pub no_client_number : (word : List ℕ) → ((number : ℕ) → ¬ SaysNumber word number) → (client : ℕ) → client < 16 → word ≢ decimal client
no_client_number word none client below same = none client (record { fits = omega (arith, below); text = same })

-- nor is a number that is too great
pub no_such_client : (word : List ℕ) (number : ℕ) → SaysNumber word number → 16 ≤ number → (client : ℕ) → client < 16 → word ≢ decimal client
no_such_client word number is great client below same =
    let one = one_number word number client is (record { fits = omega (arith, below); text = same }) in omega (arith, great, below, one)

-- a number that is too great is no length
pub no_length : (word : List ℕ) (number : ℕ) → SaysNumber word number → 65536 < number → (length : ℕ) → ¬ SaysLength word length
no_length word number is great length says = let one = one_number word number length is says.said in omega (arith, great, says.most, one)
