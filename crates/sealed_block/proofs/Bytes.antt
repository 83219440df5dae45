-- Which lists are bytes, and which numbers bytes make.
use Rattle.std.proofs.Common.{◌≡◌, ℕ, zero, suc, ◌/◌, ◌^◌, ◌<◌, List, length, slice_index, refl, arith, true, nat_lt, lit<}
use Rattle.std.proofs.lemmas.List.Elements.{All-nil, All-cons, All-append}
use Rattle.std.proofs.lemmas.Nat.{mod_below}
use Rattle.std.specs.Int.{w16, w32, w64, byte_at, bytes_low_first, bytes_high_first, from_le_bytes, to_be_bytes}
use Rattle.std.proofs.lemmas.Bool.Decides.{Decides-by_and, Decides-ltb}
use Rattle.std.specs.Bool.{Decides}
use Rattle.std.specs.List.{list_all}
use Rattle.sha2.specs.Sha256.{sha256, digest_bytes}
use Rattle.sealed_block.specs.Blocks.{AreBytes}

abbrev IsByte : ℕ → Type 0
IsByte b = b < 256

-- The test of each byte says whether they are bytes.
pub AreBytes-Decides : (bytes : List ℕ) → Decides (list_all (λ b. nat_lt b 256) bytes) (AreBytes bytes)
AreBytes-Decides bytes = Decides-by_and (λ b. nat_lt b 256) IsByte (list_all (λ b. nat_lt b 256)) (λ b. Decides-ltb b 256) refl (λ _ _. refl) bytes

-- Bytes that pass the test are bytes.
pub AreBytes-from_test : (bytes : List ℕ) → list_all (λ b. nat_lt b 256) bytes ≡ true → AreBytes bytes
AreBytes-from_test bytes passes = (AreBytes-Decides bytes).0 passes

IsByte-byte_at : (i n : ℕ) → byte_at i n < 256
IsByte-byte_at zero n = mod_below n 256 (lit< tt)
IsByte-byte_at (suc i) n = mod_below (n / 256 ^ suc i) 256 (lit< tt)

-- A number in little-endian order is bytes.
pub AreBytes-bytes_low_first : (i k n : ℕ) → AreBytes (bytes_low_first i k n)
AreBytes-bytes_low_first i zero n = All-nil IsByte
AreBytes-bytes_low_first i (suc k) n = All-cons IsByte (byte_at i n) (bytes_low_first (suc i) k n) (IsByte-byte_at i n) (AreBytes-bytes_low_first (suc i) k n)

AreBytes-bytes_high_first : (k n : ℕ) → AreBytes (bytes_high_first k n)
AreBytes-bytes_high_first zero n = All-nil IsByte
AreBytes-bytes_high_first (suc k) n = All-cons IsByte (byte_at k n) (bytes_high_first k n) (IsByte-byte_at k n) (AreBytes-bytes_high_first k n)

AreBytes-digest_bytes : (words : List ℕ) (k : ℕ) → AreBytes (digest_bytes words k)
unfolding digest_bytes
AreBytes-digest_bytes words zero = All-nil IsByte
AreBytes-digest_bytes words (suc k) = All-append IsByte (digest_bytes words k) (to_be_bytes w32 (slice_index words k)) (AreBytes-digest_bytes words k) (AreBytes-bytes_high_first 4 (slice_index words k))

-- A digest is bytes.
pub AreBytes-sha256 : (message : List ℕ) → AreBytes (sha256 message)
unfolding sha256
AreBytes-sha256 message = AreBytes-digest_bytes _ 8

-- Two bytes make a number below 2 ^ 16.
pub from_le_bytes-lt_2 : (bytes : List ℕ) → length bytes ≡ 2 → AreBytes bytes → from_le_bytes w16 bytes < 2 ^ 16
from_le_bytes-lt_2 bytes size are =
    omega (arith, are 0 0 (omega arith), are 1 0 (omega arith))

-- Four bytes make a number below 2 ^ 32.
pub from_le_bytes-lt_4 : (bytes : List ℕ) → length bytes ≡ 4 → AreBytes bytes → from_le_bytes w32 bytes < 2 ^ 32
from_le_bytes-lt_4 bytes size are =
    omega (arith, are 0 0 (omega arith), are 1 0 (omega arith), are 2 0 (omega arith), are 3 0 (omega arith))

-- Eight bytes make a number below 2 ^ 64.
pub from_le_bytes-lt_8 : (bytes : List ℕ) → length bytes ≡ 8 → AreBytes bytes → from_le_bytes w64 bytes < 2 ^ 64
from_le_bytes-lt_8 bytes size are =
    omega (arith, are 0 0 (omega arith), are 1 0 (omega arith), are 2 0 (omega arith), are 3 0 (omega arith), are 4 0 (omega arith), are 5 0 (omega arith), are 6 0 (omega arith), are 7 0 (omega arith))
