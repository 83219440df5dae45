-- Numbers, words that stand for them, names and positions are exact.
use Rattle.std.proofs.Common.{◌≡◌, ℕ, zero, suc, ◌^◌, ◌/◌, ◌<◌, Bool, true, false, cond, eqb, List, length, get_or, refl, sym, ap, subst, arith, inl, inr, lit<, lit≤}
use Rattle.std.specs.Prelude.{⊤}
use Rattle.std.specs.Int.{w32, w64, IsInRange, is_in_range, byte_at, bytes_low_first, from_le_bytes, to_le_bytes}
use Rattle.std.proofs.lemmas.Bool.{cases_lt}
use Rattle.std.proofs.lemmas.Bool.Decides.{nat_tests}
use Rattle.std.proofs.lemmas.List.{get_or_past}
use Rattle.std.proofs.lemmas.List.Elements.{All-nil, All-cons}
use Rattle.std.proofs.lemmas.Nat.{mod_below, le_bytes_4, le_bytes_8, from_le_bytes-to_le_bytes_4, from_le_bytes-to_le_bytes_8}
use Rattle.vol_types.specs.declared.values.FileKind.{FileKind}
use Rattle.vol_types.specs.declared.values.FileKind.TheVariants.{File, Directory}
use Rattle.vol_types.specs.declared.values.SnapState.{SnapState}
use Rattle.vol_types.specs.declared.values.SnapState.TheVariants.{LiveLeaf, Interior, DeadLeaf}
use Rattle.vol_types.specs.Ranges.{IsName}
use Rattle.vol_types.specs.Values.{file_kind_code, snap_state_code}
use Rattle.vol_types.specs.Widths.{AreBytes, PosFits}
use Rattle.key_codec.specs.declared.fault.KeyFault.TheVariants.{Range}
use Rattle.key_codec.specs.Exact.{IsExact}
use Rattle.key_codec.specs.Formats.{Format, fixed, u8_byte, u32_le, u64_le, raw, checked, ranged, followed, both}
use Rattle.key_codec.specs.Kinds.{position, file_kind_of, file_kind, snap_state_of, snap_state, flag, name}
use Rattle.key_codec.specs.Combined.{refit, u8_byte-exact, fixed-exact, mapped-exact, checked-exact, followed-exact}

-- ---- numbers

IsByte-byte_at : (i n : ℕ) → byte_at i n < 256
IsByte-byte_at zero n = mod_below n 256 (lit< tt)
IsByte-byte_at (suc i) n = mod_below (n / 256 ^ suc i) 256 (lit< tt)

AreBytes-bytes_low_first : (i k n : ℕ) → AreBytes (bytes_low_first i k n)
AreBytes-bytes_low_first i zero n = All-nil (λ b. b < 256)
AreBytes-bytes_low_first i (suc k) n = All-cons (λ b. b < 256) (byte_at i n) (bytes_low_first (suc i) k n) (IsByte-byte_at i n) (AreBytes-bytes_low_first (suc i) k n)

small_everywhere : (bytes : List ℕ) → AreBytes bytes → (i : ℕ) → get_or bytes i 0 < 256
small_everywhere bytes are i =
    elim (cases_lt i (length bytes)) [
      | inl within ↦ are i 0 within
      | inr past ↦ rw (get_or_past bytes i 0 past) (lit< tt)
    ]

from_le_bytes-lt_4 : (bytes : List ℕ) → ((i : ℕ) → get_or bytes i 0 < 256) → from_le_bytes w32 bytes < 2 ^ 32
from_le_bytes-lt_4 bytes are = omega (arith, are 0, are 1, are 2, are 3)

from_le_bytes-lt_8 : (bytes : List ℕ) → ((i : ℕ) → get_or bytes i 0 < 256) → from_le_bytes w64 bytes < 2 ^ 64
from_le_bytes-lt_8 bytes are = omega (arith, are 0, are 1, are 2, are 3, are 4, are 5, are 6, are 7)

pub u32_le-exact : IsExact (λ n. n < 2 ^ 32) u32_le
unfolding u32_le
u32_le-exact = mapped-exact (λ bytes. (length bytes ≡ 4) × AreBytes bytes) (λ n. n < 2 ^ 32) (fixed 4) (from_le_bytes w32) (to_le_bytes w32)
    (λ bytes fits. let small = small_everywhere bytes fits.1 in (from_le_bytes-lt_4 bytes small, le_bytes_4 bytes (from_le_bytes w32 bytes) fits.0 small refl))
    (λ n fits. ((refl, AreBytes-bytes_low_first 0 4 n), from_le_bytes-to_le_bytes_4 n fits))
    (fixed-exact 4)

pub u64_le-exact : IsExact (λ n. n < 2 ^ 64) u64_le
unfolding u64_le
u64_le-exact = mapped-exact (λ bytes. (length bytes ≡ 8) × AreBytes bytes) (λ n. n < 2 ^ 64) (fixed 8) (from_le_bytes w64) (to_le_bytes w64)
    (λ bytes fits. let small = small_everywhere bytes fits.1 in (from_le_bytes-lt_8 bytes small, le_bytes_8 bytes (from_le_bytes w64 bytes) fits.0 small refl))
    (λ n fits. ((refl, AreBytes-bytes_low_first 0 8 n), from_le_bytes-to_le_bytes_8 n fits))
    (fixed-exact 8)

raw-exact : (n : ℕ) → IsExact (λ bytes. (length bytes ≡ n) × AreBytes bytes) (raw n)
unfolding raw
raw-exact n = fixed-exact n

in_range_from_test : (least most n : ℕ) → is_in_range least most n ≡ true → IsInRange least most n
in_range_from_test least most n passes = grind (arith, nat_tests)

test_from_in_range : (least most n : ℕ) → IsInRange least most n → is_in_range least most n ≡ true
test_from_in_range least most n fits = grind (arith, nat_tests)

pub ranged-exact : (F : ℕ → Type 0) (k : ℕ) (format : Format ℕ) (least most : ℕ) → IsExact F format → IsExact (λ n. F n × IsInRange least most n) (ranged k format least most)
unfolding ranged
ranged-exact F k format least most exact = refit (λ n. F n × (is_in_range least most n ≡ true)) (λ n. F n × IsInRange least most n) (checked format (is_in_range least most) (Range k))
    (λ n fits. (fits.0, in_range_from_test least most n fits.1)) (λ n fits. (fits.0, test_from_in_range least most n fits.1))
    (checked-exact F format (is_in_range least most) (Range k) exact)

-- a byte in a range below 256
pub byte_within-exact : (k least most : ℕ) → most < 256 → IsExact (IsInRange least most) (ranged k u8_byte least most)
byte_within-exact k least most small = refit (λ n. (n < 256) × IsInRange least most n) (IsInRange least most) (ranged k u8_byte least most) (λ n fits. fits.1) (λ n fits. (omega (arith, fits.1), fits)) (ranged-exact (λ n. n < 256) k u8_byte least most u8_byte-exact)

-- ---- words that stand for numbers

file_kind_of-code : (code : ℕ) → IsInRange 1 2 code → file_kind_code (file_kind_of code) ≡ code
file_kind_of-code zero fits = absurd (omega (arith, fits.0))
file_kind_of-code (suc zero) fits = refl
file_kind_of-code (suc (suc zero)) fits = refl
file_kind_of-code (suc (suc (suc code))) fits = absurd (omega (arith, fits.1))

code-file_kind_of : (kind : FileKind) → IsInRange 1 2 (file_kind_code kind) × (file_kind_of (file_kind_code kind) ≡ kind)
code-file_kind_of File = ((lit≤ tt, lit≤ tt), refl)
code-file_kind_of Directory = ((lit≤ tt, lit≤ tt), refl)

pub file_kind-exact : (k : ℕ) → IsExact (λ kind. ⊤) (file_kind k)
unfolding file_kind
file_kind-exact k = mapped-exact (IsInRange 1 2) (λ kind. ⊤) (ranged k u8_byte 1 2) file_kind_of file_kind_code (λ code fits. (tt, file_kind_of-code code fits)) (λ kind fits. code-file_kind_of kind) (byte_within-exact k 1 2 (lit< tt))

snap_state_of-code : (code : ℕ) → IsInRange 1 3 code → snap_state_code (snap_state_of code) ≡ code
snap_state_of-code zero fits = absurd (omega (arith, fits.0))
snap_state_of-code (suc zero) fits = refl
snap_state_of-code (suc (suc zero)) fits = refl
snap_state_of-code (suc (suc (suc zero))) fits = refl
snap_state_of-code (suc (suc (suc (suc code)))) fits = absurd (omega (arith, fits.1))

code-snap_state_of : (state : SnapState) → IsInRange 1 3 (snap_state_code state) × (snap_state_of (snap_state_code state) ≡ state)
code-snap_state_of LiveLeaf = ((lit≤ tt, lit≤ tt), refl)
code-snap_state_of Interior = ((lit≤ tt, lit≤ tt), refl)
code-snap_state_of DeadLeaf = ((lit≤ tt, lit≤ tt), refl)

pub snap_state-exact : (k : ℕ) → IsExact (λ state. ⊤) (snap_state k)
unfolding snap_state
snap_state-exact k = mapped-exact (IsInRange 1 3) (λ state. ⊤) (ranged k u8_byte 1 3) snap_state_of snap_state_code (λ code fits. (tt, snap_state_of-code code fits)) (λ state fits. code-snap_state_of state) (byte_within-exact k 1 3 (lit< tt))

flag_of-code : (code : ℕ) → IsInRange 0 1 code → cond (eqb code 1) 1 0 ≡ code
flag_of-code zero fits = refl
flag_of-code (suc zero) fits = refl
flag_of-code (suc (suc code)) fits = absurd (omega (arith, fits.1))

code-flag_of : (yes : Bool) → IsInRange 0 1 (cond yes 1 0) × (eqb (cond yes 1 0) 1 ≡ yes)
code-flag_of true = ((lit≤ tt, lit≤ tt), refl)
code-flag_of false = ((lit≤ tt, lit≤ tt), refl)

pub flag-exact : (k : ℕ) → IsExact (λ yes. ⊤) (flag k)
unfolding flag
flag-exact k = mapped-exact (IsInRange 0 1) (λ yes. ⊤) (ranged k u8_byte 0 1) (λ n. eqb n 1) (λ yes. cond yes 1 0) (λ code fits. (tt, flag_of-code code fits)) (λ yes fits. code-flag_of yes) (byte_within-exact k 0 1 (lit< tt))

pub name-exact : (k : ℕ) → IsExact (λ bytes. AreBytes bytes × IsName bytes) (name k)
unfolding name
name-exact k = mapped-exact (λ (p : ℕ × List ℕ). IsInRange 1 255 p.0 × ((length p.1 ≡ p.0) × AreBytes p.1)) (λ bytes. AreBytes bytes × IsName bytes) (followed (ranged k u8_byte 1 255) raw) (λ p. p.1) (λ bytes. (length bytes, bytes))
    (λ p fits. ((fits.1.1, subst (λ n. IsInRange 1 255 n) (sym fits.1.0) fits.0), ap (λ n. (n, p.1)) fits.1.0))
    (λ bytes fits. ((fits.1, (refl, fits.0)), refl))
    (followed-exact (IsInRange 1 255) (λ n bytes. (length bytes ≡ n) × AreBytes bytes) (ranged k u8_byte 1 255) raw (byte_within-exact k 1 255 (lit< tt)) raw-exact)

pub position-exact : IsExact PosFits position
unfolding position
position-exact = mapped-exact (λ (p : ℕ × (ℕ × ℕ)). (p.0 < 2 ^ 64) × ((p.1.0 < 2 ^ 64) × (p.1.1 < 2 ^ 32))) PosFits (both u64_le (both u64_le u32_le)) (λ p. record { inode = p.0; offset = p.1.0; snapshot = p.1.1 }) (λ pos. (pos.inode, (pos.offset, pos.snapshot)))
    (λ p fits. (record { inode = fits.0; offset = fits.1.0; snapshot = fits.1.1 }, refl))
    (λ pos fits. ((fits.inode, (fits.offset, fits.snapshot)), refl))
    (followed-exact (λ n. n < 2 ^ 64) (λ _ p. (p.0 < 2 ^ 64) × (p.1 < 2 ^ 32)) u64_le (λ _. both u64_le u32_le) u64_le-exact (λ _. followed-exact (λ n. n < 2 ^ 64) (λ _ n. n < 2 ^ 32) u64_le (λ _. u32_le) u64_le-exact (λ _. u32_le-exact)))
