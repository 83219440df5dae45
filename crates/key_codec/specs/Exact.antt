-- The law that formats keep: each value that fits has one encoding, which reading finds, and a fault is the first one.
use Rattle.std.specs.Prelude.{◌≡◌, ◌≢◌, ℕ, ◌<◌, ◌++◌, List, length, Ok, Err}
use Rattle.vol_types.specs.Widths.{AreBytes}
use Rattle.key_codec.specs.declared.fault.KeyFault.TheVariants.{Short}
use Rattle.key_codec.specs.Formats.{FormatOf, Format}

-- Values that fit and their encodings belong together, and reading finds them: what is read fits and is encoded so; what is encoded so is read, whatever follows it; a encoding that is cut is too short, which is the fault short; and another fault stays the first one, whatever follows the bytes.
pub record IsExactBut {E A : Type 0} (short : E) (Fits : A → Type 0) (format : FormatOf E A) : Type 0 where
  pub found : (bytes : List ℕ) (x : A) (rest : List ℕ) → AreBytes bytes → format.read bytes ≡ Ok (x, rest) → Fits x × (bytes ≡ format.encode x ++ rest)
  pub only : (x : A) (rest : List ℕ) → Fits x → format.read (format.encode x ++ rest) ≡ Ok (x, rest)
  pub cut : (x : A) (prefix rest : List ℕ) → Fits x → format.encode x ≡ prefix ++ rest → 0 < length rest → format.read prefix ≡ Err short
  pub settled : (bytes more : List ℕ) (fault : E) → AreBytes bytes → fault ≢ short → format.read bytes ≡ Err fault → format.read (bytes ++ more) ≡ Err fault

-- The format of keys or their parts is exact, where Short is the fault of a encoding that is cut.
abbrev pub IsExact : {A : Type 0} (Fits : A → Type 0) (format : Format A) → Type 0
IsExact Fits format = IsExactBut Short Fits format
