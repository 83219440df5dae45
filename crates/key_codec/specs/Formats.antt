-- What a format is, and how formats are made of formats: how values are encoded as bytes, and how they are read from the left up to the first fault.
use Rattle.std.specs.Prelude.{ℕ, zero, suc, Bool, true, ◌++◌, List, [], ◌∷◌, length, take, drop, Option, Some, None, Result, Ok, Err, nat_lt, if◌then◌else◌}
use Rattle.std.specs.List.{flat_map}
use Rattle.std.specs.Int.{Width, w32, w64, byte_len, from_le_bytes, to_le_bytes, is_in_range}
use Rattle.std.specs.Ordering.{is_lt}
use Rattle.std.specs.declared.cmp.Ordering.{Ordering}
use Rattle.key_codec.specs.declared.fault.KeyFault.{KeyFault}
use Rattle.key_codec.specs.declared.fault.KeyFault.TheVariants.{Short, Range}

-- A format encodes each value as bytes, and reads one off the start of bytes: it gives the value and the bytes after it, or the first fault, which is of type E.
pub record FormatOf (E A : Type 0) : Type 0 where
  pub encode : A → List ℕ
  pub read : List ℕ → Result (A × List ℕ) E

-- a format of keys or their parts
abbrev pub Format : Type 0 → Type 0
Format A = FormatOf KeyFault A

-- What was read goes to the next step, and the first fault ends the reading.
infixl 10 ◌>>=◌
abbrev pub ◌>>=◌ : {E A B : Type 0} → Result A E → (A → Result B E) → Result B E
(Ok x) >>= f = f x
(Err fault) >>= f = Err fault

-- the first byte, and those after it
abbrev pub first_byte : List ℕ → Result (ℕ × List ℕ) KeyFault
first_byte [] = Err Short
first_byte (b ∷ rest) = Ok (b, rest)

-- so many bytes, and those after them
abbrev pub first_bytes : ℕ → List ℕ → Result (List ℕ × List ℕ) KeyFault
first_bytes n bytes = if nat_lt (length bytes) n then Err Short else Ok (take n bytes, drop n bytes)

-- a number in one byte
unfoldable pub u8_byte : Format ℕ
u8_byte = record { encode = λ n. n ∷ []; read = first_byte }

-- so many bytes as they are
abbrev pub fixed : ℕ → Format (List ℕ)
fixed n = record { encode = λ bytes. bytes; read = first_bytes n }

-- a value that stands for another: made from what is read, and seen as what is encoded
abbrev pub mapped : {E A B : Type 0} → FormatOf E A → (A → B) → (B → A) → FormatOf E B
mapped format make see = record {
  encode = λ y. format.encode (see y);
  read = λ bytes. do
    x ← format.read bytes
    Ok (make x.0, x.1);
}

-- a number of this width, the lowest byte first
abbrev pub le_number : Width → Format ℕ
le_number w = mapped (fixed (byte_len w)) (from_le_bytes w) (to_le_bytes w)

-- a number in four bytes, the lowest first
unfoldable pub u32_le : Format ℕ
u32_le = le_number w32

-- a number in eight bytes, the lowest first
unfoldable pub u64_le : Format ℕ
u64_le = le_number w64

-- the bytes of a name or the like, as they are
unfoldable pub raw : ℕ → Format (List ℕ)
raw n = fixed n

-- a value that passes a test, with the fault of each that doesn't
abbrev pub checked_by : {E A : Type 0} → FormatOf E A → (A → Bool) → (A → E) → FormatOf E A
checked_by format test fault = record {
  encode = format.encode;
  read = λ bytes. do
    x ← format.read bytes
    if test x.0 then Ok x else Err (fault x.0);
}

-- a value that passes a test, with the fault of one that doesn't
abbrev pub checked : {E A : Type 0} → FormatOf E A → (A → Bool) → E → FormatOf E A
checked format test fault = checked_by format test (λ _. fault)

-- field number k: a number from the least to the most, both included
unfoldable pub ranged : ℕ → Format ℕ → ℕ → ℕ → Format ℕ
ranged k format least most = checked format (is_in_range least most) (Range k)

-- one field and then another, whose format may depend on the first one's value
abbrev pub followed : {E A B : Type 0} → FormatOf E A → (A → FormatOf E B) → FormatOf E (A × B)
followed first second = record {
  encode = λ x. first.encode x.0 ++ (second x.0).encode x.1;
  read = λ bytes. do
    x ← first.read bytes
    y ← (second x.0).read x.1
    Ok ((x.0, y.0), y.1);
}

-- one field and then another
abbrev pub both : {E A B : Type 0} → FormatOf E A → FormatOf E B → FormatOf E (A × B)
both first second = followed first (λ _. second)

-- so many items are read, each by a format that may depend on the item before it
abbrev pub read_items : {E A : Type 0} → (Option A → FormatOf E A) → Option A → ℕ → List ℕ → Result (List A × List ℕ) E
read_items item before zero bytes = Ok ([], bytes)
read_items item before (suc n) bytes = do
  x ← (item before).read bytes
  xs ← read_items item (Some x.0) n x.1
  Ok (x.0 ∷ xs.0, xs.1)

-- a list of so many items, encoded one after the other
unfoldable pub items : {E A : Type 0} → (Option A → FormatOf E A) → ℕ → FormatOf E (List A)
items item n = record { encode = flat_map (item None).encode; read = read_items item None n }

-- field number k: a count from 1 to the most, in one byte, and then so many items
unfoldable pub counted : {A : Type 0} → ℕ → ℕ → (Option A → Format A) → Format (List A)
counted k most item = mapped (followed (ranged k u8_byte 1 most) (items item)) (λ x. x.1) (λ xs. (length xs, xs))

-- what was read, or the fault as another part names it
abbrev pub carried : {E F X : Type 0} → (F → E) → Result X F → Result X E
carried named (Ok x) = Ok x
carried named (Err fault) = Err (named fault)

-- a format whose faults are named otherwise
abbrev pub lifted : {E F A : Type 0} → (F → E) → FormatOf F A → FormatOf E A
lifted named format = record { encode = format.encode; read = λ bytes. carried named (format.read bytes) }

-- whether the value is above the one before it, if there was one
abbrev pub is_above : {X : Type 0} → (X → X → Ordering) → Option X → X → Bool
is_above cmp None x = true
is_above cmp (Some before) x = is_lt (cmp before x)
