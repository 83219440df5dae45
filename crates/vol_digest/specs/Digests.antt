-- The numbers that are taken from a SHA-256 digest.
use Rattle.std.specs.Prelude.{ℕ, ◌/◌, List, take}
use Rattle.std.specs.Int.{w64, from_be_bytes}
use Rattle.sha2.specs.Sha256.{sha256}

-- the first eight bytes of the digest, read as a big-endian number
abbrev pub short_of : List ℕ → ℕ
short_of bytes = from_be_bytes w64 (take 8 (sha256 bytes))

-- half of that, rounded down: where a name stands in its directory
abbrev pub slot_of : List ℕ → ℕ
slot_of name = short_of name / 2
