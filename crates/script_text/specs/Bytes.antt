-- Which bytes of a name stand for themselves, where it is read and where it is printed.
use Rattle.std.specs.Prelude.{ℕ, Bool, not, ◌&&◌, ◌||◌, ◌==◌, nat_le, nat_lt}

-- a byte that is printed as itself shows, and isn't `%`
abbrev pub is_plain : ℕ → Bool
is_plain byte = nat_le 33 byte && nat_le byte 126 && not (byte == 37)

-- a byte that is read as itself is plain and not `/`, or above 127
abbrev pub is_itself : ℕ → Bool
is_itself byte = nat_lt 127 byte || is_plain byte && not (byte == 47)
