-- The order of positions, and the position that follows another.
use Rattle.std.specs.Prelude.{◌≡◌, ◌≢◌, ℕ, ◌+◌, ◌-◌, ◌*◌, ◌^◌, Bool, ◌&&◌, nat_lt, if◌then◌else◌, Option, Some, None, refl}
use Rattle.std.specs.Coded.{Coded, code_by, coded×, coded_ℕ}
use Rattle.std.specs.Ordering.{nat_cmp, ordering_then, is_le}
use Rattle.std.specs.declared.cmp.Ordering.{Ordering}
use Rattle.std.specs.declared.cmp.Ordering.TheVariants.{Less, Greater}
use Rattle.vol_types.specs.declared.positions.Pos.{Pos}
use Rattle.vol_types.specs.Widths.{PosFits}

-- by inode, then by offset, then by snapshot
abbrev pub pos_cmp : Pos → Pos → Ordering
pos_cmp p q = ordering_then (nat_cmp p.inode q.inode) (ordering_then (nat_cmp p.offset q.offset) (nat_cmp p.snapshot q.snapshot))

-- The first position is before the second.
abbrev pub IsBefore : Pos → Pos → Type 0
IsBefore p q = pos_cmp p q ≡ Less

-- The position is one from the first to the last, both included.
abbrev pub IsWithin : Pos → Pos → Pos → Type 0
IsWithin first last p = (pos_cmp first p ≢ Greater) × (pos_cmp p last ≢ Greater)

-- whether the position is one from the first to the last, both included
abbrev pub is_within : Pos → Pos → Pos → Bool
is_within first last p = is_le (pos_cmp first p) && is_le (pos_cmp p last)

-- the least position
abbrev pub least_pos : Pos
least_pos = record { inode = 0; offset = 0; snapshot = 0 }

-- the greatest position
abbrev pub greatest_pos : Pos
greatest_pos = record { inode = 2 ^ 64 - 1; offset = 2 ^ 64 - 1; snapshot = 2 ^ 32 - 1 }

-- the position that follows, or none after the greatest one
abbrev pub next_pos : Pos → Option Pos
next_pos p =
    if nat_lt p.snapshot (2 ^ 32 - 1) then Some (record { inode = p.inode; offset = p.offset; snapshot = p.snapshot + 1 })
    else if nat_lt p.offset (2 ^ 64 - 1) then Some (record { inode = p.inode; offset = p.offset + 1; snapshot = 0 })
    else if nat_lt p.inode (2 ^ 64 - 1) then Some (record { inode = p.inode + 1; offset = 0; snapshot = 0 })
    else None

-- a position as one number, in whose order positions are: 64 bits for the inode, 64 for the offset, 32 for the snapshot
abbrev pub pos_number : Pos → ℕ
pos_number p = p.inode * 2 ^ 96 + (p.offset * 2 ^ 32 + p.snapshot)

-- The second position follows the first: it has the next number.
abbrev pub IsNext : Pos → Pos → Type 0
IsNext p q = PosFits q × (pos_number q ≡ pos_number p + 1)

-- as a triple of numbers
abbrev pub coded_pos : Coded Pos
coded_pos = code_by (ℕ × (ℕ × ℕ)) (coded× coded_ℕ (coded× coded_ℕ coded_ℕ)) (λ p. (p.inode, (p.offset, p.snapshot))) (λ t. record { inode = t.0; offset = t.1.0; snapshot = t.1.1 }) (λ _. refl)
