-- Stretches of blocks, and what of one of them lies outside others.
use Rattle.std.specs.Prelude.{ℕ, ◌≤◌, Bool, ◌&&◌, nat_le, nat_lt, List, [], ◌∷◌, ◌++◌, max, if◌then◌else◌, ⊤}
use Rattle.std.specs.List.{list_any}
use Rattle.extent_ops.specs.declared.stretches.Stretch.{Stretch}

-- whether a block lies in a stretch
abbrev pub has_block : ℕ → Stretch → Bool
has_block block stretch = nat_le stretch.first block && nat_lt block stretch.end

-- whether a block lies in one of some stretches
abbrev pub is_within : List Stretch → ℕ → Bool
is_within stretches block = list_any (has_block block) stretches

-- Each stretch begins where the one before it ends, or later; the first at this block or later.
abbrev pub RiseFrom : ℕ → List Stretch → Type 0
RiseFrom from [] = ⊤
RiseFrom from (stretch ∷ stretches) = (from ≤ stretch.first) × (stretch.first ≤ stretch.end) × RiseFrom stretch.end stretches

-- the stretch from one block up to another, if there is a block in it
abbrev pub between : ℕ → ℕ → List Stretch
between first end = if nat_lt first end then record { first = first; end = end } ∷ [] else []

-- what of the blocks from one up to an end lies outside of some stretches, which rise
abbrev pub outside : ℕ → ℕ → List Stretch → List Stretch
outside first end [] = between first end
outside first end (stretch ∷ stretches) =
    if nat_le end stretch.first then between first end
    else between first stretch.first ++ outside (max first stretch.end) end stretches
