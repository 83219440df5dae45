-- Over which stretches an ancestor has an extent, from the last key down, and holes over stretches.
use Rattle.std.specs.Prelude.{ℕ, ◌-◌, ◌^◌, Bool, false, ◌&&◌, nat_lt, max, min, Option, Some, None, List, [], ◌∷◌, ◌++◌, map, if◌then◌else◌}
use Rattle.snap_tree.specs.Snaps.{Snaps, is_ancestor_of}
use Rattle.vol_types.specs.declared.keys.Key.{Key}
use Rattle.vol_types.specs.declared.values.Value.{Value}
use Rattle.vol_types.specs.declared.values.Value.TheVariants as values
use Rattle.key_meaning.specs.Blocks.{blocks_of}
use Rattle.extent_ops.specs.Content.{is_extent}
use Rattle.extent_ops.specs.Stretches.{between}
use Rattle.extent_ops.specs.declared.cutting.Change.{Change}
use Rattle.extent_ops.specs.declared.stretches.Stretch.{Stretch}

-- whether there is an extent
abbrev pub is_extent_maybe : Option Value → Bool
is_extent_maybe None = false
is_extent_maybe (Some value) = is_extent value

-- whether a key is an extent of an id in a chain
abbrev pub is_counted : Snaps → ℕ → Key → Bool
is_counted snaps parent key = is_extent_maybe key.value && is_ancestor_of snaps key.pos.snapshot parent

-- how many blocks a value covers, if there is one
abbrev pub blocks_maybe : Option Value → ℕ
blocks_maybe None = 0
blocks_maybe (Some value) = blocks_of value

-- what of a key lies in a stretch, below a block
abbrev pub piece_of : Stretch → ℕ → Key → Stretch
piece_of stretch low key = record { first = max stretch.first (key.pos.offset - blocks_maybe key.value); end = min key.pos.offset low }

-- the lowest block, with a further piece
abbrev pub low_of : Stretch → ℕ → ℕ
low_of piece low = if nat_lt piece.first piece.end then piece.first else low

-- the lowest block of a stretch over which a counted key lies; the end of the stretch where none does
abbrev pub lowest : Snaps → ℕ → Stretch → List Key → ℕ
lowest snaps parent stretch [] = stretch.end
lowest snaps parent stretch (key ∷ keys) =
    if is_counted snaps parent key then low_of (piece_of stretch (lowest snaps parent stretch keys) key) (lowest snaps parent stretch keys) else lowest snaps parent stretch keys

-- the parts of a stretch over which counted keys lie, from the last one down
abbrev pub swept : Snaps → ℕ → Stretch → List Key → List Stretch
swept snaps parent stretch [] = []
swept snaps parent stretch (key ∷ keys) =
    if is_counted snaps parent key
    then swept snaps parent stretch keys ++ between (piece_of stretch (lowest snaps parent stretch keys) key).first (piece_of stretch (lowest snaps parent stretch keys) key).end
    else swept snaps parent stretch keys

-- the change that puts a hole over a stretch
abbrev pub hole_of : Stretch → Change
hole_of stretch = record { end = stretch.end; value = Some (values.Hole (min (stretch.end - stretch.first) (2 ^ 32 - 1))) }

-- the changes that hide in a stretch what the ids of a chain have, if there is one
abbrev pub holes_to_hide : Snaps → Option ℕ → Stretch → List Key → List Change
holes_to_hide snaps None stretch keys = []
holes_to_hide snaps (Some parent) stretch keys = map hole_of (swept snaps parent stretch keys)
