-- Which of some keys a block belongs to in an id.
use Rattle.std.specs.Prelude.{ℕ, ◌-◌, Bool, true, false, ◌&&◌, nat_lt, Option, Some, None, List, map, slice_index, if◌then◌else◌}
use Rattle.std.specs.List.{fold}
use Rattle.snap_tree.specs.Snaps.{Snaps, is_ancestor_of}
use Rattle.vol_types.specs.declared.keys.Key.{Key}
use Rattle.vol_types.specs.declared.pointers.Pointer.{Pointer}
use Rattle.vol_types.specs.declared.values.Value.{Value}
use Rattle.vol_types.specs.declared.values.Value.TheVariants as values
use Rattle.key_meaning.specs.Blocks.{blocks_of, covers}
use Rattle.extent_ops.specs.Cutting.{pointer_behind}

-- whether what stands at an end covers a block
abbrev pub covers_maybe : ℕ → Option Value → ℕ → Bool
covers_maybe end None block = false
covers_maybe end (Some value) block = covers end value block

-- whether a key is nearer than what was found before
abbrev pub is_nearer : Option Key → Key → Bool
is_nearer None key = true
is_nearer (Some best) key = nat_lt key.pos.snapshot best.pos.snapshot

-- the nearer one of what was found and a key, if it counts
abbrev pub nearer : Snaps → ℕ → ℕ → Option Key → Key → Option Key
nearer snaps id block best key =
    if covers_maybe key.pos.offset key.value block && is_ancestor_of snaps key.pos.snapshot id && is_nearer best key then Some key else best

-- the key of the nearest id of a chain that covers a block
abbrev pub nearest_of : Snaps → ℕ → ℕ → List Key → Option Key
nearest_of snaps id block keys = fold (nearer snaps id block) None keys

-- the block of an extent that a key holds, at a place in it: where its copies lie, and its digest
abbrev pub found_at : ℕ → Value → Option (List Pointer × ℕ)
found_at index (values.Extent extent) = Some (map (pointer_behind index) extent.pointers, slice_index extent.digests index)
found_at index other = None

-- what a key shows of a block that it covers
abbrev pub found_in : ℕ → ℕ → Option Value → Option (List Pointer × ℕ)
found_in block end None = None
found_in block end (Some value) = found_at (block - (end - blocks_of value)) value
