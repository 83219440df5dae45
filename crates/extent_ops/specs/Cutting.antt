-- How the extents and holes of an id are cut: which change each of their positions gets. No reader has to believe these words; what
-- the changes come to is said in `Content`.
use Rattle.std.specs.Prelude.{ℕ, ◌+◌, ◌-◌, ◌^◌, ◌==◌, Bool, ◌&&◌, ◌||◌, nat_le, min, Option, Some, None, List, [], ◌∷◌, ◌++◌, map, take, drop, if◌then◌else◌}
use Rattle.std.specs.List.{fold, list_any}
use Rattle.std.specs.Ordering.{nat_cmp}
use Rattle.vol_types.specs.Maps.{with_value}
use Rattle.vol_types.specs.declared.keys.Key.{Key}
use Rattle.vol_types.specs.declared.keys.Update.{Update}
use Rattle.vol_types.specs.declared.pointers.Pointer.{Pointer}
use Rattle.vol_types.specs.declared.positions.Btree.TheVariants.{Extents}
use Rattle.vol_types.specs.declared.values.Value.{Value}
use Rattle.vol_types.specs.declared.values.Value.TheVariants as values
use Rattle.key_meaning.specs.Blocks.{blocks_of}
use Rattle.extent_ops.specs.Stretches.{outside}
use Rattle.extent_ops.specs.declared.cutting.Change.{Change}
use Rattle.extent_ops.specs.declared.stretches.Stretch.{Stretch}

-- the pointer so many blocks further on
abbrev pub pointer_behind : ℕ → Pointer → Pointer
pointer_behind skip pointer = record { place = record { dev = pointer.place.dev; block = min (pointer.place.block + skip) (2 ^ 32 - 1) }; generation = pointer.generation }

-- so many blocks of a value, from one of them on
abbrev pub part_of : ℕ → ℕ → Value → Value
part_of skip count (values.Extent extent) = values.Extent (record { pointers = map (pointer_behind skip) extent.pointers; digests = take count (drop skip extent.digests) })
part_of skip count (values.Hole blocks) = values.Hole (min count blocks)
part_of skip count other = other

-- the change that puts a part of a value whose range begins at a block
abbrev pub put_part : ℕ → Value → Stretch → Change
put_part first value part = record { end = part.end; value = Some (part_of (part.first - first) (part.end - part.first) value) }

-- whether a part has this end
abbrev pub does_reach : ℕ → List Stretch → Bool
does_reach end parts = list_any (λ part. part.end == end) parts

-- the change that removes what stands at an end, where no part has the same end
abbrev pub removed : ℕ → List Stretch → List Change
removed end parts = if does_reach end parts then [] else record { end = end; value = None } ∷ []

-- whether a part is the whole from one block up to an end
abbrev pub is_whole : ℕ → ℕ → Stretch → Bool
is_whole first end part = part.first == first && part.end == end

-- whether one of some parts is the whole
abbrev pub has_whole : ℕ → ℕ → List Stretch → Bool
has_whole first end parts = list_any (is_whole first end) parts

-- whether a value that covers the blocks from one up to an end stays as it is, where these parts are left
abbrev pub is_kept : ℕ → ℕ → List Stretch → Bool
is_kept first end parts = nat_le end first || has_whole first end parts

-- the changes that leave some parts of a value: none where one is the whole
abbrev pub left_parts : ℕ → ℕ → Value → List Stretch → List Change
left_parts first end value parts =
    if is_kept first end parts then []
    else map (put_part first value) parts ++ removed end parts

-- the changes that leave of a value what lies outside of some stretches
abbrev pub cut_value : List Stretch → ℕ → Option Value → List Change
cut_value stretches end None = []
cut_value stretches end (Some value) = left_parts (end - blocks_of value) end value (outside (end - blocks_of value) end stretches)

-- those of a key, where it is of this id
abbrev pub cut_key : ℕ → List Stretch → Key → List Change
cut_key id stretches key = if key.pos.snapshot == id then cut_value stretches key.pos.offset key.value else []

-- those of all keys
abbrev pub cut_all : ℕ → List Stretch → List Key → List Change
cut_all id stretches [] = []
cut_all id stretches (key ∷ keys) = cut_key id stretches key ++ cut_all id stretches keys

-- a key as a change
abbrev pub change_of : Key → Change
change_of key = record { end = key.pos.offset; value = key.value }

-- the stretch that a key covers
abbrev pub stretch_at : ℕ → Option Value → Stretch
stretch_at end None = record { first = end; end = end }
stretch_at end (Some value) = record { first = end - blocks_of value; end = end }

abbrev pub stretch_of : Key → Stretch
stretch_of key = stretch_at key.pos.offset key.value

-- changes by their ends, later ones over earlier ones
abbrev pub collected : List (ℕ × Option Value) → List Change → List (ℕ × Option Value)
collected entries changes = fold (λ entries change. with_value nat_cmp change.end change.value entries) entries changes

-- the update that makes a change to a file in an id
abbrev pub update_at : ℕ → ℕ → ℕ × Option Value → Update
update_at file id entry = record { btree = Extents; level = 0; pos = record { inode = file; offset = entry.0; snapshot = id }; value = entry.1 }

-- the updates that make changes to a file in an id
abbrev pub updates_of : ℕ → ℕ → List Change → List Update
updates_of file id changes = map (update_at file id) (collected [] changes)
