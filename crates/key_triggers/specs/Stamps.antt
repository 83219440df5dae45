-- Pointers with the present generation of their bucket.
use Rattle.std.specs.Prelude.{ℕ, map, option_map, unwrap_or}
use Rattle.vol_types.specs.KeyMaps.{KeyMap, value_in}
use Rattle.vol_types.specs.declared.keys.Update.{Update}
use Rattle.vol_types.specs.declared.pointers.Place.{Place}
use Rattle.vol_types.specs.declared.pointers.Pointer.{Pointer}
use Rattle.vol_types.specs.declared.positions.Btree.TheVariants.{Alloc}
use Rattle.vol_types.specs.declared.values.Value.{Value}
use Rattle.vol_types.specs.declared.values.Value.TheVariants as values
use Rattle.key_meaning.specs.Checks.{live_of}
use Rattle.key_triggers.specs.Positions.{bucket_pos}

-- the generation of a place's bucket, and 0 where the bucket has no key
abbrev pub generation_at : KeyMap → Place → ℕ
generation_at keys place = unwrap_or (option_map (λ live. live.generation) (live_of (value_in keys Alloc (bucket_pos place)))) 0

-- the pointer with the present generation
abbrev pub stamped_pointer : KeyMap → Pointer → Pointer
stamped_pointer keys pointer = record { place = pointer.place; generation = generation_at keys pointer.place }

-- the value, of which each pointer has the present generation
abbrev pub stamped_value : KeyMap → Value → Value
stamped_value keys (values.Extent extent) = values.Extent (record { pointers = map (stamped_pointer keys) extent.pointers; digests = extent.digests })
stamped_value keys other = other

-- the update, of whose value each pointer has the present generation
abbrev pub stamped : KeyMap → Update → Update
stamped keys update = record { btree = update.btree; level = update.level; pos = update.pos; value = option_map (stamped_value keys) update.value }
