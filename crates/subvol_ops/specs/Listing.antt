-- The subvolumes, gathered slot by slot.
use Rattle.std.specs.Prelude.{◌≡◌, ◌<◌, ◌≤◌, ℕ, nat_lt, List, [], ◌∷◌, Option, None, Some, if◌then◌else◌}
use Rattle.key_meaning.specs.Forest.{subs_in, subs_of}
use Rattle.subvol_ops.specs.declared.listing.Entry.{Entry}
use Rattle.vol_types.specs.KeyMaps.{KeyMap}
use Rattle.vol_types.specs.Maps.{with_value}
use Rattle.vol_types.specs.Ranges.{name_cmp}
use Rattle.vol_types.specs.declared.FlaggedName.{FlaggedName}
use Rattle.vol_types.specs.declared.keys.Key.{Key}
use Rattle.vol_types.specs.declared.values.Sub.{Sub}

-- the flag of a subvolume: 1 where it may only be read, and else 0
abbrev pub flag_of : Sub → ℕ
flag_of sub = if sub.read_only then 1 else 0

-- names with flags, after those of some subvolumes were put among them; of two that are equal the first stays
abbrev pub with_subs : List Sub → List (List ℕ × ℕ) → List (List ℕ × ℕ)
with_subs [] entries = entries
with_subs (sub ∷ subs) entries = with_value name_cmp sub.name (flag_of sub) (with_subs subs entries)

-- a name with its flag
abbrev pub flagged_name : List ℕ × ℕ → FlaggedName
flagged_name entry = record { name = entry.0; flag = entry.1 }

-- the slot of a key with the subvolumes that it holds, where it isn't before a slot
abbrev pub slot_of_key : ℕ → Option Key → Option Entry
slot_of_key from None = None
slot_of_key from (Some key) = if nat_lt key.pos.offset from then None else Some (record { slot = key.pos.offset; subs = subs_of key.value })

-- The slot is the first from a number on that has subvolumes, and has these; or there is none.
abbrev pub HasNext : KeyMap → ℕ → Option Entry → Type 0
HasNext keys from None = (slot : ℕ) → from ≤ slot → subs_in keys slot ≡ []
HasNext keys from (Some entry) = (entry.subs ≡ subs_in keys entry.slot) × ((slot : ℕ) → from ≤ slot → slot < entry.slot → subs_in keys slot ≡ [])
