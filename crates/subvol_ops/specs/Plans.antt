-- The updates by which a subvolume is made, a snapshot is made of one, and one is removed, as functions of the keys; or why they are
-- refused.
use Rattle.std.specs.Prelude.{ℕ, ◌-◌, Bool, nat_le, is_some, List, length, Result, Ok}
use Rattle.std.specs.Option.{ok_or}
use Rattle.std.specs.Ordering.{nat_cmp}
use Rattle.forest_ops.specs.Names.{names_per_slot}
use Rattle.forest_ops.specs.Refusals.{◌>>=◌, refused_if}
use Rattle.forest_ops.specs.Steps.{numbers_per_client}
use Rattle.forest_ops.specs.Subvolumes.{good_subvolume, max_subvolumes}
use Rattle.forest_ops.specs.declared.operation.Cause.{Cause}
use Rattle.forest_ops.specs.declared.operation.Cause.TheVariants.{Crowded, Exists, IdsSpent, NoSubvolume, TooMany}
use Rattle.id_steps.specs.Entries.{sub_of}
use Rattle.id_steps.specs.SlotLists.{with_sub, without_sub}
use Rattle.id_steps.specs.Steps.{copied_to, made_sub, made_updates, removal_updates, slot_then, snapshot_updates}
use Rattle.key_meaning.specs.Forest.{next_in, subs_in}
use Rattle.key_meaning.specs.Tidy.{id_counter}
use Rattle.key_meaning.specs.Visible.{snaps_of}
use Rattle.snap_tree.specs.Snaps.{Snaps, live_leaves}
use Rattle.subvol_ops.specs.Slots.{next_id, with_moved}
use Rattle.vol_digest.specs.Digests.{slot_of}
use Rattle.vol_types.specs.KeyMaps.{KeyMap}
use Rattle.vol_types.specs.Maps.{value_at}
use Rattle.vol_types.specs.declared.keys.Update.{Update}
use Rattle.vol_types.specs.declared.values.Snap.{Snap}
use Rattle.vol_types.specs.declared.values.Sub.{Sub}

-- whether a slot takes a new subvolume of a name where there are so many: none of the slot has the name, the slot has room, and there
-- is room for one more
abbrev pub room_among : List ℕ → List Sub → ℕ → Result (Unit {0}) Cause
room_among name subs count = do
  _ ← refused_if (is_some (sub_of name subs)) Exists
  _ ← refused_if (nat_le names_per_slot (length subs)) Crowded
  refused_if (nat_le max_subvolumes count) TooMany

-- whether the keys take a new subvolume of a name; there are as many as live leaves
abbrev pub room_in : KeyMap → List ℕ → Result (Unit {0}) Cause
room_in keys name = room_among name (subs_in keys (slot_of name)) (live_leaves (snaps_of keys))

-- the subvolume of a name among those of a slot, and the record of its id
abbrev pub found_among : Snaps → List ℕ → List Sub → Result (Sub × Snap) Cause
found_among snaps name subs = do
  sub ← ok_or (sub_of name subs) NoSubvolume
  snap ← ok_or (value_at nat_cmp sub.id snaps) NoSubvolume
  Ok (sub, snap)

-- the subvolume of a name, and the record of its id
abbrev pub found_in : KeyMap → List ℕ → Result (Sub × Snap) Cause
found_in keys name = found_among (snaps_of keys) name (subs_in keys (slot_of name))

-- the updates by which a client makes a subvolume whose slot has these others
abbrev pub updates_to_make : KeyMap → ℕ → List ℕ → List Sub → List Update
updates_to_make keys client name subs = made_updates keys client name (with_sub (made_sub keys client name) subs)

-- the same, where the client has a number left and an id is left
abbrev pub made_drawn : KeyMap → ℕ → List ℕ → List Sub → Result (List Update) Cause
made_drawn keys client name subs = do
  _ ← refused_if (nat_le numbers_per_client (next_in keys client)) IdsSpent
  _ ← ok_or (next_id 1 (next_in keys id_counter)) IdsSpent
  Ok (updates_to_make keys client name subs)

-- the updates after which there is an empty subvolume of a name, or the first refusal
abbrev pub subvolume_made : KeyMap → ℕ → List ℕ → Result (List Update) Cause
subvolume_made keys client name = do
  _ ← good_subvolume name
  _ ← room_in keys name
  made_drawn keys client name (subs_in keys (slot_of name))

-- what the slot of the source comes to have
abbrev pub sources_then : KeyMap → List ℕ → List Sub
sources_then keys source = with_moved source (next_in keys id_counter) (subs_in keys (slot_of source))

-- what the slot of the copy comes to have
abbrev pub copies_then : KeyMap → Sub → List ℕ → List ℕ → Bool → List Sub
copies_then keys sub source copy locked = with_sub (copied_to (next_in keys id_counter - 1) copy locked sub) (slot_then keys source copy (sources_then keys source))

-- the updates by which a snapshot is made of a subvolume in a leaf
abbrev pub updates_to_copy : KeyMap → Sub → Snap → List ℕ → List ℕ → Bool → List Update
updates_to_copy keys sub leaf source copy locked = snapshot_updates keys sub leaf source copy (sources_then keys source) (copies_then keys sub source copy locked)

-- the same, where two ids are left
abbrev pub copied_drawn : KeyMap → List ℕ → List ℕ → Bool → Sub × Snap → Result (List Update) Cause
copied_drawn keys source copy locked found = do
  _ ← ok_or (next_id 2 (next_in keys id_counter)) IdsSpent
  Ok (updates_to_copy keys found.0 found.1 source copy locked)

-- the same, where the copy's name may be new
abbrev pub found_copied : KeyMap → List ℕ → List ℕ → Bool → Sub × Snap → Result (List Update) Cause
found_copied keys source copy locked found = do
  _ ← room_in keys copy
  copied_drawn keys source copy locked found

-- the updates after which there is a snapshot of a subvolume under another name, or the first refusal
abbrev pub snapshot_made : KeyMap → List ℕ → List ℕ → Bool → Result (List Update) Cause
snapshot_made keys source copy locked = do
  _ ← good_subvolume source
  _ ← good_subvolume copy
  found ← found_in keys source
  found_copied keys source copy locked found

-- the updates by which a subvolume goes from a slot that has these
abbrev pub updates_to_remove : List ℕ → List Sub → Sub × Snap → List Update
updates_to_remove name subs found = removal_updates name found.0 found.1 (without_sub name subs)

-- the updates after which there is no subvolume of a name, or the first refusal
abbrev pub subvolume_removed : KeyMap → List ℕ → Result (List Update) Cause
subvolume_removed keys name = do
  _ ← good_subvolume name
  found ← found_in keys name
  Ok (updates_to_remove name (subs_in keys (slot_of name)) found)
