-- The updates by which a subvolume is made, a snapshot is made of one, and one is removed.
use Rattle.std.specs.Prelude.{ℕ, ◌+◌, ◌-◌, ◌*◌, ◌==◌, ◌++◌, Bool, false, List, [], ◌∷◌, Some, if◌then◌else◌}
use Rattle.id_steps.specs.Entries.{counter_update, subs_update}
use Rattle.id_steps.specs.Ids.{dead, split_updates}
use Rattle.key_meaning.specs.Forest.{next_in, subs_in}
use Rattle.key_meaning.specs.Numbers.{own_inode}
use Rattle.key_meaning.specs.Tidy.{id_counter}
use Rattle.key_steps.specs.Steps.{inode_value}
use Rattle.plain_forest.specs.Steps.{numbers_per_client}
use Rattle.snap_tree.specs.Splits.{leaf_under, snap_update}
use Rattle.vol_digest.specs.Digests.{slot_of}
use Rattle.vol_types.specs.KeyMaps.{KeyMap}
use Rattle.vol_types.specs.declared.keys.Update.{Update}
use Rattle.vol_types.specs.declared.values.FileKind.TheVariants.{Directory}
use Rattle.vol_types.specs.declared.values.Inode.{Inode}
use Rattle.vol_types.specs.declared.values.Snap.{Snap}
use Rattle.vol_types.specs.declared.values.Sub.{Sub}

-- the updates that remove the subvolume of a name: its leaf dies, and its slot has the others
abbrev pub removal_updates : List ℕ → Sub → Snap → List Sub → List Update
removal_updates name sub leaf left = snap_update sub.id (dead leaf) ∷ subs_update (slot_of name) left ∷ []

-- the source of a snapshot, which goes on in another id
abbrev pub moved_to : ℕ → Sub → Sub
moved_to id sub = record sub { id = id }

-- the copy, which has an id, a name and a lock of its own
abbrev pub copied_to : ℕ → List ℕ → Bool → Sub → Sub
copied_to id name locked sub = record { id = id; root = sub.root; read_only = locked; name = name }

-- the updates of the slots of the source and of the copy: one where their slots are one
abbrev pub slots_updates : List ℕ → List ℕ → List Sub → List Sub → List Update
slots_updates source copy sources copies =
    if slot_of source == slot_of copy then subs_update (slot_of copy) copies ∷ []
    else subs_update (slot_of source) sources ∷ subs_update (slot_of copy) copies ∷ []

-- what the slot of the copy has once that of the source was changed
abbrev pub slot_then : KeyMap → List ℕ → List ℕ → List Sub → List Sub
slot_then keys source copy sources = if slot_of source == slot_of copy then sources else subs_in keys (slot_of copy)

-- the updates that make a snapshot: the leaf of the source is split, the two slots follow, and two ids are drawn
abbrev pub snapshot_updates : KeyMap → Sub → Snap → List ℕ → List ℕ → List Sub → List Sub → List Update
snapshot_updates keys sub leaf source copy sources copies = let next = next_in keys id_counter in
    split_updates sub.id next (next - 1) leaf ++ slots_updates source copy sources copies ++ counter_update id_counter (next - 2) ∷ []

-- the inode of an empty directory
abbrev pub empty_directory : Inode
empty_directory = record { kind = Directory; links = 1; size = 0 }

-- the number that a client draws next
abbrev pub drawn_number : KeyMap → ℕ → ℕ
drawn_number keys client = client * numbers_per_client + next_in keys client

-- the subvolume that a client makes, in a new id and with a new root
abbrev pub made_sub : KeyMap → ℕ → List ℕ → Sub
made_sub keys client name = record { id = next_in keys id_counter; root = drawn_number keys client; read_only = false; name = name }

-- the updates that make it: the client's number is drawn, the new id is a root, the slot has the subvolume, the id is drawn, and the
-- root directory is put
abbrev pub made_updates : KeyMap → ℕ → List ℕ → List Sub → List Update
made_updates keys client name subs = let sub = made_sub keys client name in
    counter_update client (next_in keys client + 1) ∷ snap_update sub.id (leaf_under 0) ∷ subs_update (slot_of name) subs ∷ counter_update id_counter (sub.id - 1)
    ∷ own_inode sub.id sub.root (Some (inode_value empty_directory)) ∷ []
