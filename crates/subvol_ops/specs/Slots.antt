-- What a plan reads of a slot's subvolumes, of the ids and of the counter of ids.
use Rattle.std.specs.Prelude.{ℕ, ◌^◌, ◌==◌, ◌&&◌, nat_le, nat_lt, List, map, Option, Some, None, option_and_then, option_map, unwrap_or, if◌then◌else◌}
use Rattle.std.specs.Ordering.{is_eq, nat_cmp}
use Rattle.id_steps.specs.Entries.{sub_of}
use Rattle.id_steps.specs.Steps.{moved_to}
use Rattle.key_meaning.specs.Forest.{counter_of}
use Rattle.snap_tree.specs.Snaps.{Snaps}
use Rattle.subvol_ops.specs.declared.slots.Leaf.{Leaf}
use Rattle.vol_digest.specs.Digests.{slot_of}
use Rattle.vol_types.specs.Maps.{value_at}
use Rattle.vol_types.specs.Ranges.{name_cmp}
use Rattle.vol_types.specs.declared.keys.Key.{Key}
use Rattle.vol_types.specs.declared.values.Snap.{Snap}
use Rattle.vol_types.specs.declared.values.Sub.{Sub}

-- a subvolume by its id and its root, with the record of the id
abbrev pub leaf_of : Sub → Snap → Leaf
leaf_of sub snap = record { id = sub.id; root = sub.root; snap = snap }

-- that of a name among the subvolumes of a slot, where the name has one and its id has a record
abbrev pub leaf_among : Snaps → List ℕ → List Sub → Option Leaf
leaf_among snaps name subs = option_and_then (λ (sub : Sub). option_map (leaf_of sub) (value_at nat_cmp sub.id snaps)) (sub_of name subs)

-- the subvolumes of a slot, where that of a name goes on in another id
abbrev pub with_moved : List ℕ → ℕ → List Sub → List Sub
with_moved name id subs = map (λ (sub : Sub). if is_eq (name_cmp name sub.name) then moved_to id sub else sub) subs

-- what the slot of the copy has once that of the source was changed, where it had these others
abbrev pub slot_taken : List ℕ → List ℕ → List Sub → List Sub → List Sub
slot_taken source copy sources others = if slot_of source == slot_of copy then sources else others

-- the next id, where the counter stands at an id and as many are left as are drawn
abbrev pub next_id : ℕ → ℕ → Option ℕ
next_id drawn next = if nat_lt next (2 ^ 32) && nat_le drawn next then Some next else None

-- what a key says that a counter stands at, which is 0 where there is no key
abbrev pub count_in_key : Option Key → ℕ
count_in_key key = unwrap_or (counter_of (option_and_then (λ (k : Key). k.value) key)) 0
