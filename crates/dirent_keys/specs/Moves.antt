-- What it is that a name moves in an id, and the updates that move it.
use Rattle.std.specs.Prelude.{◌≡◌, ◌≢◌, ◌==◌, ◌&&◌, ◌⊎◌, ◌++◌, ℕ, Bool, false, nat_le, Option, Some, None, IsSome, Result, is_some, List, [], length, if◌then◌else◌}
use Rattle.dirent_keys.specs.Links.{names_value, with_link, without_name}
use Rattle.dirent_keys.specs.Names.{Target, has_name, target_in, updates_to_remove}
use Rattle.dirent_keys.specs.declared.step.NameStep.{NameStep}
use Rattle.dirent_keys.specs.declared.step.NameStep.TheVariants as steps
use Rattle.key_meaning.specs.Forest.{link_named, links_in}
use Rattle.key_meaning.specs.Visible.{snaps_of, visible}
use Rattle.key_steps.specs.Shown.{Shown, shown_in, with_links}
use Rattle.key_view.specs.Changes.{updates_to_see}
use Rattle.plain_forest.specs.Forest.{Names}
use Rattle.plain_forest.specs.Steps.{◌>>=◌, count_in_slot, names_per_slot, refused_if}
use Rattle.plain_forest.specs.declared.operation.Cause.{Cause}
use Rattle.plain_forest.specs.declared.operation.Cause.TheVariants.{Exists, Crowded}
use Rattle.snap_tree.specs.Snaps.{is_ancestor_of}
use Rattle.vol_digest.specs.Digests.{slot_of}
use Rattle.vol_types.specs.KeyMaps.{KeyMap, entries_of}
use Rattle.vol_types.specs.Maps.{value_at, without}
use Rattle.vol_types.specs.Ranges.{name_cmp}
use Rattle.vol_types.specs.declared.keys.Update.{Update}
use Rattle.vol_types.specs.declared.positions.Btree.{Btree}
use Rattle.vol_types.specs.declared.positions.Btree.TheVariants.{Dirents}
use Rattle.vol_types.specs.declared.values.Link.{Link}

-- whether two names, each of a directory, stand under one slot
abbrev pub share_slot : ℕ → List ℕ → ℕ → List ℕ → Bool
share_slot from name to other = from == to && slot_of name == slot_of other

-- the names that show under the slot of the new name once the old one is gone
abbrev pub links_left : KeyMap → ℕ → ℕ → List ℕ → ℕ → List ℕ → List Link
links_left keys id from name to other =
    if share_slot from name to other then without_name name (links_in keys id to (slot_of other)) else links_in keys id to (slot_of other)

-- the names of a slot, where it has room for a further one
abbrev pub with_room : List Link → Option (List Link)
with_room links = if nat_le names_per_slot (length links) then None else Some links

-- the updates after which the old name is gone, where the new one has another slot
abbrev pub updates_to_leave : KeyMap → ℕ → ℕ → List ℕ → ℕ → List ℕ → List Update
updates_to_leave keys id from name to other = if share_slot from name to other then [] else updates_to_remove keys id from name

-- the updates after which the old name is gone and the new one leads to an inode: one at the slot where both stand under one,
-- and else those of each slot
abbrev pub updates_to_move : KeyMap → ℕ → ℕ → List ℕ → ℕ → Link → List Update
updates_to_move keys id from name to link =
    updates_to_leave keys id from name to link.name
    ++ updates_to_see keys Dirents to (slot_of link.name) id (names_value (with_link link (links_left keys id from name to link.name)))

-- what moving a name comes to: the new one exists where it shows, else it is crowded out where its slot is full without the
-- old one, else the name is moved
abbrev pub step_to_move : KeyMap → ℕ → ℕ → List ℕ → ℕ → Link → NameStep
step_to_move keys id from name to link =
    if has_name keys id to link.name then steps.Exists
    else if nat_le names_per_slot (length (links_left keys id from name to link.name)) then steps.Crowded
    else steps.Done (updates_to_move keys id from name to link)

-- what an id shows with a further name of a directory
abbrev pub shown_with : KeyMap → ℕ → ℕ → Link → Shown
shown_with keys id to link = with_links to (slot_of link.name) (with_link link (links_in keys id to (slot_of link.name))) (shown_in keys id)

-- what it shows once the old name is taken from these
abbrev pub shown_moved : KeyMap → ℕ → ℕ → List ℕ → ℕ → Link → Shown
shown_moved keys id from name to link = with_links from (slot_of name) (without_name name ((shown_with keys id to link).links from (slot_of name))) (shown_with keys id to link)

-- The old name and the new one are two, or the old one shows: then it is the new one only where that exists.
abbrev pub IsMove : KeyMap → ℕ → ℕ → List ℕ → ℕ → List ℕ → Type 0
IsMove keys id from name to other = (¬ ((from ≡ to) × (name ≡ other))) ⊎ IsSome (target_in keys id from name)

-- In the new key map the id doesn't see the old name and sees the new one lead there, and all else that is seen stays: all
-- other names under each slot, all other positions, and what ids see whose chains don't have it. No other btree changes.
pub record MovesName (old new : KeyMap) (id from : ℕ) (name : List ℕ) (to : ℕ) (other : List ℕ) (target : Target) : Type 0 where
  pub gone : target_in new id from name ≡ None
  pub here : target_in new id to other ≡ Some target
  pub names : (directory slot : ℕ) (another : List ℕ) → ¬ ((directory ≡ from) × (another ≡ name)) → ¬ ((directory ≡ to) × (another ≡ other))
      → link_named another (links_in new id directory slot) ≡ link_named another (links_in old id directory slot)
  pub elsewhere : (b : Btree) (i o : ℕ) → ¬ ((b ≡ Dirents) × (i ≡ from) × (o ≡ slot_of name)) → ¬ ((b ≡ Dirents) × (i ≡ to) × (o ≡ slot_of other))
      → visible new b i o id ≡ visible old b i o id
  pub others : (another : ℕ) → is_ancestor_of (snaps_of old) id another ≡ false → (b : Btree) (i o : ℕ) → visible new b i o another ≡ visible old b i o another
  pub btrees : (b : Btree) → b ≢ Dirents → entries_of new b ≡ entries_of old b
  pub ids : snaps_of new ≡ snaps_of old

-- whether a directory takes the new name of one that moves: it isn't there, and its slot has room without the old one, where that
-- goes from the same directory
abbrev pub check_move : Bool → List ℕ → List ℕ → Names → Result (Unit {0}) Cause
check_move within name other names = do
  _ ← refused_if (is_some (value_at name_cmp other names)) Exists
  refused_if (nat_le names_per_slot (count_in_slot (slot_of other) (if within then without name_cmp name names else names))) Crowded
