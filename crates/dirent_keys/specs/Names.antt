-- What it is that an id sees another inode, or none, under one name of a directory, and the updates that make it so.
use Rattle.std.specs.Prelude.{◌≡◌, ◌≢◌, ℕ, Bool, false, nat_le, Option, Some, None, is_some, List, length, option_map, if◌then◌else◌, ⊤, Result, Ok, Err}
use Rattle.dirent_keys.specs.Links.{names_value, with_link, without_name}
use Rattle.dirent_keys.specs.declared.step.NameStep.{NameStep}
use Rattle.dirent_keys.specs.declared.step.NameStep.TheVariants.{Done, Exists, Crowded}
use Rattle.key_meaning.specs.Changes.{KeepsOtherNames}
use Rattle.key_meaning.specs.Forest.{link_named, links_in}
use Rattle.key_meaning.specs.Visible.{snaps_of, visible}
use Rattle.key_view.specs.Changes.{updates_to_see}
use Rattle.plain_forest.specs.Steps.{names_per_slot}
use Rattle.plain_forest.specs.declared.operation.Cause.{Cause}
use Rattle.plain_forest.specs.declared.operation.Cause.TheVariants as causes
use Rattle.snap_tree.specs.Snaps.{is_ancestor_of}
use Rattle.vol_digest.specs.Digests.{slot_of}
use Rattle.vol_types.specs.KeyMaps.{KeyMap, entries_of}
use Rattle.vol_types.specs.declared.keys.Update.{Update}
use Rattle.vol_types.specs.declared.positions.Btree.{Btree}
use Rattle.vol_types.specs.declared.positions.Btree.TheVariants.{Dirents}
use Rattle.vol_types.specs.declared.values.FileKind.{FileKind}
use Rattle.vol_types.specs.declared.values.Link.{Link}

-- where a name leads: the number of an inode, and its kind
abbrev pub Target : Type 0
Target = ℕ × FileKind

-- where one of some names leads, if it is among them
abbrev pub target_of : List ℕ → List Link → Option Target
target_of name links = option_map (λ link. (link.number, link.kind)) (link_named name links)

-- where a name of a directory leads in an id, if it shows there
abbrev pub target_in : KeyMap → ℕ → ℕ → List ℕ → Option Target
target_in keys id directory name = target_of name (links_in keys id directory (slot_of name))

-- The id sees the name lead there in the new key map, or nowhere, and all else that is seen stays: what the id sees under the
-- names that share the slot and at all other positions, and what ids see whose chains don't have it. No other btree changes.
pub record SeesName (old new : KeyMap) (id directory : ℕ) (name : List ℕ) (target : Option Target) : Type 0 where
  pub here : target_in new id directory name ≡ target
  pub names : KeepsOtherNames (links_in old id directory (slot_of name)) (links_in new id directory (slot_of name)) name
  pub elsewhere : (b : Btree) (i o : ℕ) → ¬ ((b ≡ Dirents) × (i ≡ directory) × (o ≡ slot_of name)) → visible new b i o id ≡ visible old b i o id
  pub others : (other : ℕ) → is_ancestor_of (snaps_of old) id other ≡ false → (b : Btree) (i o : ℕ) → visible new b i o other ≡ visible old b i o other
  pub btrees : (b : Btree) → b ≢ Dirents → entries_of new b ≡ entries_of old b
  pub ids : snaps_of new ≡ snaps_of old

-- whether a name of a directory shows in an id
abbrev pub has_name : KeyMap → ℕ → ℕ → List ℕ → Bool
has_name keys id directory name = is_some (target_in keys id directory name)

-- whether as many names as may share a slot show in an id under one of a directory
abbrev pub is_full : KeyMap → ℕ → ℕ → ℕ → Bool
is_full keys id directory slot = nat_le names_per_slot (length (links_in keys id directory slot))

-- the updates after which a directory has a further name in an id: its slot has it beside those that show there
abbrev pub updates_to_add : KeyMap → ℕ → ℕ → Link → List Update
updates_to_add keys id directory link =
    updates_to_see keys Dirents directory (slot_of link.name) id (names_value (with_link link (links_in keys id directory (slot_of link.name))))

-- the updates after which a directory doesn't have a name in an id: its slot has the others that show there
abbrev pub updates_to_remove : KeyMap → ℕ → ℕ → List ℕ → List Update
updates_to_remove keys id directory name =
    updates_to_see keys Dirents directory (slot_of name) id (names_value (without_name name (links_in keys id directory (slot_of name))))

-- what adding a name comes to: it exists where it shows, else it is crowded out where its slot is full, else it is added
abbrev pub step_to_add : KeyMap → ℕ → ℕ → Link → NameStep
step_to_add keys id directory link =
    if has_name keys id directory link.name then Exists
    else if is_full keys id directory (slot_of link.name) then Crowded
    else Done (updates_to_add keys id directory link)

-- the updates that remove a name; none where it doesn't show
abbrev pub removal_of : KeyMap → ℕ → ℕ → List ℕ → Option (List Update)
removal_of keys id directory name =
    if has_name keys id directory name then Some (updates_to_remove keys id directory name) else None

-- The updates have it, where the step has some.
abbrev pub IfDone : NameStep → (List Update → Type 0) → Type 0
IfDone (Done updates) P = P updates
IfDone Exists P = ⊤
IfDone Crowded P = ⊤

-- how the forest refuses a name that is added so
abbrev pub refusal_of : NameStep → Result (Unit {0}) Cause
refusal_of (Done updates) = Ok tt
refusal_of Exists = Err causes.Exists
refusal_of Crowded = Err causes.Crowded
