-- The updates by which a name goes, and with it what has no other name, as functions of the keys.
use Rattle.std.specs.Prelude.{ℕ, Bool, ◌^◌, ◌-◌, ◌==◌, ◌&&◌, not, nat_lt, List, [], ◌∷◌, ◌++◌, length, Option, Some, None, Result, Ok, Err, if◌then◌else◌}
use Rattle.std.specs.List.{list_any}
use Rattle.std.specs.Option.{ok_or}
use Rattle.dirent_keys.specs.Names.{updates_to_remove}
use Rattle.forest_ops.specs.Refusals.{◌>>=◌, refused_if}
use Rattle.forest_ops.specs.declared.operation.Cause.{Cause}
use Rattle.forest_ops.specs.declared.operation.Cause.TheVariants.{IsDir, Loop, NotDir, NotEmpty, NotFound, ReadOnly}
use Rattle.inode_keys.specs.Inodes.{note_gone, with_links}
use Rattle.key_meaning.specs.Forest.{is_directory, kind_in, links_in, number_in}
use Rattle.key_view.specs.Changes.{updates_to_see}
use Rattle.name_plan.specs.Files.{file_shown}
use Rattle.path_plan.specs.Looking.{spot_along, sub_of}
use Rattle.path_plan.specs.declared.walking.Spot.{Spot}
use Rattle.plain_forest.specs.Names.{last_name, parent_names}
use Rattle.plain_forest.specs.declared.path.Path.{Path}
use Rattle.vol_types.specs.KeyMaps.{KeyMap}
use Rattle.vol_types.specs.declared.keys.Update.{Update}
use Rattle.vol_types.specs.declared.positions.Btree.TheVariants.{Inodes}
use Rattle.vol_types.specs.declared.positions.Pos.{Pos}
use Rattle.vol_types.specs.declared.values.Inode.{Inode}
use Rattle.vol_types.specs.declared.values.Value.{Value}
use Rattle.vol_types.specs.declared.values.Value.TheVariants as values

-- whether names of a directory show in an id under the slot of an entry, where it is one of this directory
abbrev pub shows_names : KeyMap → ℕ → ℕ → Pos × Value → Bool
shows_names keys id directory entry =
    entry.0.inode == directory && nat_lt entry.0.offset (2 ^ 64) && not (length (links_in keys id directory entry.0.offset) == 0)

-- whether a name of a directory shows in an id
abbrev pub has_names : KeyMap → ℕ → ℕ → Bool
has_names keys id directory = list_any (shows_names keys id directory) keys.dirents

-- the updates after which a file is gone from an id, and noted so
abbrev pub updates_to_drop : KeyMap → ℕ → ℕ → List Update
updates_to_drop keys id number = updates_to_see keys Inodes 0 number id None ++ note_gone id number ∷ []

-- the updates after which a file has one link less in an id; it goes with its last one
abbrev pub updates_to_unlink : KeyMap → ℕ → ℕ → Inode → List Update
updates_to_unlink keys id number inode =
    if inode.links == 1 then updates_to_drop keys id number
    else updates_to_see keys Inodes 0 number id (Some (values.Inode (with_links inode (inode.links - 1))))

-- the updates after which a directory has one name of a file less
abbrev pub name_unlinked : KeyMap → List ℕ → Spot → Result (List Update) Cause
name_unlinked keys name spot = do
  number ← ok_or (number_in keys spot.sub.id spot.number name) NotFound
  inode ← ok_or (file_shown keys spot.sub.id number) IsDir
  _ ← refused_if spot.sub.read_only ReadOnly
  Ok (updates_to_remove keys spot.sub.id spot.number name ++ updates_to_unlink keys spot.sub.id number inode)

-- why a root isn't unlinked
abbrev pub root_unlinked : KeyMap → Path → Result (List Update) Cause
root_unlinked keys path = do
  _ ← sub_of keys path
  Err IsDir

-- the updates after which the last name of a path is gone, where it has one, from the directory in which the path ends
abbrev pub last_unlinked : KeyMap → Path → Option (List ℕ) → Result (List Update) Cause
last_unlinked keys path None = root_unlinked keys path
last_unlinked keys path (Some name) = do
  spot ← spot_along keys path (parent_names path)
  name_unlinked keys name spot

-- the updates after which a file has the name at a path no more, or the first refusal
abbrev pub unlinked_at : KeyMap → Path → Result (List Update) Cause
unlinked_at keys path = last_unlinked keys path (last_name path)

-- the updates after which a directory lacks an empty directory and its name
abbrev pub name_removed : KeyMap → List ℕ → Spot → Result (List Update) Cause
name_removed keys name spot = do
  number ← ok_or (number_in keys spot.sub.id spot.number name) NotFound
  _ ← refused_if (not (is_directory (kind_in keys spot.sub.id number))) NotDir
  _ ← refused_if spot.sub.read_only ReadOnly
  _ ← refused_if (has_names keys spot.sub.id number) NotEmpty
  Ok (updates_to_remove keys spot.sub.id spot.number name ++ updates_to_see keys Inodes 0 number spot.sub.id None)

-- why a root isn't removed
abbrev pub root_removed : KeyMap → Path → Result (List Update) Cause
root_removed keys path = do
  sub ← sub_of keys path
  _ ← refused_if sub.read_only ReadOnly
  Err Loop

-- the updates after which the directory of a path's last name is gone, where it has one, from the directory in which the path ends
abbrev pub last_removed : KeyMap → Path → Option (List ℕ) → Result (List Update) Cause
last_removed keys path None = root_removed keys path
last_removed keys path (Some name) = do
  spot ← spot_along keys path (parent_names path)
  name_removed keys name spot

-- the updates after which the empty directory at a path is gone, or the first refusal
abbrev pub removed_at : KeyMap → Path → Result (List Update) Cause
removed_at keys path = last_removed keys path (last_name path)
