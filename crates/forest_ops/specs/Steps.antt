-- One step of the forest: what each operation does and answers, with its refusals in their order.
use Rattle.std.specs.Prelude.{ℕ, ◌+◌, ◌-◌, ◌*◌, ◌^◌, Bool, not, nat_le, nat_lt, ◌==◌, List, [], length, map, slice_index, slice_set, Option, Some, None, is_some, unwrap_or, Result, Ok, Err, if◌then◌else◌}
use Rattle.std.specs.Option.{ok_or}
use Rattle.std.specs.Result.{result_err}
use Rattle.std.specs.Ordering.{nat_cmp}
use Rattle.vol_types.specs.declared.FlaggedName.{FlaggedName}
use Rattle.plain_forest.specs.Maps.{name_cmp, value_at, with_value, changed_at}
use Rattle.plain_forest.specs.Names.{parent_names, last_name}
use Rattle.plain_forest.specs.Forest.{Names, Tree, Forest}
use Rattle.plain_forest.specs.declared.path.Path.{Path}
use Rattle.forest_ops.specs.Refusals.{◌>>=◌, refused_if}
use Rattle.vol_types.specs.Maps.{without}
use Rattle.forest_ops.specs.Walking.{Inode, File, tree_named, tree_of, shared_tree, names_in, bytes_in, walk, inode_at, directory_at, file_at}
use Rattle.forest_ops.specs.Names.{links_of, links_max, new_name, is_crowded, same_names, is_above}
use Rattle.forest_ops.specs.Content.{max_size, put_at, part_of, resized, cut_size}
use Rattle.forest_ops.specs.Trees.{Place, empty_tree, with_name, with_file, with_directory, unlinked, without_directory, moved, with_bytes}
use Rattle.forest_ops.specs.Subvolumes.{good_subvolume, new_subvolume}
use Rattle.forest_ops.specs.declared.operation.Op.{Op}
use Rattle.forest_ops.specs.declared.operation.Op.TheVariants.{Mkdir, Mkfile, Write, Trunc, Read, Ls, Stat, Link, Unlink, Rmdir, Rename, Subvol, Snap, Delsub, Subs, Sync, Fsync, Sweep, Usage}
use Rattle.forest_ops.specs.declared.operation.Cause.{Cause}
use Rattle.forest_ops.specs.declared.operation.Cause.TheVariants.{IsDir, NotEmpty, ReadOnly, Exists, Loop, Crowded, LinksFull, TooBig, IdsSpent}
use Rattle.forest_ops.specs.declared.operation.Reply.{Reply}
use Rattle.forest_ops.specs.declared.operation.Reply.TheVariants.{Okay, More, Synced, Content, List as Listed, File as FileIs, Dir as DirectoryIs, SubNames, Used, Refused}

-- the forest after an operation that isn't refused, and the reply
pub record Next : Type 0 where
  pub forest : Forest
  pub reply : Reply

-- the next forest and the reply
abbrev pub next_of : Reply → Forest → Next
next_of reply forest = record { forest = forest; reply = reply }

-- the forest with the tree of a subvolume changed
abbrev pub in_subvolume : List ℕ → (Tree → Tree) → Forest → Forest
in_subvolume name change forest = record forest { subvolumes = changed_at name_cmp name change forest.subvolumes }

-- how many numbers a client has
abbrev pub numbers_per_client : ℕ
numbers_per_client = 2 ^ 48

-- the number that the next inode of a client gets
abbrev pub next_number : ℕ → Forest → ℕ
next_number client forest = client * numbers_per_client + slice_index forest.next client

-- whether a client has used all its numbers
abbrev pub is_spent : ℕ → Forest → Bool
is_spent client forest = nat_le numbers_per_client (slice_index forest.next client)

-- the forest in which a client has used one number more
abbrev pub drawn : ℕ → Forest → Forest
drawn client forest = record forest { next = slice_set forest.next client (slice_index forest.next client + 1) }

-- where an inode that a client makes at a path goes
abbrev pub new_place : ℕ → Path → Forest → Result Place Cause
new_place client path forest = do
  tree ← tree_of path forest
  directory ← walk tree (parent_names path) tree.root
  names ← names_in tree directory
  _ ← refused_if tree.locked ReadOnly
  name ← new_name path names
  _ ← refused_if (is_spent client forest) IdsSpent
  Ok (record { directory = directory; name = name; number = next_number client forest })

-- an inode made by a client at a path
abbrev pub made : (Place → Tree → Tree) → ℕ → Path → Forest → Result Next Cause
made with_inode client path forest = do
  place ← new_place client path forest
  Ok (next_of Okay (drawn client (in_subvolume path.sub (with_inode place) forest)))

-- the file at a path, where it may be changed
abbrev pub open_file : Path → Forest → Result File Cause
open_file path forest = do
  file ← file_at path forest
  _ ← refused_if file.tree.locked ReadOnly
  Ok file

-- the file at a path, where it may be changed and get this size
abbrev pub sized_file : Path → ℕ → Forest → Result File Cause
sized_file path size forest = do
  file ← open_file path forest
  _ ← refused_if (nat_lt max_size size) TooBig
  Ok file

-- bytes put into a file at an offset
abbrev pub written : Path → ℕ → List ℕ → Forest → Result Next Cause
written path offset bytes forest = do
  file ← sized_file path (offset + length bytes) forest
  Ok (next_of Okay (in_subvolume path.sub (with_bytes file.number (put_at offset bytes)) forest))

-- the reply of a truncation that came to a size
abbrev pub came_to : ℕ → ℕ → Reply
came_to size wanted = if size == wanted then Okay else More size

-- one truncation of a file
abbrev pub truncated : Path → ℕ → Forest → Result Next Cause
truncated path wanted forest = do
  file ← sized_file path wanted forest
  let size = cut_size (length file.bytes) wanted
  Ok (next_of (came_to size wanted) (in_subvolume path.sub (with_bytes file.number (resized size)) forest))

-- bytes of a file
abbrev pub content : Path → ℕ → ℕ → Forest → Result Next Cause
content path offset len forest = do
  file ← file_at path forest
  Ok (next_of (Content (part_of offset len file.bytes)) forest)

-- a name of a directory with its kind: 1 for a file, 2 for a directory
abbrev pub flagged : Tree → List ℕ × ℕ → FlaggedName
flagged tree entry = record { name = entry.0; flag = if is_some (value_at nat_cmp entry.1 tree.directories) then 2 else 1 }

-- the names of a directory, with their kinds
abbrev pub listed : Path → Forest → Result Next Cause
listed path forest = do
  directory ← directory_at path forest
  Ok (next_of (Listed (map (flagged directory.tree) directory.names)) forest)

-- what is told of an inode: a directory that has names, or else a file
abbrev pub status_of : Inode → Option Names → Reply
status_of inode (Some names) = DirectoryIs inode.number (length names)
status_of inode None = FileIs inode.number (length (unwrap_or (value_at nat_cmp inode.number inode.tree.files) [])) (links_of inode.number inode.tree.directories)

-- what stands at a path
abbrev pub status : Path → Forest → Result Next Cause
status path forest = do
  inode ← inode_at path forest
  Ok (next_of (status_of inode (value_at nat_cmp inode.number inode.tree.directories)) forest)

-- where a new name of a file goes
abbrev pub link_place : Path → Path → Forest → Result Place Cause
link_place from to forest = do
  tree ← shared_tree from to forest
  number ← walk tree from.names tree.root
  _ ← bytes_in tree number
  directory ← walk tree (parent_names to) tree.root
  names ← names_in tree directory
  _ ← refused_if tree.locked ReadOnly
  name ← new_name to names
  _ ← refused_if (nat_le links_max (links_of number tree.directories)) LinksFull
  Ok (record { directory = directory; name = name; number = number })

-- one more name of a file
abbrev pub linked : Path → Path → Forest → Result Next Cause
linked from to forest = do
  place ← link_place from to forest
  Ok (next_of Okay (in_subvolume from.sub (with_name place) forest))

-- the place of the name with which a path ends. A root has none, which is refused for the cause that is given; what was
-- walked to lies in a directory.
abbrev pub place_at : Path → Cause → Tree → ℕ → Result Place Cause
place_at path cause tree number = do
  name ← ok_or (last_name path) cause
  directory ← walk tree (parent_names path) tree.root
  Ok (record { directory = directory; name = name; number = number })

-- the name of a file that goes
abbrev pub unlink_place : Path → Forest → Result Place Cause
unlink_place path forest = do
  file ← open_file path forest
  place_at path IsDir file.tree file.number

-- one name of a file less
abbrev pub unlinked_at : Path → Forest → Result Next Cause
unlinked_at path forest = do
  place ← unlink_place path forest
  Ok (next_of Okay (in_subvolume path.sub (unlinked place) forest))

-- the name of a directory that goes
abbrev pub rmdir_place : Path → Forest → Result Place Cause
rmdir_place path forest = do
  directory ← directory_at path forest
  _ ← refused_if directory.tree.locked ReadOnly
  place ← place_at path Loop directory.tree directory.number
  _ ← refused_if (not (length directory.names == 0)) NotEmpty
  Ok place

-- a directory less
abbrev pub removed : Path → Forest → Result Next Cause
removed path forest = do
  place ← rmdir_place path forest
  Ok (next_of Okay (in_subvolume path.sub (without_directory place) forest))

-- what a rename has found: the tree, the number to which the old name leads, and the directory of the new one
pub record RenameFound : Type 0 where
  pub tree : Tree
  pub number : ℕ
  pub directory : ℕ
  pub names : Names

-- what a rename finds at its two paths
abbrev pub rename_ends : Path → Path → Forest → Result RenameFound Cause
rename_ends from to forest = do
  tree ← shared_tree from to forest
  number ← walk tree from.names tree.root
  directory ← walk tree (parent_names to) tree.root
  names ← names_in tree directory
  _ ← refused_if tree.locked ReadOnly
  Ok (record { tree = tree; number = number; directory = directory; names = names })

-- the names of the new directory after the old name is gone
abbrev pub names_left : Place → ℕ → Names → Names
names_left old directory names = if old.directory == directory then without name_cmp old.name names else names

-- the name that moves, at its old place and at its new one
abbrev pub move_places : Path → Path → RenameFound → Result (Place × Place) Cause
move_places from to ends = do
  _ ← refused_if (is_above from.names to.names) Loop
  old ← place_at from Loop ends.tree ends.number
  name ← ok_or (last_name to) Exists
  _ ← refused_if (is_some (value_at name_cmp name ends.names)) Exists
  _ ← refused_if (is_crowded name (names_left old ends.directory ends.names)) Crowded
  Ok (old, record { directory = ends.directory; name = name; number = ends.number })

-- the name that a rename moves, at its old place and at its new one; none where the paths are equal
abbrev pub move_of : Path → Path → Forest → Result (Option (Place × Place)) Cause
move_of from to forest = do
  ends ← rename_ends from to forest
  if same_names from.names to.names then Ok None else (do
    places ← move_places from to ends
    Ok (Some places))

-- the forest after a move in a subvolume, if there is one
abbrev pub after_move : List ℕ → Option (Place × Place) → Forest → Forest
after_move sub None forest = forest
after_move sub (Some places) forest = in_subvolume sub (moved places.0 places.1) forest

-- a name moved
abbrev pub renamed : Path → Path → Forest → Result Next Cause
renamed from to forest = do
  places ← move_of from to forest
  Ok (next_of Okay (after_move from.sub places forest))

-- whether a client can make a subvolume of this name
abbrev pub subvolume_fits : ℕ → List ℕ → Forest → Result (Unit {0}) Cause
subvolume_fits client name forest = do
  _ ← good_subvolume name
  _ ← new_subvolume name forest
  _ ← refused_if (is_spent client forest) IdsSpent
  refused_if (nat_lt forest.ids_left 1) IdsSpent

-- an empty subvolume made by a client, with one snapshot id
abbrev pub with_subvolume : ℕ → List ℕ → Forest → Result Next Cause
with_subvolume client name forest = do
  _ ← subvolume_fits client name forest
  Ok (next_of Okay (record (drawn client forest) {
    subvolumes = with_value name_cmp name (empty_tree (next_number client forest)) forest.subvolumes;
    ids_left = forest.ids_left - 1;
  }))

-- the tree of which a snapshot is made
abbrev pub snapshot_source : List ℕ → List ℕ → Forest → Result Tree Cause
snapshot_source source copy forest = do
  _ ← good_subvolume source
  _ ← good_subvolume copy
  tree ← tree_named source forest
  _ ← new_subvolume copy forest
  _ ← refused_if (nat_lt forest.ids_left 2) IdsSpent
  Ok tree

-- a subvolume whose tree is a copy of another's, with two snapshot ids
abbrev pub with_snapshot : List ℕ → List ℕ → Bool → Forest → Result Next Cause
with_snapshot source copy locked forest = do
  tree ← snapshot_source source copy forest
  Ok (next_of Okay (record forest {
    subvolumes = with_value name_cmp copy (record tree { locked = locked }) forest.subvolumes;
    ids_left = forest.ids_left - 2;
  }))

-- whether a subvolume can be removed
abbrev pub subvolume_goes : List ℕ → Forest → Result (Unit {0}) Cause
subvolume_goes name forest = do
  _ ← good_subvolume name
  _ ← tree_named name forest
  Ok tt

-- a subvolume less
abbrev pub without_subvolume : List ℕ → Forest → Result Next Cause
without_subvolume name forest = do
  _ ← subvolume_goes name forest
  Ok (next_of Okay (record forest { subvolumes = without name_cmp name forest.subvolumes }))

-- a subvolume's name with 1 where it may only be read, and else 0
abbrev pub flagged_subvolume : List ℕ × Tree → FlaggedName
flagged_subvolume entry = record { name = entry.0; flag = if entry.1.locked then 1 else 0 }

-- something stands at the path
abbrev pub fsynced : Path → Forest → Result Next Cause
fsynced path forest = do
  _ ← inode_at path forest
  Ok (next_of (Synced 0) forest)

-- The step of an operation of a client: the next forest with the reply, or the first refusal. The numbers of `Synced`
-- and `Used`, which no forest knows, are 0 here.
abbrev pub step : ℕ → Op → Forest → Result Next Cause
step client (Mkdir path) forest = made with_directory client path forest
step client (Mkfile path) forest = made with_file client path forest
step client (Write path offset bytes) forest = written path offset bytes forest
step client (Trunc path size) forest = truncated path size forest
step client (Read path offset len) forest = content path offset len forest
step client (Ls path) forest = listed path forest
step client (Stat path) forest = status path forest
step client (Link from to) forest = linked from to forest
step client (Unlink path) forest = unlinked_at path forest
step client (Rmdir path) forest = removed path forest
step client (Rename from to) forest = renamed from to forest
step client (Subvol name) forest = with_subvolume client name forest
step client (Snap source copy locked) forest = with_snapshot source copy locked forest
step client (Delsub name) forest = without_subvolume name forest
step client Subs forest = Ok (next_of (SubNames (map flagged_subvolume forest.subvolumes)) forest)
step client Sync forest = Ok (next_of (Synced 0) forest)
step client (Fsync path) forest = fsynced path forest
step client (Sweep steps) forest = Ok (next_of Okay forest)
step client Usage forest = Ok (next_of (Used 0) forest)

-- the forest after a step; a refusal leaves it as it was
abbrev pub forest_or : Forest → Result Next Cause → Forest
forest_or before (Ok next) = next.forest
forest_or before (Err cause) = before

-- the reply of a step
abbrev pub reply_or : Result Next Cause → Reply
reply_or (Ok next) = next.reply
reply_or (Err cause) = Refused cause

-- the forest after the operation of a client
abbrev pub forest_after : ℕ → Op → Forest → Forest
forest_after client op forest = forest_or forest (step client op forest)

-- what the operation of a client answers, with 0 for the number of `Synced` and `Used`
abbrev pub answer_of : ℕ → Op → Forest → Reply
answer_of client op forest = reply_or (step client op forest)

-- why the forest refuses the operation of a client, if it does
abbrev pub refusal_of : ℕ → Op → Forest → Option Cause
refusal_of client op forest = result_err (step client op forest)
