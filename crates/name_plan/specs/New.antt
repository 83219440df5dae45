-- The updates by which a new inode gets its first name, or a file a further one, as functions of the keys.
use Rattle.std.specs.Prelude.{ℕ, ◌+◌, nat_le, List, ◌∷◌, ◌++◌, Some, Result, Ok, Err}
use Rattle.std.specs.Option.{ok_or}
use Rattle.dirent_keys.specs.Names.{step_to_add}
use Rattle.dirent_keys.specs.declared.step.NameStep.{NameStep}
use Rattle.forest_ops.specs.Names.{links_max}
use Rattle.forest_ops.specs.Refusals.{◌>>=◌, refused_if}
use Rattle.forest_ops.specs.Trees.{Place, with_directory, with_file}
use Rattle.forest_ops.specs.declared.operation.Cause.{Cause}
use Rattle.forest_ops.specs.declared.operation.Cause.TheVariants.{Exists, IdsSpent, IsDir, LinksFull, ReadOnly}
use Rattle.inode_keys.specs.Draws.{draw_in}
use Rattle.inode_keys.specs.Inodes.{new_inode, with_links}
use Rattle.inode_keys.specs.declared.numbers.Draw.{Draw}
use Rattle.inode_keys.specs.declared.numbers.Draw.TheVariants.{Drawn, Spent}
use Rattle.key_meaning.specs.Numbers.{own_inode}
use Rattle.name_plan.specs.Directories.{directory_under}
use Rattle.name_plan.specs.Files.{file_shown}
use Rattle.name_plan.specs.NameSteps.{step_made}
use Rattle.path_plan.specs.Looking.{lead_to, shared_sub, spot_along}
use Rattle.path_plan.specs.declared.walking.Spot.{Spot}
use Rattle.plain_forest.specs.Forest.{Tree}
use Rattle.plain_forest.specs.Names.{last_name, parent_names}
use Rattle.plain_forest.specs.declared.path.Path.{Path}
use Rattle.vol_types.specs.KeyMaps.{KeyMap}
use Rattle.vol_types.specs.declared.keys.Update.{Update}
use Rattle.vol_types.specs.declared.values.FileKind.{FileKind}
use Rattle.vol_types.specs.declared.values.FileKind.TheVariants.{Directory, File}
use Rattle.vol_types.specs.declared.values.Inode.{Inode}
use Rattle.vol_types.specs.declared.values.Link.{Link}
use Rattle.vol_types.specs.declared.values.Sub.{Sub}
use Rattle.vol_types.specs.declared.values.Value.TheVariants as values

-- a name that leads to an inode of a kind
abbrev pub link_to : FileKind → List ℕ → ℕ → Link
link_to kind name number = record { number = number; kind = kind; name = name }

-- the update after which a number has this inode in an id
abbrev pub put_inode : ℕ → ℕ → Inode → Update
put_inode id number inode = own_inode id number (Some (values.Inode inode))

-- the tree with an empty inode of a kind under a new name
abbrev pub with_new : FileKind → Place → Tree → Tree
with_new File = with_file
with_new Directory = with_directory

-- the updates after which a directory has a new inode of this number under a name in an id, where the number was drawn by some updates
abbrev pub inode_numbered : FileKind → KeyMap → ℕ → ℕ → List ℕ → ℕ → List Update → Result (List Update) Cause
inode_numbered kind keys id directory name number counted = do
  named ← step_made (step_to_add keys id directory (link_to kind name number))
  Ok (counted ++ put_inode id number (new_inode kind) ∷ named)

-- why a name isn't added for which there is no number
abbrev pub spent_out : NameStep → Result (List Update) Cause
spent_out step = do
  _ ← step_made step
  Err IdsSpent

-- the updates after which it has a new inode of the number that was drawn
abbrev pub inode_drawn : FileKind → KeyMap → ℕ → ℕ → List ℕ → Draw → Result (List Update) Cause
inode_drawn kind keys id directory name (Drawn number counted) = inode_numbered kind keys id directory name number counted
inode_drawn kind keys id directory name Spent = spent_out (step_to_add keys id directory (link_to kind name 0))

-- the updates after which it has a new inode of the number that a client draws
abbrev pub inode_made : FileKind → KeyMap → ℕ → ℕ → ℕ → List ℕ → Result (List Update) Cause
inode_made kind keys client id directory name = inode_drawn kind keys id directory name (draw_in keys client)

-- the updates after which there is a new inode under the last name of a path, in this directory
abbrev pub made_in : FileKind → KeyMap → ℕ → Path → Spot → Result (List Update) Cause
made_in kind keys client path spot = do
  _ ← refused_if spot.sub.read_only ReadOnly
  name ← ok_or (last_name path) Exists
  inode_made kind keys client spot.sub.id spot.number name

-- the updates after which there is a new inode of a kind at a path, or the first refusal
abbrev pub made_at : FileKind → KeyMap → ℕ → Path → Result (List Update) Cause
made_at kind keys client path = do
  spot ← spot_along keys path (parent_names path)
  made_in kind keys client path spot

-- the updates after which a directory has a further name of a file in an id, whose inode counts it
abbrev pub file_named : KeyMap → ℕ → ℕ → Inode → ℕ → List ℕ → Result (List Update) Cause
file_named keys id number inode directory name = do
  named ← step_made (step_to_add keys id directory (link_to File name number))
  _ ← refused_if (nat_le links_max inode.links) LinksFull
  Ok (put_inode id number (with_links inode (inode.links + 1)) ∷ named)

-- the updates after which a file of a subvolume has a further name at a path
abbrev pub file_linked : KeyMap → Path → Sub → ℕ → Inode → Result (List Update) Cause
file_linked keys to sub number inode = do
  directory ← directory_under keys sub (parent_names to)
  _ ← refused_if sub.read_only ReadOnly
  name ← ok_or (last_name to) Exists
  file_named keys sub.id number inode directory name

-- the updates after which the file at the first path has a further name at the second one, in the subvolume of both
abbrev pub linked_in : KeyMap → Path → Path → Sub → Result (List Update) Cause
linked_in keys from to sub = do
  number ← lead_to keys sub.id from.names sub.root
  inode ← ok_or (file_shown keys sub.id number) IsDir
  file_linked keys to sub number inode

-- the updates after which the file at the first path has a further name at the second one, or the first refusal
abbrev pub linked_at : KeyMap → Path → Path → Result (List Update) Cause
linked_at keys from to = do
  sub ← shared_sub keys from to
  linked_in keys from to sub
