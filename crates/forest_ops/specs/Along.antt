-- What the operations come to that begin at the directory in which a path ends.
use Rattle.std.specs.Prelude.{ℕ, ◌==◌, not, nat_le, List, length, is_some, Result, Ok}
use Rattle.std.specs.Option.{ok_or}
use Rattle.plain_forest.specs.Maps.{name_cmp, value_at}
use Rattle.plain_forest.specs.Names.{last_name}
use Rattle.plain_forest.specs.Forest.{Tree, Forest}
use Rattle.plain_forest.specs.declared.path.Path.{Path}
use Rattle.forest_ops.specs.Names.{is_crowded, links_max, links_of, new_name}
use Rattle.forest_ops.specs.Refusals.{◌>>=◌, refused_if}
use Rattle.forest_ops.specs.Steps.{Next, drawn, in_subvolume, is_spent, next_number, next_of}
use Rattle.forest_ops.specs.Trees.{Place}
use Rattle.forest_ops.specs.Walking.{Directory, bytes_in, names_in, tree_of, walk}
use Rattle.forest_ops.specs.declared.operation.Cause.{Cause}
use Rattle.forest_ops.specs.declared.operation.Cause.TheVariants.{Crowded, Exists, IdsSpent, LinksFull, NotEmpty, NotFound, ReadOnly}
use Rattle.forest_ops.specs.declared.operation.Reply.TheVariants.{Okay}

-- the directory to which some names lead from the root of a tree
abbrev pub directory_in : Tree → List (List ℕ) → Result Directory Cause
directory_in tree names = do
  number ← walk tree names tree.root
  held ← names_in tree number
  Ok (record { tree = tree; number = number; names = held })

-- the directory to which some names lead from the root of a path's subvolume
abbrev pub directory_along : Path → List (List ℕ) → Forest → Result Directory Cause
directory_along path names forest = do
  tree ← tree_of path forest
  directory_in tree names

-- where an inode that a client makes goes in a directory, under the last name of a path
abbrev pub new_place_in : ℕ → Path → Forest → Directory → Result Place Cause
new_place_in client path forest directory = do
  _ ← refused_if directory.tree.locked ReadOnly
  name ← ok_or (last_name path) Exists
  _ ← refused_if (is_some (value_at name_cmp name directory.names)) Exists
  _ ← refused_if (is_crowded name directory.names) Crowded
  _ ← refused_if (is_spent client forest) IdsSpent
  Ok (record { directory = directory.number; name = name; number = next_number client forest })

-- an inode that a client makes in a directory, under the last name of a path
abbrev pub made_in : (Place → Tree → Tree) → ℕ → Path → Forest → Directory → Result Next Cause
made_in with_inode client path forest directory = do
  _ ← refused_if directory.tree.locked ReadOnly
  name ← ok_or (last_name path) Exists
  _ ← refused_if (is_some (value_at name_cmp name directory.names)) Exists
  _ ← refused_if (is_crowded name directory.names) Crowded
  _ ← refused_if (is_spent client forest) IdsSpent
  Ok (next_of Okay (drawn client (in_subvolume path.sub (with_inode (record { directory = directory.number; name = name; number = next_number client forest })) forest)))

-- where a new name of this number goes in a directory, under the last name of a path
abbrev pub link_place_in : Path → ℕ → Directory → Result Place Cause
link_place_in to number directory = do
  _ ← refused_if directory.tree.locked ReadOnly
  name ← new_name to directory.names
  _ ← refused_if (nat_le links_max (links_of number directory.tree.directories)) LinksFull
  Ok (record { directory = directory.number; name = name; number = number })

-- the name of a file that goes from a directory
abbrev pub unlink_place_in : List ℕ → Directory → Result Place Cause
unlink_place_in name directory = do
  number ← ok_or (value_at name_cmp name directory.names) NotFound
  _ ← bytes_in directory.tree number
  _ ← refused_if directory.tree.locked ReadOnly
  Ok (record { directory = directory.number; name = name; number = number })

-- the name of a directory that goes from a directory
abbrev pub rmdir_place_in : List ℕ → Directory → Result Place Cause
rmdir_place_in name directory = do
  number ← ok_or (value_at name_cmp name directory.names) NotFound
  names ← names_in directory.tree number
  _ ← refused_if directory.tree.locked ReadOnly
  _ ← refused_if (not (length names == 0)) NotEmpty
  Ok (record { directory = directory.number; name = name; number = number })
