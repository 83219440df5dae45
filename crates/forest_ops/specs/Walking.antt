-- Trees, walking along the names of a path, and what stands where it ends.
use Rattle.std.specs.Prelude.{ℕ, Bool, not, List, [], ◌∷◌, Result, Ok, nat_eq}
use Rattle.std.specs.Option.{ok_or}
use Rattle.std.specs.Ordering.{nat_cmp}
use Rattle.std.specs.Cmp.Lexicographic.{pointwise}
use Rattle.plain_forest.specs.Maps.{name_cmp, value_at}
use Rattle.plain_forest.specs.Names.{is_good_path}
use Rattle.plain_forest.specs.Forest.{Names, Tree, Forest}
use Rattle.plain_forest.specs.declared.path.Path.{Path}
use Rattle.forest_ops.specs.Refusals.{◌>>=◌, refused_if}
use Rattle.forest_ops.specs.declared.operation.Cause.{Cause}
use Rattle.forest_ops.specs.declared.operation.Cause.TheVariants.{BadPath, Cross, NoSubvolume, NotFound, NotDir, IsDir}

-- the tree of a subvolume
abbrev pub tree_named : List ℕ → Forest → Result Tree Cause
tree_named name forest = ok_or (value_at name_cmp name forest.subvolumes) NoSubvolume

-- the tree of the subvolume of a good path
abbrev pub tree_of : Path → Forest → Result Tree Cause
tree_of path forest = do
  _ ← refused_if (not (is_good_path path)) BadPath
  tree_named path.sub forest

-- two names are equal, byte by byte
abbrev pub same_name : List ℕ → List ℕ → Bool
same_name one other = pointwise nat_eq one other

-- the tree in which two good paths lie
abbrev pub shared_tree : Path → Path → Forest → Result Tree Cause
shared_tree from to forest = do
  _ ← refused_if (not (is_good_path from)) BadPath
  _ ← refused_if (not (is_good_path to)) BadPath
  _ ← refused_if (not (same_name from.sub to.sub)) Cross
  tree_named from.sub forest

-- the names of a directory; a file has none
abbrev pub names_in : Tree → ℕ → Result Names Cause
names_in tree number = ok_or (value_at nat_cmp number tree.directories) NotDir

-- the bytes of a file; a directory has none
abbrev pub bytes_in : Tree → ℕ → Result (List ℕ) Cause
bytes_in tree number = ok_or (value_at nat_cmp number tree.files) IsDir

-- where a name of an inode leads
abbrev pub named_in : Tree → ℕ → List ℕ → Result ℕ Cause
named_in tree number name = do
  names ← names_in tree number
  ok_or (value_at name_cmp name names) NotFound

-- where the names lead from an inode
abbrev pub walk : Tree → List (List ℕ) → ℕ → Result ℕ Cause
walk tree [] number = Ok number
walk tree (name ∷ names) number = do
  next ← named_in tree number name
  walk tree names next

-- an inode at the end of a path: the tree in which it is, and its number
pub record Inode : Type 0 where
  pub tree : Tree
  pub number : ℕ

-- the inode at a path
abbrev pub inode_at : Path → Forest → Result Inode Cause
inode_at path forest = do
  tree ← tree_of path forest
  number ← walk tree path.names tree.root
  Ok (record { tree = tree; number = number })

-- a directory at the end of a path, with its names
pub record Directory : Type 0 where
  pub tree : Tree
  pub number : ℕ
  pub names : Names

-- the directory at a path
abbrev pub directory_at : Path → Forest → Result Directory Cause
directory_at path forest = do
  inode ← inode_at path forest
  names ← names_in inode.tree inode.number
  Ok (record { tree = inode.tree; number = inode.number; names = names })

-- a file at the end of a path, with its bytes
pub record File : Type 0 where
  pub tree : Tree
  pub number : ℕ
  pub bytes : List ℕ

-- the file at a path
abbrev pub file_at : Path → Forest → Result File Cause
file_at path forest = do
  inode ← inode_at path forest
  bytes ← bytes_in inode.tree inode.number
  Ok (record { tree = inode.tree; number = inode.number; bytes = bytes })
