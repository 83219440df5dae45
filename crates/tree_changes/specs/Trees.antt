-- Trees that operations may change, and the places at which they change them.
use Rattle.std.specs.Prelude.{◌≡◌, ◌≢◌, ℕ, IsSome, None, Some, Ok, List, ◌∷◌, ◌++◌}
use Rattle.std.specs.Ordering.{nat_cmp}
use Rattle.plain_forest.specs.Forest.{Names, Tree}
use Rattle.plain_forest.specs.Steps.{walk}
use Rattle.vol_types.specs.Maps.{IsMap, value_at}
use Rattle.vol_types.specs.Ranges.{name_cmp}
use Rattle.forest_ops.specs.Trees.{Place}
use Rattle.key_meaning.specs.Checks.{IsDirectoryOf, IsRooted, count_names}

-- The tree's lists are maps, no number is both a file and a directory, and the directories form a tree below its root.
pub record IsWellFormed (tree : Tree) : Type 0 where
  pub files : IsMap nat_cmp tree.files
  pub directories : IsMap nat_cmp tree.directories
  pub names : (number : ℕ) (names : Names) → value_at nat_cmp number tree.directories ≡ Some names → IsMap name_cmp names
  pub kinds : (number : ℕ) → IsSome (value_at nat_cmp number tree.files) → value_at nat_cmp number tree.directories ≡ None
  pub top : IsDirectoryOf tree tree.root
  pub rooted : IsRooted tree

-- The directory of the place is one of the tree, and doesn't have the place's name.
pub record IsFreeName (place : Place) (tree : Tree) : Type 0 where
  pub names : Names
  pub held : value_at nat_cmp place.directory tree.directories ≡ Some names
  pub free : value_at name_cmp place.name names ≡ None

-- The directory of the place is one of the tree, and its name leads to the place's number.
pub record IsNameAt (place : Place) (tree : Tree) : Type 0 where
  pub names : Names
  pub held : value_at nat_cmp place.directory tree.directories ≡ Some names
  pub leads : value_at name_cmp place.name names ≡ Some place.number

-- The number is that of no file and of no directory, and no name leads to it.
pub record IsNewNumber (tree : Tree) (number : ℕ) : Type 0 where
  pub no_file : value_at nat_cmp number tree.files ≡ None
  pub no_directory : value_at nat_cmp number tree.directories ≡ None
  pub no_name : count_names tree.directories number ≡ 0

-- What stands at the old place may go to the new one: the new name is free, and its directory isn't what moves and doesn't lie
-- below it. So the names that lead to it don't begin with those that lead to what moves.
pub record MayMove (old new : Place) (tree : Tree) : Type 0 where
  pub from : IsNameAt old tree
  pub to : IsFreeName new tree
  pub same : new.number ≡ old.number
  pub old_names : List (List ℕ)
  pub old_leads : walk tree old_names tree.root ≡ Ok old.directory
  pub new_names : List (List ℕ)
  pub new_leads : walk tree new_names tree.root ≡ Ok new.directory
  pub apart : (rest : List (List ℕ)) → new_names ≢ old_names ++ old.name ∷ rest
