-- The laws on trees that the laws on what shows rest on, as one record.
use Rattle.std.proofs.Common.{◌≡◌, ℕ, ◌+◌, cond, Some, None, []}
use Rattle.std.specs.Prelude.{◌==◌}
use Rattle.std.specs.Ordering.{nat_cmp}
use Rattle.plain_forest.specs.Forest.{Tree}
use Rattle.vol_types.specs.Maps.{value_at}
use Rattle.forest_ops.specs.Trees.{Place, moved, unlinked, with_directory, with_name, without_directory}
use Rattle.key_meaning.specs.Checks.{count_names}
use Rattle.tree_changes.specs.Trees.{IsFreeName, IsNameAt, IsNewNumber, IsWellFormed, MayMove}

-- one for the number itself, and nothing for others
abbrev pub one_for : ℕ → ℕ → ℕ
one_for number other = cond (number == other) 1 0

-- How many names lead to each number after a change, and that the tree is well formed then.
pub record TreeLaws : Type 0 where
  pub count_name : (place : Place) (tree : Tree) → IsFreeName place tree → (number : ℕ) → count_names (with_name place tree).directories number ≡ count_names tree.directories number + one_for place.number number
  pub count_directory : (place : Place) (tree : Tree) → IsFreeName place tree → value_at nat_cmp place.number tree.directories ≡ None → (number : ℕ) → count_names (with_directory place tree).directories number ≡ count_names tree.directories number + one_for place.number number
  pub count_unlinked : (place : Place) (tree : Tree) → IsNameAt place tree → (number : ℕ) → count_names (unlinked place tree).directories number + one_for place.number number ≡ count_names tree.directories number
  pub count_removed : (place : Place) (tree : Tree) → IsWellFormed tree → IsNameAt place tree → value_at nat_cmp place.number tree.directories ≡ Some [] → (number : ℕ) → count_names (without_directory place tree).directories number + one_for place.number number ≡ count_names tree.directories number
  pub count_moved : (old new : Place) (tree : Tree) → IsWellFormed tree → MayMove old new tree → (number : ℕ) → count_names (moved old new tree).directories number ≡ count_names tree.directories number
  pub formed_name : (place : Place) (tree : Tree) → IsWellFormed tree → IsFreeName place tree → value_at nat_cmp place.number tree.directories ≡ None → IsWellFormed (with_name place tree)
  pub formed_directory : (place : Place) (tree : Tree) → IsWellFormed tree → IsFreeName place tree → IsNewNumber tree place.number → IsWellFormed (with_directory place tree)
  pub formed_unlinked : (place : Place) (tree : Tree) → IsWellFormed tree → IsNameAt place tree → value_at nat_cmp place.number tree.directories ≡ None → IsWellFormed (unlinked place tree)
  pub formed_removed : (place : Place) (tree : Tree) → IsWellFormed tree → IsNameAt place tree → value_at nat_cmp place.number tree.directories ≡ Some [] → IsWellFormed (without_directory place tree)
  pub formed_moved : (old new : Place) (tree : Tree) → IsWellFormed tree → MayMove old new tree → IsWellFormed (moved old new tree)
