-- What changes of directories leave of a tree that is well formed: maps, kinds, and the names that lead to a directory.
use Rattle.std.proofs.Common.{◌≡◌, ℕ, Bool, true, false, Option, Some, None, List, refl, sym, ap, ◌∙◌}
use Rattle.std.specs.Prelude.{◌≢◌, IsSome, is_some}
use Rattle.std.specs.BTreeMap.{is_at}
use Rattle.std.specs.Ordering.{is_eq, nat_cmp}
use Rattle.std.proofs.lemmas.Bool.{false≢true}
use Rattle.std.proofs.lemmas.Cmp.{nat_cmp_total, nat_list_cmp_total, tied_itself}
use Rattle.std.proofs.lemmas.Map.Lookups.{exact_unsigned}
use Rattle.forest_ops.specs.Trees.{Place}
use Rattle.key_meaning.specs.Checks.{IsDirectoryOf}
use Rattle.key_meaning.specs.TableLaws.{IsMap-changed_at}
use Rattle.plain_forest.specs.Forest.{Names, Tree}
use Rattle.plain_forest.specs.Maps.{changed_at}
use Rattle.vol_types.specs.MapLaws.{IsMap-with_value, IsMap-without}
use Rattle.vol_types.specs.Maps.{IsMap, value_at, with_value, without}
use Rattle.vol_types.specs.Ranges.{name_cmp}
use Rattle.tree_changes.specs.Trees.{IsWellFormed}
use Rattle.tree_changes.proofs.Counting.{put, taken}
use Rattle.tree_changes.proofs.Leading.{AreNamesMaps, has_changed_at, names_stay_maps, same_directory}
use Rattle.tree_changes.proofs.Ways.{Lead, lead_of}

-- the tree with other lists
abbrev pub with_lists : Tree → List (ℕ × List ℕ) → List (ℕ × Names) → Tree
with_lists tree files directories = record tree { files = files; directories = directories }

-- numbers that differ don't compare alike
pub apart_from : (number other : ℕ) → number ≢ other → is_at (nat_cmp number) other ≡ false
apart_from number other apart = by (is_at (nat_cmp number) other) refl
  where
    by : (b : Bool) → is_at (nat_cmp number) other ≡ b → b ≡ false
    by false is = refl
    by true is = absurd (apart (same_directory number other is))

-- A number compares alike with itself.
pub at_itself : (number : ℕ) → is_at (nat_cmp number) number ≡ true
at_itself number = ap is_eq (tied_itself nat_cmp_total number)

-- The number of a directory isn't that of none.
pub differ : (directories : List (ℕ × Names)) (number other : ℕ) → value_at nat_cmp number directories ≡ None → IsSome (value_at nat_cmp other directories) → number ≢ other
differ directories number other none some same = false≢true (sym (ap is_some none) ∙ ap (λ n. is_some (value_at nat_cmp n directories)) same ∙ some)

module _ (tree : Tree) (well : IsWellFormed tree) where
  -- the names that lead to a directory
  pub path_to : (number : ℕ) → IsDirectoryOf tree number → (names : List (List ℕ)) × Lead tree.directories names tree.root number
  path_to number some = let path = well.rooted.below number some in (path.names, lead_of tree path.names tree.root number path.leads)

  -- The number of a file is that of no directory, when directories are no others than before.
  pub kinds_kept : (directories : List (ℕ × Names)) → ((number : ℕ) → IsSome (value_at nat_cmp number directories) → IsSome (value_at nat_cmp number tree.directories)) → (number : ℕ) → IsSome (value_at nat_cmp number tree.files)
      → value_at nat_cmp number directories ≡ None
  kinds_kept directories no_more number some = by (value_at nat_cmp number directories) refl
    where
      by : (found : Option Names) → value_at nat_cmp number directories ≡ found → found ≡ None
      by None is = refl
      by (Some names) is = absurd (false≢true (sym (ap is_some (well.kinds number some)) ∙ no_more number (ap is_some is)))

module _ (place : Place) (tree : Tree) where
  -- A number has names as before when those of a directory change.
  pub was_some : (change : Names → Names) (number : ℕ) → IsSome (value_at nat_cmp number (changed_at nat_cmp place.directory change tree.directories)) → IsDirectoryOf tree number
  was_some change number some = sym (has_changed_at nat_cmp place.directory number change tree.directories) ∙ some

  pub still_some : (change : Names → Names) (number : ℕ) → IsDirectoryOf tree number → IsSome (value_at nat_cmp number (changed_at nat_cmp place.directory change tree.directories))
  still_some change number some = has_changed_at nat_cmp place.directory number change tree.directories ∙ some

  module _ (rises : IsMap nat_cmp tree.directories) where
    -- The directories are a map still,
    pub put_rises : IsMap nat_cmp (put place tree)
    put_rises = IsMap-changed_at nat_cmp_total exact_unsigned place.directory (with_value name_cmp place.name place.number) tree.directories rises

    pub taken_rises : IsMap nat_cmp (taken place tree)
    taken_rises = IsMap-changed_at nat_cmp_total exact_unsigned place.directory (without name_cmp place.name) tree.directories rises

    -- and so are the names of each.
    pub put_maps : AreNamesMaps tree.directories → AreNamesMaps (put place tree)
    put_maps maps = names_stay_maps tree.directories rises place.directory (with_value name_cmp place.name place.number) (λ names named. IsMap-with_value nat_list_cmp_total place.name place.number names named) maps

    pub taken_maps : AreNamesMaps tree.directories → AreNamesMaps (taken place tree)
    taken_maps maps = names_stay_maps tree.directories rises place.directory (without name_cmp place.name) (λ names named. IsMap-without nat_list_cmp_total place.name names named) maps
