-- What shows in an id means the tree of its subvolume, and no other tree.
use Rattle.std.proofs.Common.{◌≡◌, ℕ, Bool, true, false, cond, Option, Some, None, List, refl, sym, ap, ◌∙◌, subst}
use Rattle.std.specs.Prelude.{is_some}
use Rattle.std.specs.Ordering.{nat_cmp}
use Rattle.std.proofs.lemmas.Bool.{true≢false}
use Rattle.std.proofs.lemmas.Cmp.{nat_cmp_total, nat_list_cmp_total}
use Rattle.std.proofs.lemmas.Map.Lookups.{exact_bytes, exact_unsigned}
use Rattle.std.proofs.lemmas.Option.{same_Some, none-some as none_some}
use Rattle.key_meaning.specs.Forest.{Read, directories_in, is_directory, kind_in, names_in, tree_of}
use Rattle.key_meaning.specs.ForestLaws.{directories_rise, directory_at, file_at, files_rise, name_at, names_rise}
use Rattle.key_steps.specs.Shown.{AreDirectoriesOf, IsTreeOf, Shown, shown_in}
use Rattle.plain_forest.specs.Forest.{Names, Tree}
use Rattle.vol_types.specs.KeyMaps.{KeyMap}
use Rattle.vol_types.specs.MapLaws.{same_maps}
use Rattle.vol_types.specs.Maps.{IsMap, value_at}
use Rattle.vol_types.specs.Ranges.{name_cmp}
use Rattle.vol_types.specs.declared.values.Sub.{Sub}

-- something is given where a test passes
some_where : {X : Type 0} (b : Bool) (x : X) → is_some (cond b (Some x) None) ≡ b
some_where true x = refl
some_where false x = refl

-- and what is given then
what_is_given : {X : Type 0} (b : Bool) (x y : X) → cond b (Some x) None ≡ Some y → x ≡ y
what_is_given true x y is = same_Some x y is
what_is_given false x y is = absurd (none_some y is)

module _ (keys : KeyMap) (id : ℕ) where
  -- a directory of an id has the names that it has there
  names_are : (number : ℕ) (names : Names) → value_at nat_cmp number (directories_in keys id) ≡ Some names → names_in keys id number ≡ names
  names_are number names found = what_is_given (is_directory (kind_in keys id number)) (names_in keys id number) names (sym (directory_at keys id number) ∙ found)

  -- The directories of an id are those that show there.
  pub directories_are : AreDirectoriesOf (shown_in keys id) (directories_in keys id)
  directories_are = record {
    map = directories_rise keys id;
    each = λ number. ap is_some (directory_at keys id number) ∙ some_where (is_directory (kind_in keys id number)) (names_in keys id number);
    name_map = λ number names found. subst (IsMap name_cmp) (names_are number names found) (names_rise keys id number);
    names = λ number names found name. ap (value_at name_cmp name) (sym (names_are number names found)) ∙ name_at keys id number name;
  }

-- The tree of a subvolume is what its id shows.
pub shown_is_tree : (keys : KeyMap) (read : Read) (sub : Sub) → IsTreeOf read sub (shown_in keys sub.id) (tree_of keys read sub)
shown_is_tree keys read sub = record {
  locked = refl;
  root = refl;
  files = record { map = files_rise keys sub.id read; each = file_at keys sub.id read };
  directories = directories_are keys sub.id;
}

module _ (shown : Shown) (one other : List (ℕ × Names)) (is : AreDirectoriesOf shown one) (also : AreDirectoriesOf shown other) where
  same_directory : (number : ℕ) → value_at nat_cmp number one ≡ value_at nat_cmp number other
  same_directory number = by (value_at nat_cmp number one) (value_at nat_cmp number other) refl refl
    where
      agree : (here there : Option Names) → value_at nat_cmp number one ≡ here → value_at nat_cmp number other ≡ there → is_some here ≡ is_some there
      agree here there at beside = sym (ap is_some at) ∙ is.each number ∙ sym (also.each number) ∙ ap is_some beside

      by : (here there : Option Names) → value_at nat_cmp number one ≡ here → value_at nat_cmp number other ≡ there → here ≡ there
      by None None at beside = refl
      by None (Some names) at beside = absurd (true≢false (sym (agree None (Some names) at beside)))
      by (Some names) None at beside = absurd (true≢false (agree (Some names) None at beside))
      by (Some names) (Some others) at beside = ap Some (same_maps nat_list_cmp_total exact_bytes names others (is.name_map number names at) (also.name_map number others beside) (λ name. is.names number names at name ∙ sym (also.names number others beside name)))

  -- What shows means one map of directories.
  pub same_directories : one ≡ other
  same_directories = same_maps nat_cmp_total exact_unsigned one other is.map also.map same_directory

-- What shows means one tree.
pub one_tree : (read : Read) (sub : Sub) (shown : Shown) (one other : Tree) → IsTreeOf read sub shown one → IsTreeOf read sub shown other → one ≡ other
one_tree read sub shown one other is also =
    let files = same_maps nat_cmp_total exact_unsigned one.files other.files is.files.map also.files.map (λ number. is.files.each number ∙ sym (also.files.each number)) in
    let directories = same_directories shown one.directories other.directories is.directories also.directories in
    λ i. record { locked = (is.locked ∙ sym also.locked) i; root = (is.root ∙ sym also.root) i; files = files i; directories = directories i }
