-- A tree that is well formed is so with one more name of a file, and with a new file or directory.
use Rattle.std.proofs.Common.{◌≡◌, ◌⊎◌, inl, inr, ⊎_elim, ℕ, ◌+◌, Bool, true, false, cond, Option, Some, None, List, [], ◌∷◌, ◌++◌, refl, sym, ap, ◌∙◌, subst, arith}
use Rattle.std.specs.Prelude.{◌==◌, IsSome, is_some}
use Rattle.std.specs.BTreeMap.{is_at}
use Rattle.std.specs.List.Sorted.{IsStrictlySortedBy}
use Rattle.std.specs.Ordering.{nat_cmp}
use Rattle.std.proofs.lemmas.Bool.{eq-eqb, true≢false}
use Rattle.std.proofs.lemmas.Cmp.{nat_cmp_total}
use Rattle.std.proofs.lemmas.Option.{same_Some}
use Rattle.forest_ops.specs.Trees.{Place, with_directory, with_file, with_name}
use Rattle.key_meaning.specs.Checks.{IsAtPath, IsDirectoryOf, IsRooted, count_names}
use Rattle.plain_forest.specs.Forest.{Names, Tree}
use Rattle.vol_types.specs.MapLaws.{IsMap-with_value, value_at-with_value}
use Rattle.vol_types.specs.Maps.{IsMap, value_at, with_value}
use Rattle.vol_types.specs.Ranges.{name_cmp}
use Rattle.tree_changes.specs.Trees.{IsFreeName, IsNewNumber, IsWellFormed}
use Rattle.tree_changes.proofs.Counting.{directory_counts, put, put_counts, weighs_none}
use Rattle.tree_changes.proofs.Formed.{apart_from, differ, kinds_kept, path_to, put_maps, put_rises, still_some, was_some, with_lists}
use Rattle.tree_changes.proofs.Leading.{has_changed_at, leads, leads_from, named, no_value, put_keeps, put_leads, same_directory}
use Rattle.tree_changes.proofs.Ways.{Lead, lead_kept, lead_then, walk_of}

-- no names are a map
no_names : IsMap {X = ℕ} name_cmp []
unfolding IsStrictlySortedBy
no_names = tt

module _ (place : Place) (tree : Tree) (well : IsWellFormed tree) where
  module _ (free : IsFreeName place tree) where
    -- all names lead where they led
    keeps : (number : ℕ) (name : List ℕ) (end : ℕ) → leads tree.directories number name ≡ Some end → leads (put place tree) number name ≡ Some end
    keeps = put_keeps tree.directories well.directories place.directory place.name place.number free.names free.held free.free

    module _ (none : value_at nat_cmp place.number tree.directories ≡ None) (files : List (ℕ × List ℕ)) where
      abbrev after : Tree
      after = with_lists tree files (put place tree)

      put_same : (number : ℕ) → IsDirectoryOf tree number → count_names (put place tree) number ≡ count_names tree.directories number
      put_same number some =
          let counts : count_names (put place tree) number ≡ count_names tree.directories number + cond {A = ℕ} (place.number == number) 1 0 = put_counts place tree free number in
          omega (arith, counts, weighs_none tree.directories place.number number none some)

      put_rooted : IsRooted after
      put_rooted = record {
        root = put_same tree.root well.top ∙ well.rooted.root;
        named = λ number some other. let was = was_some place tree (with_value name_cmp place.name place.number) number some in put_same number was ∙ well.rooted.named number was other;
        below = λ number some. let path = path_to tree well number (was_some place tree (with_value name_cmp place.name place.number) number some) in
            record { names = path.0; leads = walk_of after path.0 tree.root number (lead_kept tree.directories (put place tree) keeps path.0 tree.root number path.1) };
      }

    -- A name of a file more
    pub name_formed : value_at nat_cmp place.number tree.directories ≡ None → IsWellFormed (with_name place tree)
    name_formed none = record {
      files = well.files;
      directories = put_rises place tree well.directories;
      names = put_maps place tree well.directories well.names;
      kinds = kinds_kept tree well (put place tree) (was_some place tree (with_value name_cmp place.name place.number));
      top = still_some place tree (with_value name_cmp place.name place.number) tree.root well.top;
      rooted = put_rooted none tree.files;
    }

    -- A new file
    pub file_formed : IsNewNumber tree place.number → IsWellFormed (with_file place tree)
    file_formed new = record {
      files = IsMap-with_value nat_cmp_total place.number [] tree.files well.files;
      directories = put_rises place tree well.directories;
      names = put_maps place tree well.directories well.names;
      kinds = λ number some. by (is_at (nat_cmp place.number) number) number refl (sym (ap is_some (value_at-with_value nat_cmp_total place.number [] number tree.files)) ∙ some);
      top = still_some place tree (with_value name_cmp place.name place.number) tree.root well.top;
      rooted = put_rooted new.no_directory (with_value nat_cmp place.number [] tree.files);
    }
      where
        by : (b : Bool) (number : ℕ) → is_at (nat_cmp place.number) number ≡ b → is_some (cond {A = Option (List ℕ)} b (Some []) (value_at nat_cmp number tree.files)) ≡ true → value_at nat_cmp number (put place tree) ≡ None
        by true number is some =
            ap (λ n. value_at nat_cmp n (put place tree)) (sym (same_directory place.number number is))
            ∙ no_value (value_at nat_cmp place.number (put place tree)) (has_changed_at nat_cmp place.directory place.number (with_value name_cmp place.name place.number) tree.directories ∙ ap is_some new.no_directory)
        by false number is some = kinds_kept tree well (put place tree) (was_some place tree (with_value name_cmp place.name place.number)) number some

    module _ (new : IsNewNumber tree place.number) where
      abbrev added : List (ℕ × Names)
      added = with_value nat_cmp place.number [] (put place tree)

      value_added : (number : ℕ) → value_at nat_cmp number added ≡ cond (is_at (nat_cmp place.number) number) (Some []) (value_at nat_cmp number (put place tree))
      value_added number = value_at-with_value nat_cmp_total place.number [] number (put place tree)

      value_old : (number : ℕ) → IsDirectoryOf tree number → value_at nat_cmp number added ≡ value_at nat_cmp number (put place tree)
      value_old number some = value_added number ∙ ap (λ b. cond b (Some []) (value_at nat_cmp number (put place tree))) (apart_from place.number number (differ tree.directories place.number number new.no_directory some))

      added_keeps : (number : ℕ) (name : List ℕ) (end : ℕ) → leads tree.directories number name ≡ Some end → leads added number name ≡ Some end
      added_keeps number name end is = ap (λ o. named o name) (value_old number (leads_from tree.directories number name end is)) ∙ keeps number name end is

      added_leads : leads added place.directory place.name ≡ Some place.number
      added_leads = ap (λ o. named o place.name) (value_old place.directory (ap is_some free.held)) ∙ put_leads tree.directories well.directories place.directory place.name place.number free.names free.held

      -- a directory is the new one or one of before
      new_or_old : (number : ℕ) → IsSome (value_at nat_cmp number added) → (place.number ≡ number) ⊎ IsDirectoryOf tree number
      new_or_old number some = by (is_at (nat_cmp place.number) number) refl (sym (ap is_some (value_added number)) ∙ some)
        where
          by : (b : Bool) → is_at (nat_cmp place.number) number ≡ b → is_some (cond {A = Option Names} b (Some []) (value_at nat_cmp number (put place tree))) ≡ true → (place.number ≡ number) ⊎ IsDirectoryOf tree number
          by true is some = inl (same_directory place.number number is)
          by false is some = inr (was_some place tree (with_value name_cmp place.name place.number) number some)

      added_same : (number : ℕ) → IsDirectoryOf tree number → count_names added number ≡ count_names tree.directories number
      added_same number some =
          let counts : count_names added number ≡ count_names tree.directories number + cond {A = ℕ} (place.number == number) 1 0 = directory_counts place tree free new.no_directory number in
          omega (arith, counts, weighs_none tree.directories place.number number new.no_directory some)

      added_one : count_names added place.number ≡ 1
      added_one =
          let counts : count_names added place.number ≡ count_names tree.directories place.number + cond {A = ℕ} (place.number == place.number) 1 0 = directory_counts place tree free new.no_directory place.number in
          let one : cond {A = ℕ} (place.number == place.number) 1 0 ≡ 1 = ap (λ b. cond {A = ℕ} b 1 0) (eq-eqb place.number place.number refl) in
          omega (arith, counts, one, new.no_name)

      -- A new directory
      pub directory_formed : IsWellFormed (with_directory place tree)
      directory_formed = record {
        files = well.files;
        directories = IsMap-with_value nat_cmp_total place.number [] (put place tree) (put_rises place tree well.directories);
        names = λ number names held. maps number names (is_at (nat_cmp place.number) number) (sym (value_added number) ∙ held);
        kinds = λ number some. value_added number ∙ no_kind number some (is_at (nat_cmp place.number) number) refl;
        top = ap is_some (value_old tree.root well.top) ∙ still_some place tree (with_value name_cmp place.name place.number) tree.root well.top;
        rooted = record {
          root = added_same tree.root well.top ∙ well.rooted.root;
          named = λ number some other. ⊎_elim (λ same. ap (count_names added) (sym same) ∙ added_one) (λ was. added_same number was ∙ well.rooted.named number was other) (new_or_old number some);
          below = λ number some. ⊎_elim (λ same. subst (IsAtPath (with_directory place tree)) same below_new) (λ was. below_old number was) (new_or_old number some);
        };
      }
        where
          maps : (number : ℕ) (names : Names) (b : Bool) → cond {A = Option Names} b (Some []) (value_at nat_cmp number (put place tree)) ≡ Some names → IsMap name_cmp names
          maps number names true is = subst (IsMap name_cmp) (same_Some [] names is) no_names
          maps number names false is = put_maps place tree well.directories well.names number names is

          no_kind : (number : ℕ) → IsSome (value_at nat_cmp number tree.files) → (b : Bool) → is_at (nat_cmp place.number) number ≡ b → cond {A = Option Names} b (Some []) (value_at nat_cmp number (put place tree)) ≡ None
          no_kind number some true is = absurd (true≢false (sym some ∙ ap (λ n. is_some (value_at nat_cmp n tree.files)) (sym (same_directory place.number number is)) ∙ ap is_some new.no_file))
          no_kind number some false is = kinds_kept tree well (put place tree) (was_some place tree (with_value name_cmp place.name place.number)) number some

          path_old : (number : ℕ) (was : IsDirectoryOf tree number) → Lead added (path_to tree well number was).0 tree.root number
          path_old number was = let path = path_to tree well number was in lead_kept tree.directories added added_keeps path.0 tree.root number path.1

          below_old : (number : ℕ) → IsDirectoryOf tree number → IsAtPath (with_directory place tree) number
          below_old number was = let path = path_to tree well number was in record { names = path.0; leads = walk_of (with_directory place tree) path.0 tree.root number (path_old number was) }

          below_new : IsAtPath (with_directory place tree) place.number
          below_new =
              let there : IsDirectoryOf tree place.directory = ap is_some free.held in
              let path = path_to tree well place.directory there in
              let whole : Lead added (path.0 ++ place.name ∷ []) tree.root place.number = lead_then added path.0 (place.name ∷ []) tree.root place.directory place.number (path_old place.directory there) (place.number, added_leads, refl) in
              record { names = path.0 ++ place.name ∷ []; leads = walk_of (with_directory place tree) (path.0 ++ place.name ∷ []) tree.root place.number whole }
