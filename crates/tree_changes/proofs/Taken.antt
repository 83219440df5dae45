-- A tree that is well formed is so with one name of a file less, without an empty directory and its name, and with other bytes.
use Rattle.std.proofs.Common.{◌≡◌, ◌⊎◌, inl, inr, ℕ, ◌+◌, ◌≤◌, Bool, true, false, cond, Option, Some, None, List, [], refl, sym, ap, ◌∙◌, arith}
use Rattle.std.specs.Prelude.{◌==◌, IsSome, is_some}
use Rattle.std.specs.BTreeMap.{is_at}
use Rattle.std.specs.Ordering.{nat_cmp}
use Rattle.std.proofs.lemmas.Bool.{false≢true, ne_eqb, true≢false}
use Rattle.std.proofs.lemmas.Cmp.{nat_cmp_total}
use Rattle.std.proofs.lemmas.Map.Lookups.{exact_unsigned}
use Rattle.std.proofs.lemmas.Option.{none-some as none_some}
use Rattle.forest_ops.specs.Names.{links_of}
use Rattle.forest_ops.specs.Trees.{Place, unlinked, with_bytes, without_directory, without_name}
use Rattle.key_meaning.specs.Checks.{IsDirectoryOf, IsRooted, count_names}
use Rattle.key_meaning.specs.TableLaws.{IsMap-changed_at}
use Rattle.plain_forest.specs.Forest.{Names, Tree}
use Rattle.vol_types.specs.MapLaws.{IsMap-without, value_at-without}
use Rattle.vol_types.specs.Maps.{IsMap, value_at, without}
use Rattle.vol_types.specs.Ranges.{name_cmp}
use Rattle.tree_changes.specs.Trees.{IsNameAt, IsWellFormed}
use Rattle.tree_changes.proofs.Counting.{count_some, removed_counts, taken, taken_counts, weighs_none}
use Rattle.tree_changes.proofs.Formed.{apart_from, at_itself, kinds_kept, path_to, still_some, taken_maps, taken_rises, was_some, with_lists}
use Rattle.tree_changes.proofs.Leading.{has_changed_at, is_name, leads, leads_from, named, taken_keeps}
use Rattle.tree_changes.proofs.Ways.{Lead, Pass, leads_in, leads_or_passes, walk_of}

-- what is left of nothing or something where a test holds is nothing
some_left : {X : Type 0} (b : Bool) (found : Option X) → is_some (cond b None found) ≡ true → (b ≡ false) × IsSome found
some_left true found some = absurd (false≢true some)
some_left false found some = (refl, some)

module _ (place : Place) (tree : Tree) (well : IsWellFormed tree) (at : IsNameAt place tree) where
  name_leads : leads tree.directories place.directory place.name ≡ Some place.number
  name_leads = ap (λ o. named o place.name) at.held ∙ at.leads

  -- the names of all others lead on
  keeps : (number : ℕ) (name : List ℕ) (end : ℕ) → leads tree.directories number name ≡ Some end → is_name place.directory place.name number name ≡ false → leads (taken place tree) number name ≡ Some end
  keeps = taken_keeps tree.directories well.directories place.directory place.name well.names

  module _ (left : List (ℕ × Names)) (gone : value_at nat_cmp place.number left ≡ None)
      (keeps_left : (number : ℕ) (name : List ℕ) (end : ℕ) → leads tree.directories number name ≡ Some end → is_name place.directory place.name number name ≡ false → leads left number name ≡ Some end) where
    -- Names that lead to a directory that is left don't pass what is gone.
    way_left : (names : List (List ℕ)) (number : ℕ) → IsSome (value_at nat_cmp number left) → Lead tree.directories names tree.root number → Lead left names tree.root number
    way_left names number some way = by (leads_or_passes tree.directories left place.directory place.name place.number name_leads keeps_left names tree.root number way)
      where
        by : Lead left names tree.root number ⊎ Pass tree.directories left place.directory place.name place.number names tree.root number → Lead left names tree.root number
        by (inl goes) = goes
        by (inr passes) =
            let there : IsSome (value_at nat_cmp place.number left) = leads_in left passes.behind place.number number passes.goes (λ (n : ℕ). IsSome (value_at nat_cmp n left)) some (leads_from left) in
            absurd (false≢true (sym (ap is_some gone) ∙ there))

  module _ (none : value_at nat_cmp place.number tree.directories ≡ None) (files : List (ℕ × List ℕ)) where
    abbrev after : Tree
    after = with_lists tree files (taken place tree)

    taken_same : (number : ℕ) → IsDirectoryOf tree number → count_names (taken place tree) number ≡ count_names tree.directories number
    taken_same number some =
        let counts : count_names (taken place tree) number + cond {A = ℕ} (place.number == number) 1 0 ≡ count_names tree.directories number = taken_counts place tree at number in
        omega (arith, counts, weighs_none tree.directories place.number number none some)

    nothing_there : value_at nat_cmp place.number (taken place tree) ≡ None
    nothing_there = by (value_at nat_cmp place.number (taken place tree)) refl
      where
        by : (found : Option Names) → value_at nat_cmp place.number (taken place tree) ≡ found → found ≡ None
        by None is = refl
        by (Some names) is = absurd (false≢true (sym (ap is_some none) ∙ was_some place tree (without name_cmp place.name) place.number (ap is_some is)))

    taken_rooted : IsRooted after
    taken_rooted = record {
      root = taken_same tree.root well.top ∙ well.rooted.root;
      named = λ number some other. let was = was_some place tree (without name_cmp place.name) number some in taken_same number was ∙ well.rooted.named number was other;
      below = λ number some. let path = path_to tree well number (was_some place tree (without name_cmp place.name) number some) in
          record { names = path.0; leads = walk_of after path.0 tree.root number (way_left (taken place tree) nothing_there keeps path.0 number some path.1) };
    }

    taken_formed : IsMap nat_cmp files → ((number : ℕ) → IsSome (value_at nat_cmp number files) → IsSome (value_at nat_cmp number tree.files)) → IsWellFormed after
    taken_formed rises no_more = record {
      files = rises;
      directories = taken_rises place tree well.directories;
      names = taken_maps place tree well.directories well.names;
      kinds = λ number some. kinds_kept tree well (taken place tree) (was_some place tree (without name_cmp place.name)) number (no_more number some);
      top = still_some place tree (without name_cmp place.name) tree.root well.top;
      rooted = taken_rooted;
    }

  -- A name of a file less
  pub unlinked_formed : value_at nat_cmp place.number tree.directories ≡ None → IsWellFormed (unlinked place tree)
  unlinked_formed none = by (links_of place.number (taken place tree) == 0)
    where
      fewer : (number : ℕ) → IsSome (value_at nat_cmp number (without nat_cmp place.number tree.files)) → IsSome (value_at nat_cmp number tree.files)
      fewer number some = (some_left (is_at (nat_cmp place.number) number) (value_at nat_cmp number tree.files) (sym (ap is_some (value_at-without nat_cmp_total place.number number tree.files well.files)) ∙ some)).1

      by : (b : Bool) → IsWellFormed (cond b (record (without_name place tree) { files = without nat_cmp place.number tree.files }) (without_name place tree))
      by true = taken_formed none (without nat_cmp place.number tree.files) (IsMap-without nat_cmp_total place.number tree.files well.files) fewer
      by false = taken_formed none tree.files well.files (λ number some. some)

  module _ (empty : value_at nat_cmp place.number tree.directories ≡ Some []) where
    abbrev rest : List (ℕ × Names)
    rest = without nat_cmp place.number (taken place tree)

    value_rest : (number : ℕ) → value_at nat_cmp number rest ≡ cond (is_at (nat_cmp place.number) number) None (value_at nat_cmp number (taken place tree))
    value_rest number = value_at-without nat_cmp_total place.number number (taken place tree) (taken_rises place tree well.directories)

    -- what is left differs from what is gone, and was there
    rest_parts : (number : ℕ) → IsSome (value_at nat_cmp number rest) → (is_at (nat_cmp place.number) number ≡ false) × IsDirectoryOf tree number
    rest_parts number some =
        let parts = some_left (is_at (nat_cmp place.number) number) (value_at nat_cmp number (taken place tree)) (sym (ap is_some (value_rest number)) ∙ some) in
        (parts.0, was_some place tree (without name_cmp place.name) number parts.1)

    rest_none : value_at nat_cmp place.number rest ≡ None
    rest_none = by (value_at nat_cmp place.number rest) refl
      where
        by : (found : Option Names) → value_at nat_cmp place.number rest ≡ found → found ≡ None
        by None is = refl
        by (Some names) is = absurd (true≢false (sym (at_itself place.number) ∙ (rest_parts place.number (ap is_some is)).0))

    rest_same : (number : ℕ) → is_at (nat_cmp place.number) number ≡ false → value_at nat_cmp number rest ≡ value_at nat_cmp number (taken place tree)
    rest_same number apart = value_rest number ∙ ap (λ b. cond b None (value_at nat_cmp number (taken place tree))) apart

    -- the empty directory has no name that led anywhere
    rest_keeps : (number : ℕ) (name : List ℕ) (end : ℕ) → leads tree.directories number name ≡ Some end → is_name place.directory place.name number name ≡ false → leads rest number name ≡ Some end
    rest_keeps number name end is apart =
        ap (λ o. named o name) (rest_same number (apart_from place.number number (λ same. none_some end (sym (ap (λ o. named o name) empty) ∙ ap (λ n. leads tree.directories n name) same ∙ is)))) ∙ keeps number name end is apart

    rest_counts : (number : ℕ) → count_names rest number + cond {A = ℕ} (place.number == number) 1 0 ≡ count_names tree.directories number
    rest_counts number = removed_counts place tree well.directories at empty number

    rest_count : (number : ℕ) → is_at (nat_cmp place.number) number ≡ false → count_names rest number ≡ count_names tree.directories number
    rest_count number apart = let none : cond {A = ℕ} (place.number == number) 1 0 ≡ 0 = ap (λ b. cond {A = ℕ} b 1 0) (ne_eqb place.number number (λ same. true≢false (sym (at_itself place.number) ∙ ap (λ n. is_at (nat_cmp place.number) n) same ∙ apart))) in
        omega (arith, rest_counts number, none)

    -- the root has no name, so that it isn't what is gone
    root_apart : is_at (nat_cmp place.number) tree.root ≡ false
    root_apart = apart_from place.number tree.root (λ same. let named_once : 1 ≤ count_names tree.directories tree.root = count_some tree.directories tree.root place.directory place.name (name_leads ∙ ap Some same) in absurd (omega (arith, named_once, well.rooted.root)))

    -- An empty directory less
    pub removed_formed : IsWellFormed (without_directory place tree)
    removed_formed = record {
      files = well.files;
      directories = IsMap-without nat_cmp_total place.number (taken place tree) (taken_rises place tree well.directories);
      names = λ number names held. taken_maps place tree well.directories well.names number names (sym (rest_same number (rest_parts number (ap is_some held)).0) ∙ held);
      kinds = kinds_kept tree well rest (λ number some. (rest_parts number some).1);
      top = ap is_some (rest_same tree.root root_apart) ∙ still_some place tree (without name_cmp place.name) tree.root well.top;
      rooted = record {
        root = rest_count tree.root root_apart ∙ well.rooted.root;
        named = λ number some other. let parts = rest_parts number some in rest_count number parts.0 ∙ well.rooted.named number parts.1 other;
        below = λ number some. let path = path_to tree well number (rest_parts number some).1 in
            record { names = path.0; leads = walk_of (without_directory place tree) path.0 tree.root number (way_left rest rest_none rest_keeps path.0 number some path.1) };
      };
    }

-- Other bytes of a file
pub bytes_formed : (number : ℕ) (change : List ℕ → List ℕ) (tree : Tree) → IsWellFormed tree → IsWellFormed (with_bytes number change tree)
bytes_formed number change tree well = record {
  files = IsMap-changed_at nat_cmp_total exact_unsigned number change tree.files well.files;
  directories = well.directories;
  names = well.names;
  kinds = λ other some. well.kinds other (sym (has_changed_at nat_cmp number other change tree.files) ∙ some);
  top = well.top;
  rooted = record {
    root = well.rooted.root;
    named = well.rooted.named;
    below = λ other some. let path = path_to tree well other some in record { names = path.0; leads = walk_of (with_bytes number change tree) path.0 tree.root other path.1 };
  };
}
