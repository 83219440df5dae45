-- How many names lead to a number: a number that is counted once has one name in one directory, and after a change of a tree its
-- number has one name more or less, and any other as many as before.
use Rattle.std.proofs.Common.{◌≡◌, ℕ, ◌+◌, ◌≤◌, Bool, true, false, cond, Option, Some, None, List, [], refl, sym, ap, ◌∙◌, arith}
use Rattle.std.specs.Prelude.{◌==◌, IsSome, count_by, is_some}
use Rattle.std.specs.BTreeMap.{is_at}
use Rattle.std.specs.Ordering.{nat_cmp}
use Rattle.std.proofs.lemmas.Bool.{eq-eqb, ne_eqb, true≢false}
use Rattle.std.proofs.lemmas.Cmp.{nat_cmp_total, nat_list_cmp_total}
use Rattle.std.proofs.lemmas.Map.Lookups.{exact_bytes, exact_unsigned}
use Rattle.std.proofs.lemmas.Option.{same_Some}
use Rattle.forest_ops.specs.Names.{links_of}
use Rattle.forest_ops.specs.Trees.{Place, moved, unlinked, with_directory, with_name, without_directory, without_name}
use Rattle.key_meaning.specs.Checks.{count_names}
use Rattle.plain_forest.specs.Forest.{Names, Tree}
use Rattle.plain_forest.specs.Maps.{changed_at}
use Rattle.vol_types.specs.MapLaws.{value_at-with_value}
use Rattle.vol_types.specs.Maps.{IsMap, value_at, with_value, without}
use Rattle.vol_types.specs.Ranges.{name_cmp}
use Rattle.tree_changes.specs.Trees.{IsFreeName, IsNameAt, IsWellFormed, MayMove}
use Rattle.tree_changes.proofs.Leading.{AreNamesMaps, changed_names, has_changed_at, leads, leads_parts, no_value, same_directory, same_words}
use Rattle.tree_changes.proofs.Sums.{one_weighs, sum_by-changed_at, sum_by-with_value, sum_by-without, two_weigh}

-- how many of some names lead to a number
abbrev links : ℕ → Names → ℕ
links number names = count_by (λ (name : List ℕ × ℕ). name.1 == number) names

-- 1 for a name that leads to a number, and 0 for another
abbrev weight : ℕ → List ℕ × ℕ → ℕ
weight number name = cond {A = ℕ} (name.1 == number) 1 0

-- how many names of a directory lead to a number
abbrev links_in : ℕ → ℕ × Names → ℕ
links_in number directory = links number directory.1

-- A name counts for the number to which it leads,
weighs_one : (number : ℕ) → cond {A = ℕ} (number == number) 1 0 ≡ 1
weighs_one number = ap (λ b. cond {A = ℕ} b 1 0) (eq-eqb number number refl)

-- and for no directory, where that is the number of none.
pub weighs_none : (directories : List (ℕ × Names)) (number other : ℕ) → value_at nat_cmp number directories ≡ None → IsSome (value_at nat_cmp other directories) → cond {A = ℕ} (number == other) 1 0 ≡ 0
weighs_none directories number other none some =
    ap (λ b. cond {A = ℕ} b 1 0) (ne_eqb number other (λ same. true≢false (sym some ∙ ap (λ n. is_some (value_at nat_cmp n directories)) (sym same) ∙ ap is_some none)))

module _ (directories : List (ℕ × Names)) (number : ℕ) where
  -- A name that leads to a number is counted,
  links_some : (names : Names) (name : List ℕ) → value_at name_cmp name names ≡ Some number → 1 ≤ links number names
  links_some names name leads_to =
      let some : cond {A = ℕ} (number == number) 1 0 ≤ links number names = one_weighs exact_bytes (weight number) name number names leads_to in
      omega (arith, some, weighs_one number)

  -- no more in one directory than in all of them,
  links_within : (at : ℕ) (names : Names) → value_at nat_cmp at directories ≡ Some names → links number names ≤ count_names directories number
  links_within at names held = one_weighs exact_unsigned (links_in number) at names directories held

  -- so that there it is counted too,
  pub count_some : (at : ℕ) (name : List ℕ) → leads directories at name ≡ Some number → 1 ≤ count_names directories number
  count_some at name is =
      let parts = leads_parts directories at name number is in
      let some : 1 ≤ links number parts.0 = links_some parts.0 name parts.2 in
      let within : links number parts.0 ≤ count_names directories number = links_within at parts.0 parts.1 in
      omega (arith, some, within)

  -- and a number that is counted once has one name in one directory.
  pub one_name : IsMap nat_cmp directories → AreNamesMaps directories → (at other : ℕ) (name word : List ℕ) → count_names directories number ≡ 1 → leads directories at name ≡ Some number → leads directories other word ≡ Some number
      → (at ≡ other) × (name ≡ word)
  one_name rises each at other name word one here there = by (is_at (nat_cmp at) other) refl
    where
      mine : (names : Names) × (value_at nat_cmp at directories ≡ Some names) × (value_at name_cmp name names ≡ Some number)
      mine = leads_parts directories at name number here

      theirs : (names : Names) × (value_at nat_cmp other directories ≡ Some names) × (value_at name_cmp word names ≡ Some number)
      theirs = leads_parts directories other word number there

      in_one : at ≡ other → (b : Bool) → is_at (name_cmp name) word ≡ b → name ≡ word
      in_one same true alike = same_words name word alike
      in_one same false apart =
          let names : mine.0 ≡ theirs.0 = same_Some mine.0 theirs.0 (sym mine.1 ∙ ap (λ d. value_at nat_cmp d directories) same ∙ theirs.1) in
          let two : cond {A = ℕ} (number == number) 1 0 + cond {A = ℕ} (number == number) 1 0 ≤ links number mine.0 =
          two_weigh exact_bytes (weight number) nat_list_cmp_total name word number number mine.0 (each at mine.0 mine.1) apart mine.2 (ap (λ (ns : Names). value_at name_cmp word ns) names ∙ theirs.2) in
          let within : links number mine.0 ≤ count_names directories number = links_within at mine.0 mine.1 in
          absurd (omega (arith, two, within, one, weighs_one number))

      by : (b : Bool) → is_at (nat_cmp at) other ≡ b → (at ≡ other) × (name ≡ word)
      by true alike = let same = same_directory at other alike in (same, in_one same (is_at (name_cmp name) word) refl)
      by false apart =
          let two : links number mine.0 + links number theirs.0 ≤ count_names directories number =
          two_weigh exact_unsigned (links_in number) nat_cmp_total at other mine.0 theirs.0 directories rises apart mine.1 theirs.1 in
          let some : 1 ≤ links number mine.0 = links_some mine.0 name mine.2 in
          let further : 1 ≤ links number theirs.0 = links_some theirs.0 word theirs.2 in
          absurd (omega (arith, two, some, further, one))

module _ (place : Place) (tree : Tree) where
  -- the directories with a name more, and with one less
  abbrev pub put : List (ℕ × Names)
  put = changed_at nat_cmp place.directory (with_value name_cmp place.name place.number) tree.directories

  abbrev pub taken : List (ℕ × Names)
  taken = changed_at nat_cmp place.directory (without name_cmp place.name) tree.directories

  -- A name more is one more for its number,
  pub put_counts : IsFreeName place tree → (number : ℕ) → count_names put number ≡ count_names tree.directories number + cond {A = ℕ} (place.number == number) 1 0
  put_counts free number =
      let all : count_names put number + links number free.names ≡ count_names tree.directories number + links number (with_value name_cmp place.name place.number free.names) =
      sum_by-changed_at exact_unsigned (links_in number) place.directory (with_value name_cmp place.name place.number) free.names tree.directories free.held in
      let more : links number (with_value name_cmp place.name place.number free.names) ≡ cond {A = ℕ} (place.number == number) 1 0 + links number free.names =
      sum_by-with_value name_cmp (weight number) place.name place.number free.names free.free in
      omega (arith, all, more)

  -- and a name less one less.
  pub taken_counts : IsNameAt place tree → (number : ℕ) → count_names taken number + cond {A = ℕ} (place.number == number) 1 0 ≡ count_names tree.directories number
  taken_counts at number =
      let all : count_names taken number + links number at.names ≡ count_names tree.directories number + links number (without name_cmp place.name at.names) =
      sum_by-changed_at exact_unsigned (links_in number) place.directory (without name_cmp place.name) at.names tree.directories at.held in
      let less : links number at.names ≡ cond {A = ℕ} (place.number == number) 1 0 + links number (without name_cmp place.name at.names) =
      sum_by-without exact_bytes (weight number) place.name place.number at.names at.leads in
      omega (arith, all, less)

  -- A new directory has no names, so that it counts as its name does,
  pub directory_counts : IsFreeName place tree → value_at nat_cmp place.number tree.directories ≡ None → (number : ℕ)
      → count_names (with_directory place tree).directories number ≡ count_names tree.directories number + cond {A = ℕ} (place.number == number) 1 0
  directory_counts free none number =
      let nowhere : value_at nat_cmp place.number put ≡ None =
      no_value (value_at nat_cmp place.number put) (has_changed_at nat_cmp place.directory place.number (with_value name_cmp place.name place.number) tree.directories ∙ ap is_some none) in
      let more : count_names (with_directory place tree).directories number ≡ links number [] + count_names put number = sum_by-with_value nat_cmp (links_in number) place.number [] put nowhere in
      let named : count_names put number ≡ count_names tree.directories number + cond {A = ℕ} (place.number == number) 1 0 = put_counts free number in
      let empty : links number [] ≡ 0 = refl in
      omega (arith, more, named, empty)

  -- and whether a file goes with its name makes no difference.
  pub unlinked_counts : IsNameAt place tree → (number : ℕ) → count_names (unlinked place tree).directories number + cond {A = ℕ} (place.number == number) 1 0 ≡ count_names tree.directories number
  unlinked_counts at number = by (links_of place.number taken == 0)
    where
      by : (b : Bool) → count_names (cond b (record (without_name place tree) { files = without nat_cmp place.number tree.files }) (without_name place tree)).directories number + cond {A = ℕ} (place.number == number) 1 0 ≡ count_names tree.directories number
      by true = taken_counts at number
      by false = taken_counts at number

  -- An empty directory is so without a name,
  pub taken_empty : IsMap nat_cmp tree.directories → (number : ℕ) → value_at nat_cmp number tree.directories ≡ Some [] → value_at nat_cmp number taken ≡ Some []
  taken_empty rises number is = changed_names tree.directories rises place.directory (without name_cmp place.name) number [] is ∙ by (is_at (nat_cmp place.directory) number)
    where
      by : (b : Bool) → ◌≡◌ {A = Option Names} (Some (cond b (without name_cmp place.name []) [])) (Some [])
      by true = refl
      by false = refl

  -- and counts for nothing.
  pub removed_counts : IsMap nat_cmp tree.directories → IsNameAt place tree → value_at nat_cmp place.number tree.directories ≡ Some [] → (number : ℕ)
      → count_names (without_directory place tree).directories number + cond {A = ℕ} (place.number == number) 1 0 ≡ count_names tree.directories number
  removed_counts rises at empty number =
      let less : count_names taken number ≡ links number [] + count_names (without_directory place tree).directories number =
      sum_by-without exact_unsigned (links_in number) place.number [] taken (taken_empty rises place.number empty) in
      let named : count_names taken number + cond {A = ℕ} (place.number == number) 1 0 ≡ count_names tree.directories number = taken_counts at number in
      let none : links number [] ≡ 0 = refl in
      omega (arith, less, named, none)

module _ (old new : Place) (tree : Tree) (well : IsWellFormed tree) (may : MayMove old new tree) where
  -- What moves has its old name still when it has the new one,
  pub still_named : IsNameAt old (with_name new tree)
  still_named = by (is_at (nat_cmp new.directory) old.directory) (changed_names tree.directories well.directories new.directory (with_value name_cmp new.name new.number) old.directory may.from.names may.from.held)
    where
      either : (b : Bool) → cond b (Some new.number) (value_at name_cmp old.name may.from.names) ≡ Some old.number
      either true = ap Some may.same
      either false = may.from.leads

      by : (b : Bool) → value_at nat_cmp old.directory (put new tree) ≡ Some (cond b (with_value name_cmp new.name new.number may.from.names) may.from.names) → IsNameAt old (with_name new tree)
      by true held = record {
        names = with_value name_cmp new.name new.number may.from.names;
        held = held;
        leads = value_at-with_value nat_list_cmp_total new.name new.number old.name may.from.names ∙ either (is_at (name_cmp new.name) old.name);
      }
      by false held = record { names = may.from.names; held = held; leads = may.from.leads }

  -- and then as many names as before.
  pub moved_counts : (number : ℕ) → count_names (moved old new tree).directories number ≡ count_names tree.directories number
  moved_counts number =
      let less : count_names (moved old new tree).directories number + cond {A = ℕ} (old.number == number) 1 0 ≡ count_names (put new tree) number = taken_counts old (with_name new tree) still_named number in
      let more : count_names (put new tree) number ≡ count_names tree.directories number + cond {A = ℕ} (new.number == number) 1 0 = put_counts new tree may.to number in
      let same : cond {A = ℕ} (new.number == number) 1 0 ≡ cond {A = ℕ} (old.number == number) 1 0 = ap (λ n. cond {A = ℕ} (n == number) 1 0) may.same in
      omega (arith, less, more, same)
