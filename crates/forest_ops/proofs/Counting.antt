-- What is counted after names and directories came or went.
use Rattle.std.proofs.Common.{◌≡◌, ℕ, ◌+◌, ◌-◌, ◌≤◌, Bool, true, false, cond, List, [], ◌∷◌, Option, Some, None, refl, ap, sym, ◌∙◌, ◌⊎◌, ⊎_elim, nat_cmp, arith}
use Rattle.std.specs.Prelude.{◌==◌, is_some, unwrap_or, option_map, sum_by}
use Rattle.std.specs.List.Sorted.{IsStrictlySortedBy}
use Rattle.std.proofs.lemmas.Cmp.{nat_cmp_total}
use Rattle.std.proofs.lemmas.Map.Entries.{sum_by-insert_entry}
use Rattle.std.proofs.lemmas.Bool.{cases_Bool}
use Rattle.std.proofs.lemmas.List.Sums.{sum_by-cons}
use Rattle.std.proofs.lemmas.Option.{same_Some}
use Rattle.std.specs.Map.{set_value, keys_of, values_of}
use Rattle.std.specs.BTreeMap.{is_at}
use Rattle.std.proofs.lemmas.Map.Lookups.{exact_bytes, exact_unsigned}
use Rattle.vol_types.specs.Maps.{without}
use Rattle.vol_digest.specs.Digests.{slot_of}
use Rattle.plain_forest.specs.Maps.{name_cmp, value_at, with_value, changed_at}
use Rattle.plain_forest.specs.Forest.{Names}
use Rattle.forest_ops.specs.Places.{IsEmptyDirectory}
use Rattle.forest_ops.specs.Names.{count_in_slot, links_in, links_of}
use Rattle.forest_ops.proofs.MapLemmas.{set_value-changed_at}
use Rattle.forest_ops.proofs.Sums.{without-none, sum_by-with_value, sum_by-without, sum_by-changed_at}

module _ {X : Type 0} (name : List ℕ) (value : X) (es : List (List ℕ × X)) (slot counted_slot before after : ℕ) (is : counted_slot ≡ slot_of name) where
  alike : cond {A = ℕ} (counted_slot == slot) 1 0 ≡ cond (slot_of name == slot) 1 0
  alike = ap (λ s. cond {A = ℕ} (s == slot) 1 0) is

  -- a name more, which is counted
  pub slot_more : value_at name_cmp name es ≡ None → after ≡ cond (counted_slot == slot) 1 0 + before → before ≡ count_in_slot slot es → after ≡ count_in_slot slot (with_value name_cmp name value es)
  slot_more none more was =
      let sums : count_in_slot slot (with_value name_cmp name value es) ≡ cond (slot_of name == slot) 1 0 + count_in_slot slot es = sum_by-with_value name_cmp (λ entry. cond {A = ℕ} (slot_of entry.0 == slot) 1 0) name value es none in
      omega (arith, sums, alike, more, was)

  -- a name less, which is counted no more
  pub slot_less : value_at name_cmp name es ≡ Some value → after ≡ before - cond (counted_slot == slot) 1 0 → before ≡ count_in_slot slot es → after ≡ count_in_slot slot (without name_cmp name es)
  slot_less there less was =
      let sums : count_in_slot slot es ≡ cond (slot_of name == slot) 1 0 + count_in_slot slot (without name_cmp name es) = sum_by-without exact_bytes (λ entry. cond {A = ℕ} (slot_of entry.0 == slot) 1 0) name value es there in
      omega (arith, sums, alike, less, was)

-- a value that is told to be absent
pub none_of : {A : Type 0} (found : Option A) → is_some found ≡ false → found ≡ None
none_of None is = refl
none_of (Some x) is = absurd (cc)

-- a name that was taken out, which is counted no more
pub slot_gone : {X : Type 0} (name : List ℕ) (es : List (List ℕ × X)) (slot counted_slot before after : ℕ) → counted_slot ≡ slot_of name → (found : Option X) → found ≡ value_at name_cmp name es → is_some found ≡ true → after ≡ before - cond (counted_slot == slot) 1 0 → before ≡ count_in_slot slot es → after ≡ count_in_slot slot (without name_cmp name es)
slot_gone name es slot counted_slot before after is None found some less was = absurd (cc)
slot_gone name es slot counted_slot before after is (Some value) found some less was = slot_less name value es slot counted_slot before after is (sym found) less was

-- a name of another slot taken out
pub slot_stays : {X : Type 0} (name : List ℕ) (es : List (List ℕ × X)) (slot : ℕ) (found : Option X) → found ≡ value_at name_cmp name es → (slot_of name == slot) ≡ false → count_in_slot slot es ≡ count_in_slot slot (without name_cmp name es)
slot_stays name es slot None found other = ap (count_in_slot slot) (sym (without-none name_cmp name es (sym found)))
slot_stays name es slot (Some value) found other =
    slot_less name value es slot (slot_of name) (count_in_slot slot es) (count_in_slot slot es) refl (sym found) (omega (arith, ap (λ b. cond {A = ℕ} b 1 0) other)) refl

-- a changed value counts as the one before
pub slot_changed : {X : Type 0} (name : List ℕ) (change : X → X) (slot : ℕ) (es : List (List ℕ × X)) → count_in_slot slot (changed_at name_cmp name change es) ≡ count_in_slot slot es
slot_changed name change slot [] = refl
slot_changed name change slot (e ∷ es) = by (is_at (name_cmp name) e.0) (slot_changed name change slot es)
  where
    by : (here : Bool) → count_in_slot slot (changed_at name_cmp name change es) ≡ count_in_slot slot es → count_in_slot slot (cond here ((e.0, change e.1) ∷ es) (e ∷ changed_at name_cmp name change es)) ≡ count_in_slot slot (e ∷ es)
    by true later = sum_by-cons (λ entry. cond {A = ℕ} (slot_of entry.0 == slot) 1 0) (e.0, change e.1) es ∙ sym (sum_by-cons (λ entry. cond {A = ℕ} (slot_of entry.0 == slot) 1 0) e es)
    by false later =
        sum_by-cons (λ entry. cond {A = ℕ} (slot_of entry.0 == slot) 1 0) e (changed_at name_cmp name change es)
        ∙ ap (λ n. cond {A = ℕ} (slot_of e.0 == slot) 1 0 + n) later
        ∙ sym (sum_by-cons (λ entry. cond {A = ℕ} (slot_of entry.0 == slot) 1 0) e es)

-- a directory without names has none after a change of directories that makes none
pub empty_stays : (number directory : ℕ) (change : Names → Names) (ds : List (ℕ × Names)) → change [] ≡ [] → IsEmptyDirectory number ds → IsEmptyDirectory number (changed_at nat_cmp directory change ds)
empty_stays number directory change [] keeps empty = empty
empty_stays number directory change (d ∷ ds) keeps empty =
    by (is_at (nat_cmp directory) d.0) (cases_Bool (is_at (nat_cmp number) d.0)) (empty_stays number directory change ds keeps)
  where
    later_ones : is_at (nat_cmp number) d.0 ≡ false → IsEmptyDirectory number ds
    later_ones other names is = empty names (ap (λ b. cond b (Some d.1) (value_at nat_cmp number ds)) other ∙ is)

    first_one : is_at (nat_cmp number) d.0 ≡ true → d.1 ≡ []
    first_one here = empty d.1 (ap (λ b. cond b (Some d.1) (value_at nat_cmp number ds)) here)

    by : (here : Bool) → (is_at (nat_cmp number) d.0 ≡ true) ⊎ (is_at (nat_cmp number) d.0 ≡ false)
        → (IsEmptyDirectory number ds → IsEmptyDirectory number (changed_at nat_cmp directory change ds))
        → IsEmptyDirectory number (cond here ((d.0, change d.1) ∷ ds) (d ∷ changed_at nat_cmp directory change ds))
    by true there later names is = ⊎_elim
        (λ yes. sym (same_Some (change d.1) names (sym (ap (λ b. cond b (Some (change d.1)) (value_at nat_cmp number ds)) yes) ∙ is)) ∙ ap change (first_one yes) ∙ keeps)
        (λ no. later_ones no names (sym (ap (λ b. cond b (Some (change d.1)) (value_at nat_cmp number ds)) no) ∙ is)) there
    by false there later names is = ⊎_elim
        (λ yes. sym (same_Some d.1 names (sym (ap (λ b. cond b (Some d.1) (value_at nat_cmp number (changed_at nat_cmp directory change ds))) yes) ∙ is)) ∙ first_one yes)
        (λ no. later (later_ones no) names (sym (ap (λ b. cond b (Some d.1) (value_at nat_cmp number (changed_at nat_cmp directory change ds))) no) ∙ is)) there

module _ (name : List ℕ) (number : ℕ) (names : Names) (other : ℕ) where
  -- a name more in a directory
  pub links_more : value_at name_cmp name names ≡ None → links_in other (with_value name_cmp name number names) ≡ cond (number == other) 1 0 + links_in other names
  links_more none = sum_by-with_value name_cmp (λ entry. cond {A = ℕ} (entry.1 == other) 1 0) name number names none

  -- a name less in a directory
  pub links_less : value_at name_cmp name names ≡ Some number → links_in other names ≡ cond (number == other) 1 0 + links_in other (without name_cmp name names)
  links_less there = sum_by-without exact_bytes (λ entry. cond {A = ℕ} (entry.1 == other) 1 0) name number names there

module _ (directory : ℕ) (names : Names) (ds : List (ℕ × Names)) (there : value_at nat_cmp directory ds ≡ Some names) (other : ℕ) where
  -- what leads to a number in one directory is no more than in all
  pub links_within : links_in other names ≤ links_of other ds
  links_within =
      let sums : links_of other ds ≡ links_in other names + links_of other (without nat_cmp directory ds) = sum_by-without exact_unsigned (λ (d : ℕ × Names). links_in other d.1) directory names ds there in
      omega (arith, sums)

  -- what is counted goes on as the names of a directory do
  pub links_changed : (new : Names) (before after : ℕ) → after + links_in other names ≡ before + links_in other new → before ≡ links_of other ds → after ≡ links_of other (set_value (is_at (nat_cmp directory)) ds new)
  links_changed new before after goes was =
      let sums : links_of other (changed_at nat_cmp directory (λ _. new) ds) + links_in other names ≡ links_of other ds + links_in other new = sum_by-changed_at exact_unsigned (λ (d : ℕ × Names). links_in other d.1) directory (λ _. new) names ds there in
      let same : links_of other (set_value (is_at (nat_cmp directory)) ds new) ≡ links_of other (changed_at nat_cmp directory (λ _. new) ds) = ap (links_of other) (set_value-changed_at nat_cmp directory (λ _. new) ds names there) in
      omega (arith, sums, same, goes, was)

-- a sum over values is one over entries
values_sum : (weight : Names → ℕ) (es : List (ℕ × Names)) → sum_by weight (values_of es) ≡ sum_by (λ e. weight e.1) es
values_sum weight [] = refl
values_sum weight (e ∷ es) = sum_by-cons weight e.1 (values_of es) ∙ ap (λ n. weight e.1 + n) (values_sum weight es) ∙ sym (sum_by-cons (λ (d : ℕ × Names). weight d.1) e es)

-- a directory that has no names now, where it may have had some
pub links_emptied : (number other : ℕ) (ds : List (ℕ × Names)) (found : Option Names) → IsStrictlySortedBy nat_cmp (keys_of ds) → found ≡ value_at nat_cmp number ds → links_of other (with_value nat_cmp number [] ds) + unwrap_or (option_map (links_in other) found) 0 ≡ links_of other ds
links_emptied number other ds found rises is =
    let all : (es : List (ℕ × Names)) → sum_by (links_in other) (values_of es) ≡ links_of other es = values_sum (links_in other) in
    let sums : sum_by (links_in other) (values_of (with_value nat_cmp number [] ds)) + unwrap_or (option_map (links_in other) (value_at nat_cmp number ds)) 0 ≡ sum_by (links_in other) (values_of ds) + links_in other [] = sum_by-insert_entry (links_in other) nat_cmp_total ds number [] rises in
    let same : unwrap_or (option_map (links_in other) found) 0 ≡ unwrap_or (option_map (links_in other) (value_at nat_cmp number ds)) 0 = ap (λ o. unwrap_or (option_map (links_in other) o) 0) is in
    omega (arith, sums, same, all ds, all (with_value nat_cmp number [] ds))

-- a directory less, which had no names
pub links_gone : (number other : ℕ) (ds : List (ℕ × Names)) (found : Option Names) → value_at nat_cmp number ds ≡ found → ((names : Names) → found ≡ Some names → names ≡ []) → links_of other (without nat_cmp number ds) ≡ links_of other ds
links_gone number other ds None is empty = ap (links_of other) (without-none nat_cmp number ds is)
links_gone number other ds (Some names) is empty =
    let sums : links_of other ds ≡ links_in other names + links_of other (without nat_cmp number ds) = sum_by-without exact_unsigned (λ (d : ℕ × Names). links_in other d.1) number names ds is in
    let none : links_in other names ≡ 0 = ap (links_in other) (empty names refl) in
    omega (arith, sums, none)

-- the first name of a directory, and the others
pub links_first : (other : ℕ) (entry : List ℕ × ℕ) (names : Names) → links_in other (entry ∷ names) ≡ cond (entry.1 == other) 1 0 + links_in other names
links_first other entry names = sum_by-cons (λ e. cond {A = ℕ} (e.1 == other) 1 0) entry names
