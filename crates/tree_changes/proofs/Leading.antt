-- Where a name of a directory leads, and where it leads after the names of one directory were changed.
use Rattle.std.proofs.Common.{◌≡◌, ℕ, Bool, true, false, cond, Option, Some, None, List, [], ◌∷◌, refl, sym, ap, ◌∙◌, subst}
use Rattle.std.specs.Prelude.{◌&&◌, IsSome, is_some, option_map}
use Rattle.std.specs.BTreeMap.{is_at}
use Rattle.std.specs.Ordering.{is_eq, nat_cmp}
use Rattle.std.specs.declared.cmp.Ordering.{Ordering}
use Rattle.std.proofs.lemmas.Bool.{false≢true}
use Rattle.std.proofs.lemmas.Cmp.{nat_cmp_total, nat_list_cmp_total, tied_itself}
use Rattle.std.proofs.lemmas.Map.Lookups.{exact_bytes, exact_unsigned}
use Rattle.std.proofs.lemmas.Option.{same_Some, none-some as none_some}
use Rattle.key_meaning.specs.TableLaws.{same_key, value_at-changed_at}
use Rattle.plain_forest.specs.Forest.{Names}
use Rattle.plain_forest.specs.Maps.{changed_at}
use Rattle.vol_types.specs.MapLaws.{value_at-with_value, value_at-without}
use Rattle.vol_types.specs.Maps.{IsMap, value_at, with_value, without}
use Rattle.vol_types.specs.Ranges.{name_cmp}

-- where a name leads among some names, if there are any
abbrev pub named : Option Names → List ℕ → Option ℕ
named None name = None
named (Some names) name = value_at name_cmp name names

-- where a name of a directory leads
abbrev pub leads : List (ℕ × Names) → ℕ → List ℕ → Option ℕ
leads directories number name = named (value_at nat_cmp number directories) name

-- whether a name of a directory is this one of that directory
abbrev pub is_name : ℕ → List ℕ → ℕ → List ℕ → Bool
is_name directory name number other = is_at (nat_cmp directory) number && is_at (name_cmp name) other

-- What is told to be absent is nothing.
pub no_value : {X : Type 0} (found : Option X) → is_some found ≡ false → found ≡ None
no_value None is = refl
no_value (Some x) is = absurd (false≢true (sym is))

-- Numbers and names that compare alike are one.
pub same_directory : (one other : ℕ) → is_at (nat_cmp one) other ≡ true → one ≡ other
same_directory one other is = same_key exact_unsigned one other is

pub same_words : (one other : List ℕ) → is_at (name_cmp one) other ≡ true → one ≡ other
same_words one other is = same_key exact_bytes one other is

-- A name that leads somewhere is one of a directory.
pub leads_parts : (directories : List (ℕ × Names)) (number : ℕ) (name : List ℕ) (to : ℕ) → leads directories number name ≡ Some to
    → (names : Names) × (value_at nat_cmp number directories ≡ Some names) × (value_at name_cmp name names ≡ Some to)
leads_parts directories number name to is = by (value_at nat_cmp number directories) refl is
  where
    by : (found : Option Names) → value_at nat_cmp number directories ≡ found → named found name ≡ Some to → (names : Names) × (value_at nat_cmp number directories ≡ Some names) × (value_at name_cmp name names ≡ Some to)
    by None held is = absurd (none_some to is)
    by (Some names) held is = (names, held, is)

-- so that the number is that of a directory
pub leads_from : (directories : List (ℕ × Names)) (number : ℕ) (name : List ℕ) (to : ℕ) → leads directories number name ≡ Some to → IsSome (value_at nat_cmp number directories)
leads_from directories number name to is = ap is_some (leads_parts directories number name to is).1

-- A change of a value leaves the keys that have one.
pub has_changed_at : {K X : Type 0} (cmp : K → K → Ordering) (key q : K) (change : X → X) (es : List (K × X)) → is_some (value_at cmp q (changed_at cmp key change es)) ≡ is_some (value_at cmp q es)
has_changed_at cmp key q change [] = refl
has_changed_at cmp key q change (e ∷ es) = by (is_at (cmp key) e.0) (has_changed_at cmp key q change es)
  where
    first : (there : Bool) → is_some (cond there (Some (change e.1)) (value_at cmp q es)) ≡ is_some (cond there (Some e.1) (value_at cmp q es))
    first true = refl
    first false = refl

    behind : (there : Bool) → is_some (value_at cmp q (changed_at cmp key change es)) ≡ is_some (value_at cmp q es)
        → is_some (cond there (Some e.1) (value_at cmp q (changed_at cmp key change es))) ≡ is_some (cond there (Some e.1) (value_at cmp q es))
    behind true later = refl
    behind false later = later

    by : (here : Bool) → is_some (value_at cmp q (changed_at cmp key change es)) ≡ is_some (value_at cmp q es)
        → is_some (value_at cmp q (cond here ((e.0, change e.1) ∷ es) (e ∷ changed_at cmp key change es))) ≡ is_some (value_at cmp q (e ∷ es))
    by true later = first (is_at (cmp q) e.0)
    by false later = behind (is_at (cmp q) e.0) later

-- The names of each directory are a map.
abbrev pub AreNamesMaps : List (ℕ × Names) → Type 0
AreNamesMaps directories = (number : ℕ) (names : Names) → value_at nat_cmp number directories ≡ Some names → IsMap name_cmp names

module _ (directories : List (ℕ × Names)) (rises : IsMap nat_cmp directories) (directory : ℕ) (change : Names → Names) where
  -- What a directory has after the change,
  pub changed_names : (number : ℕ) (names : Names) → value_at nat_cmp number directories ≡ Some names
      → value_at nat_cmp number (changed_at nat_cmp directory change directories) ≡ Some (cond (is_at (nat_cmp directory) number) (change names) names)
  changed_names number names held = value_at-changed_at nat_cmp_total exact_unsigned directory change number directories rises ∙ ap (λ o. cond (is_at (nat_cmp directory) number) (option_map change o) o) held ∙ by (is_at (nat_cmp directory) number)
    where
      by : (b : Bool) → cond b (Some (change names)) (Some names) ≡ Some (cond b (change names) names)
      by true = refl
      by false = refl

  -- and where its names lead.
  pub leads_changed : (number : ℕ) (names : Names) (name : List ℕ) → value_at nat_cmp number directories ≡ Some names
      → leads (changed_at nat_cmp directory change directories) number name ≡ value_at name_cmp name (cond (is_at (nat_cmp directory) number) (change names) names)
  leads_changed number names name held = ap (λ o. named o name) (changed_names number names held)

  -- Names stay maps, where the change leaves them so.
  pub names_stay_maps : ((names : Names) → IsMap name_cmp names → IsMap name_cmp (change names)) → AreNamesMaps directories → AreNamesMaps (changed_at nat_cmp directory change directories)
  names_stay_maps keeps each number names is =
      by (is_at (nat_cmp directory) number) (value_at nat_cmp number directories) refl (sym (value_at-changed_at nat_cmp_total exact_unsigned directory change number directories rises) ∙ is)
    where
      by : (b : Bool) (found : Option Names) → value_at nat_cmp number directories ≡ found → cond b (option_map change found) found ≡ Some names → IsMap name_cmp names
      by true None held is = absurd (none_some names is)
      by true (Some was) held is = subst (IsMap name_cmp) (same_Some (change was) names is) (keeps was (each number was held))
      by false found held is = each number names (held ∙ is)

module _ (directories : List (ℕ × Names)) (rises : IsMap nat_cmp directories) (directory : ℕ) (name : List ℕ) where
  module _ (to : ℕ) (names : Names) (held : value_at nat_cmp directory directories ≡ Some names) where
    -- A name that is put leads to its number,
    pub put_leads : leads (changed_at nat_cmp directory (with_value name_cmp name to) directories) directory name ≡ Some to
    put_leads =
        leads_changed directories rises directory (with_value name_cmp name to) directory names name held
        ∙ ap (λ b. value_at name_cmp name (cond b (with_value name_cmp name to names) names)) (ap is_eq (tied_itself nat_cmp_total directory))
        ∙ value_at-with_value nat_list_cmp_total name to name names
        ∙ ap (λ b. cond b (Some to) (value_at name_cmp name names)) (ap is_eq (tied_itself nat_list_cmp_total name))

    -- and all names that led somewhere still do, where it wasn't there.
    pub put_keeps : value_at name_cmp name names ≡ None → (number : ℕ) (other : List ℕ) (end : ℕ) → leads directories number other ≡ Some end
        → leads (changed_at nat_cmp directory (with_value name_cmp name to) directories) number other ≡ Some end
    put_keeps free number other end is =
        leads_changed directories rises directory (with_value name_cmp name to) number was.0 other was.1 ∙ by (is_at (nat_cmp directory) number) refl
      where
        was : (names : Names) × (value_at nat_cmp number directories ≡ Some names) × (value_at name_cmp other names ≡ Some end)
        was = leads_parts directories number other end is

        here : is_at (nat_cmp directory) number ≡ true → (b : Bool) → is_at (name_cmp name) other ≡ b → cond b (Some to) (value_at name_cmp other was.0) ≡ Some end
        here at false apart = was.2
        here at true same =
            let alike : names ≡ was.0 = same_Some names was.0 (sym held ∙ ap (λ d. value_at nat_cmp d directories) (same_directory directory number at) ∙ was.1) in
            absurd (none_some end (sym free ∙ (λ i. value_at name_cmp (same_words name other same i) (alike i)) ∙ was.2))

        by : (b : Bool) → is_at (nat_cmp directory) number ≡ b → value_at name_cmp other (cond b (with_value name_cmp name to was.0) was.0) ≡ Some end
        by false apart = was.2
        by true at = value_at-with_value nat_list_cmp_total name to other was.0 ∙ here at (is_at (name_cmp name) other) refl

  -- After a name was taken all others lead where they led.
  pub taken_keeps : AreNamesMaps directories → (number : ℕ) (other : List ℕ) (end : ℕ) → leads directories number other ≡ Some end → is_name directory name number other ≡ false
      → leads (changed_at nat_cmp directory (without name_cmp name) directories) number other ≡ Some end
  taken_keeps each number other end is apart =
      leads_changed directories rises directory (without name_cmp name) number was.0 other was.1 ∙ by (is_at (nat_cmp directory) number) apart
    where
      was : (names : Names) × (value_at nat_cmp number directories ≡ Some names) × (value_at name_cmp other names ≡ Some end)
      was = leads_parts directories number other end is

      by : (b : Bool) → (b && is_at (name_cmp name) other) ≡ false → value_at name_cmp other (cond b (without name_cmp name was.0) was.0) ≡ Some end
      by false apart = was.2
      by true apart = value_at-without nat_list_cmp_total name other was.0 (each number was.0 was.1) ∙ ap (λ b. cond b None (value_at name_cmp other was.0)) apart ∙ was.2
