-- What a change of the names under one slot, or of one inode, makes of the directories that show.
use Rattle.std.proofs.Common.{◌≡◌, ℕ, Bool, true, false, cond, Option, Some, None, List, [], refl, sym, ap, ◌∙◌, subst}
use Rattle.std.specs.Prelude.{◌≢◌, ◌==◌, ◌&&◌, is_some, option_map}
use Rattle.std.specs.BTreeMap.{is_at}
use Rattle.std.specs.Ordering.{nat_cmp}
use Rattle.std.proofs.lemmas.Bool.{eq-eqb, eqb-true, ne_eqb}
use Rattle.std.proofs.lemmas.Cmp.{nat_cmp_total, nat_list_cmp_total}
use Rattle.std.proofs.lemmas.Map.Lookups.{exact_bytes, exact_unsigned}
use Rattle.std.proofs.lemmas.Option.{same_Some, none-some as none_some}
use Rattle.plain_forest.specs.Forest.{Names}
use Rattle.plain_forest.specs.Maps.{changed_at}
use Rattle.vol_digest.specs.Digests.{slot_of}
use Rattle.vol_types.specs.MapLaws.{IsMap-put_at, IsMap-with_value, IsMap-without, value_at-put_at, value_at-with_value, value_at-without}
use Rattle.vol_types.specs.Maps.{IsMap, put_at, value_at, with_value, without}
use Rattle.vol_types.specs.Ranges.{name_cmp}
use Rattle.vol_types.specs.declared.values.Inode.{Inode}
use Rattle.vol_types.specs.declared.values.Link.{Link}
use Rattle.key_meaning.specs.Changes.{KeepsOtherNames}
use Rattle.key_meaning.specs.Forest.{is_directory, link_named}
use Rattle.key_meaning.specs.TableLaws.{IsMap-changed_at, IsMap-map_over, same_key, value_at-changed_at}
use Rattle.key_meaning.specs.TreeLaws.{other_name, other_number}
use Rattle.key_steps.specs.Shown.{AreDirectoriesOf, Shown, kind_of, number_of, with_inode, with_links}

-- numbers that don't compare alike aren't equal
pub unequal : (a b : ℕ) → is_at (nat_cmp a) b ≡ false → (a == b) ≡ false
unequal a b apart = ne_eqb a b (λ same. other_number a b apart (sym same))

-- and those that do are
pub equal : (a b : ℕ) → is_at (nat_cmp a) b ≡ true → (a == b) ≡ true
equal a b at = eq-eqb a b (same_key exact_unsigned a b at)

module _ (shown : Shown) (directory : ℕ) (name : List ℕ) (links : List Link) (ds : List (ℕ × Names)) (are : AreDirectoriesOf shown ds) (others : KeepsOtherNames (shown.links directory (slot_of name)) links name) where
  abbrev target : Option ℕ
  target = option_map (λ (link : Link). link.number) (link_named name links)

  abbrev named : Shown
  named = with_links directory (slot_of name) links shown

  abbrev after : List (ℕ × Names)
  after = changed_at nat_cmp directory (put_at name_cmp name target) ds

  looked : (n : ℕ) → value_at nat_cmp n after ≡ cond (is_at (nat_cmp directory) n) (option_map (put_at name_cmp name target) (value_at nat_cmp n ds)) (value_at nat_cmp n ds)
  looked n = value_at-changed_at nat_cmp_total exact_unsigned directory (put_at name_cmp name target) n ds are.map

  -- where a name of the directory leads by its slot's names
  abbrev number_by : (b : Bool) (n : ℕ) (other : List ℕ) → Option ℕ
  number_by b n other = option_map (λ (link : Link). link.number) (link_named other (cond b links (shown.links n (slot_of other))))

  -- the name itself leads where it leads among the new names
  itself : (n : ℕ) (other : List ℕ) → directory ≡ n → name ≡ other → target ≡ number_of named n other
  itself n other here same = ap (λ m. number_by true n m) same ∙ sym (ap (λ b. number_by b n other) (λ i. eq-eqb directory n here i && eq-eqb (slot_of name) (slot_of other) (ap slot_of same) i))

  -- other names of the directory lead where they led,
  beside : (n : ℕ) (other : List ℕ) → directory ≡ n → other ≢ name → number_of shown n other ≡ number_of named n other
  beside n other here apart = by (slot_of name == slot_of other) refl
    where
      by : (b : Bool) → (slot_of name == slot_of other) ≡ b → number_of shown n other ≡ number_of named n other
      by true shared =
          ap (option_map (λ (link : Link). link.number)) ((λ i. link_named other (shown.links (sym here i) (sym (eqb-true (slot_of name) (slot_of other) shared) i))) ∙ sym (others.others other apart))
          ∙ sym (ap (λ b. number_by b n other) (λ i. eq-eqb directory n here i && shared i))
      by false own = sym (ap (λ b. number_by b n other) (λ i. eq-eqb directory n here i && own i))

  -- and those of other directories too.
  elsewhere : (n : ℕ) (other : List ℕ) → is_at (nat_cmp directory) n ≡ false → number_of shown n other ≡ number_of named n other
  elsewhere n other apart = sym (ap (λ b. number_by b n other) (λ i. unequal directory n apart i && slot_of name == slot_of other))

  -- The directory has the name put or removed, as it is put or removed under its slot.
  pub directories_named : AreDirectoriesOf named after
  directories_named = record {
    map = IsMap-changed_at nat_cmp_total exact_unsigned directory (put_at name_cmp name target) ds are.map;
    each = λ n. ap is_some (looked n) ∙ still (is_at (nat_cmp directory) n) (value_at nat_cmp n ds) ∙ are.each n;
    name_map = λ n found is. maps n found (is_at (nat_cmp directory) n) (value_at nat_cmp n ds) refl (sym (looked n) ∙ is);
    names = λ n found is other. leads n found other (is_at (nat_cmp directory) n) refl (value_at nat_cmp n ds) refl (sym (looked n) ∙ is);
  }
    where
      still : (b : Bool) (o : Option Names) → is_some (cond b (option_map (put_at name_cmp name target) o) o) ≡ is_some o
      still true None = refl
      still true (Some names) = refl
      still false o = refl

      maps : (n : ℕ) (found : Names) (b : Bool) (o : Option Names) → value_at nat_cmp n ds ≡ o → cond b (option_map (put_at name_cmp name target) o) o ≡ Some found → IsMap name_cmp found
      maps n found true None at is = absurd (none_some found is)
      maps n found true (Some names) at is = subst (IsMap name_cmp) (same_Some (put_at name_cmp name target names) found is) (IsMap-put_at nat_list_cmp_total name target names (are.name_map n names at))
      maps n found false o at is = are.name_map n found (at ∙ is)

      leads : (n : ℕ) (found : Names) (other : List ℕ) (b : Bool) → is_at (nat_cmp directory) n ≡ b → (o : Option Names) → value_at nat_cmp n ds ≡ o → cond b (option_map (put_at name_cmp name target) o) o ≡ Some found → value_at name_cmp other found ≡ number_of named n other
      leads n found other true here None at is = absurd (none_some found is)
      leads n found other true here (Some names) at is =
          ap (value_at name_cmp other) (sym (same_Some (put_at name_cmp name target names) found is))
          ∙ value_at-put_at nat_list_cmp_total name target other names (are.name_map n names at)
          ∙ by (is_at (name_cmp name) other) refl
        where
          by : (b : Bool) → is_at (name_cmp name) other ≡ b → cond b target (value_at name_cmp other names) ≡ number_of named n other
          by true same = itself n other (same_key exact_unsigned directory n here) (same_key exact_bytes name other same)
          by false apart = are.names n names at other ∙ beside n other (same_key exact_unsigned directory n here) (other_name name other apart)
      leads n found other false apart o at is = are.names n found (at ∙ is) other ∙ elsewhere n other apart

module _ (shown : Shown) (number : ℕ) (inode : Option Inode) (ds : List (ℕ × Names)) (are : AreDirectoriesOf shown ds) where
  abbrev inoded : Shown
  inoded = with_inode number inode shown

  -- what a number stands for, with the new inode or without it
  abbrev kind_by : (b : Bool) (n : ℕ) → Bool
  kind_by b n = is_directory (option_map (λ (i : Inode). i.kind) (cond b inode (shown.inodes n)))

  -- The directories are the same where the number is a directory exactly if it was one.
  pub directories_same : kind_by true number ≡ is_directory (kind_of shown number) → AreDirectoriesOf inoded ds
  directories_same same = record { map = are.map; each = λ n. are.each n ∙ by n (number == n) refl; name_map = are.name_map; names = are.names }
    where
      by : (n : ℕ) (b : Bool) → (number == n) ≡ b → is_directory (kind_of shown n) ≡ is_directory (kind_of inoded n)
      by n true here = ap (λ m. is_directory (kind_of shown m)) (sym (eqb-true number n here)) ∙ sym same ∙ sym (ap (λ b. kind_by b n) here)
      by n false apart = sym (ap (λ b. kind_by b n) apart)

  -- A new directory stands there without names.
  pub directories_made : kind_by true number ≡ true → ((slot : ℕ) → shown.links number slot ≡ []) → AreDirectoriesOf inoded (with_value nat_cmp number [] ds)
  directories_made made bare = record {
    map = IsMap-with_value nat_cmp_total number [] ds are.map;
    each = λ n. ap is_some (looked n) ∙ each n (is_at (nat_cmp number) n) refl;
    name_map = λ n found is. maps n found (is_at (nat_cmp number) n) (sym (looked n) ∙ is);
    names = λ n found is other. leads n found other (is_at (nat_cmp number) n) refl (sym (looked n) ∙ is);
  }
    where
      looked : (n : ℕ) → value_at nat_cmp n (with_value nat_cmp number [] ds) ≡ cond (is_at (nat_cmp number) n) (Some []) (value_at nat_cmp n ds)
      looked n = value_at-with_value nat_cmp_total number [] n ds

      each : (n : ℕ) (b : Bool) → is_at (nat_cmp number) n ≡ b → is_some (cond b (Some []) (value_at nat_cmp n ds)) ≡ is_directory (kind_of inoded n)
      each n true here = sym made ∙ sym (ap (λ b. kind_by b n) (equal number n here))
      each n false apart = are.each n ∙ sym (ap (λ b. kind_by b n) (unequal number n apart))

      no_names : IsMap {X = ℕ} name_cmp []
      no_names = IsMap-map_over {X = ℕ} nat_list_cmp_total exact_bytes (λ name. None) []

      maps : (n : ℕ) (found : Names) (b : Bool) → cond b (Some []) (value_at nat_cmp n ds) ≡ Some found → IsMap name_cmp found
      maps n found true is = subst (IsMap name_cmp) (same_Some [] found is) no_names
      maps n found false is = are.name_map n found is

      leads : (n : ℕ) (found : Names) (other : List ℕ) (b : Bool) → is_at (nat_cmp number) n ≡ b → cond b (Some []) (value_at nat_cmp n ds) ≡ Some found → value_at name_cmp other found ≡ number_of inoded n other
      leads n found other true here is =
          ap (value_at name_cmp other) (sym (same_Some [] found is))
          ∙ sym (ap (λ (ls : List Link). option_map (λ (link : Link). link.number) (link_named other ls)) (ap (λ m. shown.links m (slot_of other)) (sym (same_key exact_unsigned number n here)) ∙ bare (slot_of other)))
      leads n found other false apart is = are.names n found is other

  -- A directory that goes stands there no more.
  pub directories_gone : kind_by true number ≡ false → AreDirectoriesOf inoded (without nat_cmp number ds)
  directories_gone gone = record {
    map = IsMap-without nat_cmp_total number ds are.map;
    each = λ n. ap is_some (looked n) ∙ each n (is_at (nat_cmp number) n) refl;
    name_map = λ n found is. maps n found (is_at (nat_cmp number) n) (sym (looked n) ∙ is);
    names = λ n found is other. leads n found other (is_at (nat_cmp number) n) (sym (looked n) ∙ is);
  }
    where
      looked : (n : ℕ) → value_at nat_cmp n (without nat_cmp number ds) ≡ cond (is_at (nat_cmp number) n) None (value_at nat_cmp n ds)
      looked n = value_at-without nat_cmp_total number n ds are.map

      each : (n : ℕ) (b : Bool) → is_at (nat_cmp number) n ≡ b → is_some (cond b None (value_at nat_cmp n ds)) ≡ is_directory (kind_of inoded n)
      each n true here = sym gone ∙ sym (ap (λ b. kind_by b n) (equal number n here))
      each n false apart = are.each n ∙ sym (ap (λ b. kind_by b n) (unequal number n apart))

      maps : (n : ℕ) (found : Names) (b : Bool) → cond b None (value_at nat_cmp n ds) ≡ Some found → IsMap name_cmp found
      maps n found true is = absurd (none_some found is)
      maps n found false is = are.name_map n found is

      leads : (n : ℕ) (found : Names) (other : List ℕ) (b : Bool) → cond b None (value_at nat_cmp n ds) ≡ Some found → value_at name_cmp other found ≡ number_of inoded n other
      leads n found other true is = absurd (none_some found is)
      leads n found other false is = are.names n found is other
