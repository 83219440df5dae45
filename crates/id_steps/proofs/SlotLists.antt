-- The lists that a slot gets are those that its names come to have.
use Rattle.std.proofs.Common.{◌≡◌, ℕ, ◌+◌, ◌<◌, ◌≤◌, Bool, true, false, cond, Some, None, List, [], ◌∷◌, refl, sym, ap, ◌∙◌, subst, arith, length, map}
use Rattle.std.specs.Prelude.{not, All, IsSome}
use Rattle.std.specs.List.{AllByRecursion}
use Rattle.std.specs.List.Sorted.{IsStrictlySortedBy}
use Rattle.std.specs.Ordering.{is_eq, is_lt, match_ordering}
use Rattle.std.specs.declared.cmp.Ordering.{Ordering}
use Rattle.std.specs.declared.cmp.Ordering.TheVariants.{Less, Equal, Greater}
use Rattle.std.proofs.lemmas.Bool.{true≢false}
use Rattle.std.proofs.lemmas.Cmp.{eq_by_cmp_equiv, nat_list_cmp_total, tied_itself}
use Rattle.std.proofs.lemmas.List.Elements.{All-cons, All-head, All-nil, All-tail}
use Rattle.std.proofs.lemmas.Map.Lookups.{exact_bytes}
use Rattle.std.proofs.lemmas.Option.{none-some as none_some}
use Rattle.id_steps.proofs.Slots.{found_named, list_rises, named, names_of_named}
use Rattle.id_steps.specs.Entries.{PutsSub, sub_of, subs_value}
use Rattle.id_steps.specs.SlotLists.{with_other_sub, with_sub, without_sub}
use Rattle.key_meaning.specs.TableLaws.{same_key}
use Rattle.vol_types.specs.MapLaws.{IsMap-with_value, value_at-with_value}
use Rattle.vol_types.specs.Maps.{IsMap, value_at, with_value}
use Rattle.vol_types.specs.Ranges.{IsKeyValue, IsName, Rise, name_cmp}
use Rattle.vol_types.specs.Rising.{Rise-from_sorted, sorted-from_Rise}
use Rattle.vol_types.specs.declared.values.Sub.{Sub}

-- the names of some subvolumes
abbrev names_of : List Sub → List (List ℕ)
names_of subs = map (λ (sub : Sub). sub.name) subs

-- The subvolumes may share a slot: they are few, and their names rise.
record MayShare (subs : List Sub) : Type 0 where
  count : length subs ≤ 8
  each : All (λ (sub : Sub). IsName sub.name) subs
  rise : Rise name_cmp (names_of subs)

may_share : (subs : List Sub) → IsKeyValue (subs_value subs) → MayShare subs
may_share [] fits = record { count = omega arith; each = All-nil (λ (sub : Sub). IsName sub.name); rise = tt }
may_share (sub ∷ subs) fits = record { count = fits.count.1; each = fits.each; rise = fits.rise }

in_range : (subs : List Sub) → MayShare subs → IsKeyValue (subs_value subs)
in_range [] may = tt
in_range (sub ∷ subs) may = record { count = (omega arith, may.count); each = may.each; rise = may.rise }

-- names that compare alike do so the other way round
turned : (one other : List ℕ) → is_eq (name_cmp one other) ≡ is_eq (name_cmp other one)
turned one other = (eq_by_cmp_equiv nat_list_cmp_total).symm one other

-- a name that differs from one differs from each that is the same
differs : (one same other : List ℕ) → is_eq (name_cmp one same) ≡ true → is_eq (name_cmp one other) ≡ false → is_eq (name_cmp other same) ≡ false
differs one same other at apart = turned other same ∙ ap (λ (n : List ℕ). is_eq (name_cmp n other)) (sym (same_key exact_bytes one same at)) ∙ apart

module _ (sub : Sub) where
  named_with : (subs : List Sub) → sub_of sub.name subs ≡ None → named (with_sub sub subs) ≡ with_value name_cmp sub.name sub (named subs)
  named_with [] none = refl
  named_with (other ∷ subs) none = by (name_cmp sub.name other.name) none (named_with subs)
    where
      by : (r : Ordering) → cond (is_eq r) (Some other) (sub_of sub.name subs) ≡ None → (sub_of sub.name subs ≡ None → named (with_sub sub subs) ≡ with_value name_cmp sub.name sub (named subs))
          → named (cond (is_lt r) (sub ∷ other ∷ subs) (other ∷ with_sub sub subs)) ≡ match_ordering r ((sub.name, sub) ∷ (other.name, other) ∷ named subs) ((other.name, sub) ∷ named subs) ((other.name, other) ∷ with_value name_cmp sub.name sub (named subs))
      by Less lacks later = refl
      by Equal lacks later = absurd (none_some other (sym lacks))
      by Greater lacks later = ap (λ es. (other.name, other) ∷ es) (later lacks)

  count_with : (subs : List Sub) → length (with_sub sub subs) ≡ 1 + length subs
  count_with [] = refl
  count_with (other ∷ subs) = by (is_lt (name_cmp sub.name other.name)) (count_with subs)
    where
      by : (b : Bool) → length (with_sub sub subs) ≡ 1 + length subs → length (cond b (sub ∷ other ∷ subs) (other ∷ with_sub sub subs)) ≡ 1 + length (other ∷ subs)
      by true later = omega arith
      by false later = omega (arith, later)

  all_with : (P : Sub → Type 0) (subs : List Sub) → P sub → All P subs → All P (with_sub sub subs)
  all_with P [] new all = All-cons P sub [] new (All-nil P)
  all_with P (other ∷ subs) new all = by (is_lt (name_cmp sub.name other.name)) (all_with P subs new (All-tail P other subs all))
    where
      by : (b : Bool) → All P (with_sub sub subs) → All P (cond b (sub ∷ other ∷ subs) (other ∷ with_sub sub subs))
      by true later = All-cons P sub (other ∷ subs) new all
      by false later = All-cons P other (with_sub sub subs) (All-head P other subs all) later

  -- A further subvolume is put,
  pub with_puts : (subs : List Sub) → IsKeyValue (subs_value subs) → IsName sub.name → length subs < 8 → sub_of sub.name subs ≡ None → PutsSub sub.name (Some sub) subs (with_sub sub subs)
  with_puts subs fits named_well few none = let may = may_share subs fits in record {
    found = λ other. sym (found_named other (with_sub sub subs)) ∙ ap (value_at name_cmp other) (named_with subs none) ∙ value_at-with_value nat_list_cmp_total sub.name sub other (named subs)
        ∙ ap (cond (is_eq (name_cmp sub.name other)) (Some sub)) (found_named other subs);
    in_range = in_range (with_sub sub subs) (record {
      count = let more = count_with subs in omega (arith, more, few);
      each = all_with (λ (s : Sub). IsName s.name) subs named_well may.each;
      rise = Rise-from_sorted name_cmp (names_of (with_sub sub subs)) (subst (IsStrictlySortedBy name_cmp) (names_of_named (with_sub sub subs))
          (subst (λ (es : List (List ℕ × Sub)). IsMap name_cmp es) (sym (named_with subs none)) (IsMap-with_value nat_list_cmp_total sub.name sub (named subs) (list_rises subs fits))));
    });
  }

  other_elsewhere : (name : List ℕ) (subs : List Sub) → is_eq (name_cmp sub.name name) ≡ false → sub_of name (with_other_sub sub subs) ≡ sub_of name subs
  other_elsewhere name [] apart = refl
  other_elsewhere name (other ∷ subs) apart = by (is_eq (name_cmp sub.name other.name)) refl (other_elsewhere name subs apart)
    where
      by : (b : Bool) → is_eq (name_cmp sub.name other.name) ≡ b → sub_of name (with_other_sub sub subs) ≡ sub_of name subs → sub_of name (cond b sub other ∷ with_other_sub sub subs) ≡ sub_of name (other ∷ subs)
      by true at later = ap (λ b. cond b (Some sub) (sub_of name (with_other_sub sub subs))) (turned name sub.name ∙ apart) ∙ later ∙ sym (ap (λ b. cond b (Some other) (sub_of name subs)) (differs sub.name other.name name at apart))
      by false at later = ap (cond (is_eq (name_cmp name other.name)) (Some other)) later

  other_here : (subs : List Sub) → IsSome (sub_of sub.name subs) → sub_of sub.name (with_other_sub sub subs) ≡ Some sub
  other_here [] there = absurd (true≢false (sym there))
  other_here (other ∷ subs) there = by (is_eq (name_cmp sub.name other.name)) refl there (other_here subs)
    where
      by : (b : Bool) → is_eq (name_cmp sub.name other.name) ≡ b → IsSome (cond b (Some other) (sub_of sub.name subs)) → (IsSome (sub_of sub.name subs) → sub_of sub.name (with_other_sub sub subs) ≡ Some sub)
          → sub_of sub.name (cond b sub other ∷ with_other_sub sub subs) ≡ Some sub
      by true at there later = ap (λ b. cond b (Some sub) (sub_of sub.name (with_other_sub sub subs))) (ap is_eq (tied_itself nat_list_cmp_total sub.name))
      by false at there later = ap (λ b. cond b (Some other) (sub_of sub.name (with_other_sub sub subs))) at ∙ later there

  other_names : (subs : List Sub) → names_of (with_other_sub sub subs) ≡ names_of subs
  other_names [] = refl
  other_names (other ∷ subs) = by (is_eq (name_cmp sub.name other.name)) refl (other_names subs)
    where
      by : (b : Bool) → is_eq (name_cmp sub.name other.name) ≡ b → names_of (with_other_sub sub subs) ≡ names_of subs → names_of (cond b sub other ∷ with_other_sub sub subs) ≡ names_of (other ∷ subs)
      by true at later = λ i. same_key exact_bytes sub.name other.name at i ∷ later i
      by false at later = ap (λ names. other.name ∷ names) later

  other_count : (subs : List Sub) → length (with_other_sub sub subs) ≡ length subs
  other_count [] = refl
  other_count (other ∷ subs) = let later = other_count subs in omega (arith, later)

  other_each : (subs : List Sub) → All (λ (s : Sub). IsName s.name) subs → All (λ (s : Sub). IsName s.name) (with_other_sub sub subs)
  other_each [] all = All-nil (λ (s : Sub). IsName s.name)
  other_each (other ∷ subs) all = by (is_eq (name_cmp sub.name other.name)) refl (other_each subs (All-tail (λ (s : Sub). IsName s.name) other subs all))
    where
      by : (b : Bool) → is_eq (name_cmp sub.name other.name) ≡ b → All (λ (s : Sub). IsName s.name) (with_other_sub sub subs) → All (λ (s : Sub). IsName s.name) (cond b sub other ∷ with_other_sub sub subs)
      by true at later = All-cons (λ (s : Sub). IsName s.name) sub (with_other_sub sub subs) (subst IsName (sym (same_key exact_bytes sub.name other.name at)) (All-head (λ (s : Sub). IsName s.name) other subs all)) later
      by false at later = All-cons (λ (s : Sub). IsName s.name) other (with_other_sub sub subs) (All-head (λ (s : Sub). IsName s.name) other subs all) later

  -- and so is another one of its name.
  pub other_puts : (subs : List Sub) → IsKeyValue (subs_value subs) → IsSome (sub_of sub.name subs) → PutsSub sub.name (Some sub) subs (with_other_sub sub subs)
  other_puts subs fits there = let may = may_share subs fits in record {
    found = λ other. by other (is_eq (name_cmp sub.name other)) refl;
    in_range = in_range (with_other_sub sub subs) (record {
      count = let same = other_count subs in omega (arith, same, may.count);
      each = other_each subs may.each;
      rise = subst (Rise name_cmp) (sym (other_names subs)) may.rise;
    });
  }
    where
      by : (other : List ℕ) (b : Bool) → is_eq (name_cmp sub.name other) ≡ b → sub_of other (with_other_sub sub subs) ≡ cond b (Some sub) (sub_of other subs)
      by other true at = ap (λ (n : List ℕ). sub_of n (with_other_sub sub subs)) (sym (same_key exact_bytes sub.name other at)) ∙ other_here subs there
      by other false apart = other_elsewhere other subs apart

module _ (name : List ℕ) where
  none_here : (subs : List Sub) → sub_of name (without_sub name subs) ≡ None
  none_here [] = refl
  none_here (other ∷ subs) = by (is_eq (name_cmp name other.name)) refl (none_here subs)
    where
      by : (b : Bool) → is_eq (name_cmp name other.name) ≡ b → sub_of name (without_sub name subs) ≡ None → sub_of name (cond (not b) (other ∷ without_sub name subs) (without_sub name subs)) ≡ None
      by true at later = later
      by false at later = ap (λ b. cond b (Some other) (sub_of name (without_sub name subs))) at ∙ later

  left_elsewhere : (another : List ℕ) (subs : List Sub) → is_eq (name_cmp name another) ≡ false → sub_of another (without_sub name subs) ≡ sub_of another subs
  left_elsewhere another [] apart = refl
  left_elsewhere another (other ∷ subs) apart = by (is_eq (name_cmp name other.name)) refl (left_elsewhere another subs apart)
    where
      by : (b : Bool) → is_eq (name_cmp name other.name) ≡ b → sub_of another (without_sub name subs) ≡ sub_of another subs → sub_of another (cond (not b) (other ∷ without_sub name subs) (without_sub name subs)) ≡ sub_of another (other ∷ subs)
      by true at later = later ∙ sym (ap (λ b. cond b (Some other) (sub_of another subs)) (differs name other.name another at apart))
      by false at later = ap (cond (is_eq (name_cmp another other.name)) (Some other)) later

  left_count : (subs : List Sub) → length (without_sub name subs) ≤ length subs
  left_count [] = omega arith
  left_count (other ∷ subs) = by (is_eq (name_cmp name other.name)) (left_count subs)
    where
      by : (b : Bool) → length (without_sub name subs) ≤ length subs → length (cond (not b) (other ∷ without_sub name subs) (without_sub name subs)) ≤ length (other ∷ subs)
      by true later = omega (arith, later)
      by false later = omega (arith, later)

  left_each : (P : Sub → Type 0) (subs : List Sub) → All P subs → All P (without_sub name subs)
  left_each P [] all = All-nil P
  left_each P (other ∷ subs) all = by (is_eq (name_cmp name other.name)) (left_each P subs (All-tail P other subs all))
    where
      by : (b : Bool) → All P (without_sub name subs) → All P (cond (not b) (other ∷ without_sub name subs) (without_sub name subs))
      by true later = later
      by false later = All-cons P other (without_sub name subs) (All-head P other subs all) later

  left_names : (P : List ℕ → Type 0) (subs : List Sub) → AllByRecursion P (names_of subs) → AllByRecursion P (names_of (without_sub name subs))
  left_names P [] all = tt
  left_names P (other ∷ subs) all = by (is_eq (name_cmp name other.name)) (left_names P subs all.1)
    where
      by : (b : Bool) → AllByRecursion P (names_of (without_sub name subs)) → AllByRecursion P (names_of (cond (not b) (other ∷ without_sub name subs) (without_sub name subs)))
      by true later = later
      by false later = (all.0, later)

  left_sorted : (subs : List Sub) → IsStrictlySortedBy name_cmp (names_of subs) → IsStrictlySortedBy name_cmp (names_of (without_sub name subs))
  unfolding IsStrictlySortedBy
  left_sorted [] sorted = tt
  left_sorted (other ∷ subs) sorted = by (is_eq (name_cmp name other.name)) (left_sorted subs sorted.1)
    where
      by : (b : Bool) → IsStrictlySortedBy name_cmp (names_of (without_sub name subs)) → IsStrictlySortedBy name_cmp (names_of (cond (not b) (other ∷ without_sub name subs) (without_sub name subs)))
      by true later = later
      by false later = (left_names (λ y. name_cmp other.name y ≡ Less) subs sorted.0, later)

  -- A subvolume is taken away.
  pub without_puts : (subs : List Sub) → IsKeyValue (subs_value subs) → PutsSub name None subs (without_sub name subs)
  without_puts subs fits = let may = may_share subs fits in record {
    found = λ other. by other (is_eq (name_cmp name other)) refl;
    in_range = in_range (without_sub name subs) (record {
      count = let fewer = left_count subs in omega (arith, fewer, may.count);
      each = left_each (λ (s : Sub). IsName s.name) subs may.each;
      rise = Rise-from_sorted name_cmp (names_of (without_sub name subs)) (left_sorted subs (sorted-from_Rise name_cmp nat_list_cmp_total (names_of subs) may.rise));
    });
  }
    where
      by : (other : List ℕ) (b : Bool) → is_eq (name_cmp name other) ≡ b → sub_of other (without_sub name subs) ≡ cond b None (sub_of other subs)
      by other true at = ap (λ (n : List ℕ). sub_of n (without_sub name subs)) (sym (same_key exact_bytes name other at)) ∙ none_here subs
      by other false apart = left_elsewhere other subs apart
