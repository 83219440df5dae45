-- What a slot's new subvolumes make of all subvolumes: which is found under each name, and how many pass a test.
use Rattle.std.proofs.Common.{◌≡◌, ℕ, ◌+◌, Bool, true, false, cond, Option, Some, None, List, [], ◌∷◌, ◌++◌, refl, sym, ap, ◌∙◌, subst, arith, map, ⊎_elim, inl, inr}
use Rattle.std.specs.Prelude.{◌⊎◌, ◌==◌, All, count_by, flat_map, option_map, sum_by, unwrap_or}
use Rattle.std.specs.BTreeMap.{is_at}
use Rattle.std.specs.Cmp.{IsTotalOrder}
use Rattle.std.specs.List.Sorted.{IsStrictlySortedBy}
use Rattle.std.specs.Map.{keys_of, values_of}
use Rattle.std.specs.Option.{option_to_list}
use Rattle.std.specs.Ordering.{is_eq}
use Rattle.std.specs.declared.cmp.Ordering.{Ordering}
use Rattle.std.proofs.lemmas.Bool.{eq-eqb, eqb-true, true≢false}
use Rattle.std.proofs.lemmas.Cmp.{eq_by_cmp_equiv, nat_list_cmp_total, tied_itself}
use Rattle.std.proofs.lemmas.List.Elements.{All-head, All-tail}
use Rattle.std.proofs.lemmas.List.Sums.{sum_by-append, sum_by-cons}
use Rattle.std.proofs.lemmas.Map.{lookup-none}
use Rattle.std.proofs.lemmas.Map.Entries.{none_past_head, sum_by-insert_entry, sum_by-remove_entry}
use Rattle.std.proofs.lemmas.Map.Keys.{IsDistinct-from_sorted, sorted_tail}
use Rattle.std.proofs.lemmas.Map.Lookups.{exact_bytes}
use Rattle.std.proofs.lemmas.Option.{none-some as none_some}
use Rattle.id_steps.proofs.Records.{number_at}
use Rattle.id_steps.specs.Entries.{PutsSub, sub_of, subs_update, subs_value}
use Rattle.key_meaning.specs.Forest.{all_subs, sub_named, subs_in, subs_of}
use Rattle.key_meaning.specs.SoundLaws.{IsIn, all_in}
use Rattle.key_meaning.specs.TableLaws.{same_key}
use Rattle.key_meaning.specs.Tidy.{AreKeysDrawn, AreNamesGood, HasGoodSubvolumes, IsKeyOf}
use Rattle.plain_forest.specs.Names.{is_good_subvolume_name}
use Rattle.vol_digest.specs.Digests.{slot_of}
use Rattle.vol_types.specs.KeyMapLaws.{entries_of-with_update, value_in-with_update}
use Rattle.vol_types.specs.KeyMaps.{Entries, IsKeyMap, KeyMap, value_in, with_update}
use Rattle.vol_types.specs.MapLaws.{IsMap-put_at, same_maps, value_at-put_at}
use Rattle.vol_types.specs.Maps.{IsMap, put_at, value_at}
use Rattle.vol_types.specs.PositionLaws.{pos_total}
use Rattle.vol_types.specs.Positions.{pos_cmp}
use Rattle.vol_types.specs.Ranges.{IsKeyValue, name_cmp}
use Rattle.vol_types.specs.Rising.{sorted-from_Rise}
use Rattle.vol_types.specs.declared.positions.Btree.TheVariants.{Subvols}
use Rattle.vol_types.specs.declared.positions.Pos.{Pos}
use Rattle.vol_types.specs.declared.values.Sub.{Sub}
use Rattle.vol_types.specs.declared.values.Value.{Value}
use Rattle.vol_types.specs.declared.values.Value.TheVariants as values

-- where the subvolumes of a slot stand
abbrev slot_place : ℕ → Pos
slot_place slot = record { inode = 0; offset = slot; snapshot = 0 }

-- subvolumes as a map by their names
abbrev pub named : List Sub → List (List ℕ × Sub)
named subs = map (λ (sub : Sub). (sub.name, sub)) subs

-- Its keys are their names,
pub names_of_named : (subs : List Sub) → keys_of (named subs) ≡ map (λ (sub : Sub). sub.name) subs
names_of_named [] = refl
names_of_named (sub ∷ subs) = ap (λ names. sub.name ∷ names) (names_of_named subs)

-- and what is found in it is found among them.
pub found_named : (name : List ℕ) (subs : List Sub) → value_at name_cmp name (named subs) ≡ sub_of name subs
found_named name [] = refl
found_named name (sub ∷ subs) = ap (cond (is_eq (name_cmp name sub.name)) (Some sub)) (found_named name subs)

values_of_named : (subs : List Sub) → values_of (named subs) ≡ subs
values_of_named [] = refl
values_of_named (sub ∷ subs) = ap (λ rest. sub ∷ rest) (values_of_named subs)

-- no subvolumes are a map, and those of a value in range are
none_rise : IsMap name_cmp (named [])
unfolding IsStrictlySortedBy
none_rise = tt

value_rises : (value : Option Value) → IsKeyValue value → IsMap name_cmp (named (subs_of value))
value_rises None fits = none_rise
value_rises (Some (values.Subs subs)) fits = subst (IsStrictlySortedBy name_cmp) (sym (names_of_named subs)) (sorted-from_Rise name_cmp nat_list_cmp_total (map (λ (sub : Sub). sub.name) subs) fits.rise)
value_rises (Some other) fits = none_rise

-- the value that holds subvolumes holds them
pub held : (subs : List Sub) → subs_of (subs_value subs) ≡ subs
held [] = refl
held (sub ∷ subs) = refl

-- The subvolumes of a slot that is in range are a map.
pub list_rises : (subs : List Sub) → IsKeyValue (subs_value subs) → IsMap name_cmp (named subs)
list_rises subs fits = subst (λ (l : List Sub). IsMap name_cmp (named l)) (held subs) (value_rises (subs_value subs) fits)

-- what all entries have, one that is looked up has
entry_has : (P : Pos × Value → Type 0) (Q : Option Value → Type 0) → Q None → ((pos : Pos) (value : Value) → P (pos, value) → Q (Some value)) → (pos : Pos) (entries : Entries) → All P entries → Q (value_at pos_cmp pos entries)
entry_has P Q none has pos [] all = none
entry_has P Q none has pos (e ∷ es) all = by (is_at (pos_cmp pos) e.0) (entry_has P Q none has pos es (All-tail P e es all))
  where
    by : (b : Bool) → Q (value_at pos_cmp pos es) → Q (cond b (Some e.1) (value_at pos_cmp pos es))
    by true later = has e.0 e.1 (All-head P e es all)
    by false later = later

-- The subvolumes of a slot are in range.
pub slot_in_range : (base keys : KeyMap) (slot : ℕ) → All (IsKeyOf base Subvols) keys.subvols → IsKeyValue (value_in keys Subvols (record { inode = 0; offset = slot; snapshot = 0 }))
slot_in_range base keys slot keyed = entry_has (IsKeyOf base Subvols) IsKeyValue tt (λ pos value key. key.in_range) (slot_place slot) keys.subvols keyed

-- one where an element passes a test
abbrev one_if : {X : Type 0} → (X → Bool) → X → ℕ
one_if test x = cond (test x) 1 0

-- a count over an element that may be none
count_maybe : {X : Type 0} (test : X → Bool) (o : Option X) → count_by test (option_to_list o) ≡ unwrap_or (option_map (one_if test) o) 0
count_maybe test None = refl
count_maybe test (Some x) = let whole : count_by test (x ∷ []) ≡ one_if test x + count_by test [] = sum_by-cons (one_if test) x [] in let none : count_by test [] ≡ 0 = refl in omega (arith, whole, none)

-- A sum over values after one was put or taken away.
pub put_sums : {K X : Type 0} {cmp : K → K → Ordering} → IsTotalOrder cmp → (f : X → ℕ) (key : K) (value : Option X) (entries : List (K × X)) → IsMap cmp entries
    → sum_by f (values_of (put_at cmp key value entries)) + unwrap_or (option_map f (value_at cmp key entries)) 0 ≡ sum_by f (values_of entries) + unwrap_or (option_map f value) 0
put_sums {cmp = cmp} total f key None entries rises = let less = sum_by-remove_entry f (is_at (cmp key)) entries in omega (arith, less)
put_sums total f key (Some x) entries rises = sum_by-insert_entry f total entries key x rises

-- the subvolumes of an entry
abbrev subs_of_entry : Pos × Value → List Sub
subs_of_entry entry = subs_of (Some entry.1)

module _ (test : Sub → Bool) where
  -- how many of a value's subvolumes pass
  abbrev in_value : Value → ℕ
  in_value value = count_by test (subs_of (Some value))

  count_all : (entries : Entries) → count_by test (flat_map subs_of_entry entries) ≡ sum_by in_value (values_of entries)
  count_all [] = refl
  count_all (e ∷ es) =
      let whole : count_by test (subs_of (Some e.1) ++ flat_map subs_of_entry es) ≡ count_by test (subs_of (Some e.1)) + count_by test (flat_map subs_of_entry es) = sum_by-append (one_if test) (subs_of (Some e.1)) (flat_map subs_of_entry es) in
      let split : sum_by in_value (e.1 ∷ values_of es) ≡ in_value e.1 + sum_by in_value (values_of es) = sum_by-cons in_value e.1 (values_of es) in
      let later : count_by test (flat_map subs_of_entry es) ≡ sum_by in_value (values_of es) = count_all es in
      omega (arith, whole, split, later)

  in_maybe : (value : Option Value) → unwrap_or (option_map in_value value) 0 ≡ count_by test (subs_of value)
  in_maybe None = refl
  in_maybe (Some value) = refl

-- There is one list at most that a slot may get.
pub puts_only : (name : List ℕ) (sub : Option Sub) (old one other : List Sub) → PutsSub name sub old one → PutsSub name sub old other → one ≡ other
puts_only name sub old one other puts also = sym (values_of_named one)
    ∙ ap values_of (same_maps nat_list_cmp_total exact_bytes (named one) (named other) (list_rises one puts.in_range) (list_rises other also.in_range) (λ q. found_named q one ∙ puts.found q ∙ sym (also.found q) ∙ sym (found_named q other)))
    ∙ values_of_named other

module _ (name : List ℕ) (sub : Option Sub) (old new : List Sub) (puts : PutsSub name sub old new) (rises : IsMap name_cmp (named old)) where
  named_put : named new ≡ put_at name_cmp name sub (named old)
  named_put = same_maps nat_list_cmp_total exact_bytes (named new) (put_at name_cmp name sub (named old)) (list_rises new puts.in_range) (IsMap-put_at nat_list_cmp_total name sub (named old) rises)
      (λ q. found_named q new ∙ puts.found q ∙ ap (cond (is_at (name_cmp name) q) sub) (sym (found_named q old)) ∙ sym (value_at-put_at nat_list_cmp_total name sub q (named old) rises))

  -- how many of the slot pass a test then
  counted_in_slot : (test : Sub → Bool) → count_by test new + count_by test (option_to_list (sub_of name old)) ≡ count_by test old + count_by test (option_to_list sub)
  counted_in_slot test =
      let sums = put_sums nat_list_cmp_total (one_if test) name sub (named old) rises in
      let all_new : sum_by (one_if test) (values_of (put_at name_cmp name sub (named old))) ≡ count_by test new = ap (λ (l : List (List ℕ × Sub)). sum_by (one_if test) (values_of l)) (sym named_put) ∙ ap (sum_by (one_if test)) (values_of_named new) in
      let all_old : sum_by (one_if test) (values_of (named old)) ≡ count_by test old = ap (sum_by (one_if test)) (values_of_named old) in
      let one_old : unwrap_or (option_map (one_if test) (value_at name_cmp name (named old))) 0 ≡ count_by test (option_to_list (sub_of name old)) = ap (λ (o : Option Sub). unwrap_or (option_map (one_if test) o) 0) (found_named name old) ∙ sym (count_maybe test (sub_of name old)) in
      let one_new : unwrap_or (option_map (one_if test) sub) 0 ≡ count_by test (option_to_list sub) = sym (count_maybe test sub) in
      omega (arith, sums, all_new, all_old, one_old, one_new)

module _ (keys : KeyMap) (is : IsKeyMap keys) (name : List ℕ) (sub : Option Sub) (subs : List Sub) (puts : PutsSub name sub (subs_in keys (slot_of name)) subs) where
  abbrev new : KeyMap
  new = with_update (subs_update (slot_of name) subs) keys

  -- What each slot has then.
  pub slot_found : (slot : ℕ) → subs_in new slot ≡ cond (slot_of name == slot) subs (subs_in keys slot)
  slot_found slot =
      ap subs_of (value_in-with_update (subs_update (slot_of name) subs) keys Subvols (slot_place slot) is)
      ∙ ap (λ b. subs_of (cond b (subs_value subs) (value_in keys Subvols (slot_place slot)))) (number_at (slot_of name) slot)
      ∙ by (slot_of name == slot)
    where
      by : (b : Bool) → subs_of (cond b (subs_value subs) (value_in keys Subvols (slot_place slot))) ≡ cond b subs (subs_in keys slot)
      by true = held subs
      by false = refl

  -- The name has the subvolume, and each other name what it had.
  pub put_found : (other : List ℕ) → sub_named new other ≡ cond (is_eq (name_cmp name other)) sub (sub_named keys other)
  put_found other = ap (sub_of other) (slot_found (slot_of other)) ∙ by (slot_of name == slot_of other) refl
    where
      apart : (slot_of name == slot_of other) ≡ false → (b : Bool) → is_eq (name_cmp name other) ≡ b → sub_named keys other ≡ cond b sub (sub_named keys other)
      apart differ true at = absurd (true≢false (sym (eq-eqb (slot_of name) (slot_of other) (ap slot_of (same_key exact_bytes name other at))) ∙ differ))
      apart differ false at = refl

      by : (b : Bool) → (slot_of name == slot_of other) ≡ b → sub_of other (cond b subs (subs_in keys (slot_of other))) ≡ cond (is_eq (name_cmp name other)) sub (sub_named keys other)
      by true same = puts.found other ∙ ap (λ slot. cond (is_eq (name_cmp name other)) sub (sub_of other (subs_in keys slot))) (eqb-true (slot_of name) (slot_of other) same)
      by false differ = apart differ (is_eq (name_cmp name other)) refl

  -- So many subvolumes pass a test.
  pub put_counted : IsKeyValue (value_in keys Subvols (record { inode = 0; offset = slot_of name; snapshot = 0 })) → (test : Sub → Bool) → count_by test (all_subs new) + count_by test (option_to_list (sub_named keys name)) ≡ count_by test (all_subs keys) + count_by test (option_to_list sub)
  put_counted fits test =
      let slot = slot_place (slot_of name) in
      let sums = put_sums pos_total (in_value test) slot (subs_value subs) keys.subvols (is.rises Subvols) in
      let entries : new.subvols ≡ put_at pos_cmp slot (subs_value subs) keys.subvols = entries_of-with_update (subs_update (slot_of name) subs) keys Subvols in
      let all_new : count_by test (all_subs new) ≡ sum_by (in_value test) (values_of (put_at pos_cmp slot (subs_value subs) keys.subvols)) = count_all test new.subvols ∙ ap (λ (es : Entries). sum_by (in_value test) (values_of es)) entries in
      let all_old : count_by test (all_subs keys) ≡ sum_by (in_value test) (values_of keys.subvols) = count_all test keys.subvols in
      let slot_old : unwrap_or (option_map (in_value test) (value_at pos_cmp slot keys.subvols)) 0 ≡ count_by test (subs_in keys (slot_of name)) = in_maybe test (value_at pos_cmp slot keys.subvols) in
      let slot_new : unwrap_or (option_map (in_value test) (subs_value subs)) 0 ≡ count_by test subs = in_maybe test (subs_value subs) ∙ ap (count_by test) (held subs) in
      let inside : count_by test subs + count_by test (option_to_list (sub_named keys name)) ≡ count_by test (subs_in keys (slot_of name)) + count_by test (option_to_list sub) = counted_in_slot name sub (subs_in keys (slot_of name)) subs puts (value_rises (value_in keys Subvols slot) fits) test in
      omega (arith, sums, all_new, all_old, slot_old, slot_new, inside)

-- a member of a map is found by its key
member_found : {K X : Type 0} {cmp : K → K → Ordering} → IsTotalOrder cmp → (e : K × X) (entries : List (K × X)) → IsMap cmp entries → IsIn e entries → value_at cmp e.0 entries ≡ Some e.1
member_found total e [] rises among = absurd among
member_found {cmp = cmp} total e (d ∷ ds) rises among = ⊎_elim
    (λ (same : e ≡ d). ap (λ b. cond b (Some d.1) (value_at cmp e.0 ds)) (ap (λ (k : _ × _). is_at (cmp e.0) k.0) (sym same) ∙ ap is_eq (tied_itself total e.0)) ∙ ap (λ (k : _ × _). Some k.1) (sym same))
    (λ (later : IsIn e ds). by (is_at (cmp e.0) d.0) refl (member_found total e ds (sorted_tail cmp d.0 (keys_of ds) rises) later)) among
  where
    by : (b : Bool) → is_at (cmp e.0) d.0 ≡ b → value_at cmp e.0 ds ≡ Some e.1 → cond b (Some d.1) (value_at cmp e.0 ds) ≡ Some e.1
    by true at found = absurd (none_some e.1 (sym (lookup-none (is_at (cmp e.0)) ds (none_past_head (eq_by_cmp_equiv total) e.0 d ds (IsDistinct-from_sorted cmp (keys_of (d ∷ ds)) rises) at)) ∙ found))
    by false at found = found

in_either : {X : Type 0} (x : X) (xs ys : List X) → IsIn x (xs ++ ys) → IsIn x xs ⊎ IsIn x ys
in_either x [] ys among = inr among
in_either x (y ∷ xs) ys among = ⊎_elim (λ (same : x ≡ y). inl (inl same)) (λ (later : IsIn x (xs ++ ys)). ⊎_elim (λ (here : IsIn x xs). inl (inr here)) (λ (there : IsIn x ys). inr there) (in_either x xs ys later)) among

-- a subvolume of all is one of an entry's
in_entry : (sub : Sub) (entries : Entries) (P : Type 0) → ((e : Pos × Value) → IsIn e entries → IsIn sub (subs_of (Some e.1)) → P) → IsIn sub (flat_map subs_of_entry entries) → P
in_entry sub [] P each among = absurd among
in_entry sub (e ∷ es) P each among = ⊎_elim (λ (here : IsIn sub (subs_of (Some e.1))). each e (inl refl) here)
    (λ (later : IsIn sub (flat_map subs_of_entry es)). in_entry sub es P (λ d is. each d (inr is)) later) (in_either sub (subs_of (Some e.1)) (flat_map subs_of_entry es) among)

in_named : (sub : Sub) (subs : List Sub) → IsIn sub subs → IsIn (sub.name, sub) (named subs)
in_named sub [] among = among
in_named sub (other ∷ subs) among = ⊎_elim (λ (same : sub ≡ other). inl (λ i. ((same i).name, same i))) (λ (later : IsIn sub subs). inr (in_named sub subs later)) among

-- A subvolume of a slot is found there by its name.
pub sub_in_slot : (subs : List Sub) → IsKeyValue (subs_value subs) → (sub : Sub) → IsIn sub subs → sub_of sub.name subs ≡ Some sub
sub_in_slot subs fits sub among = sym (found_named sub.name subs) ∙ member_found nat_list_cmp_total (sub.name, sub) (named subs) (list_rises subs fits) (in_named sub subs among)

-- Each subvolume is found by its name.
pub each_found : (keys : KeyMap) → IsKeyMap keys → AreKeysDrawn keys → AreNamesGood keys → (sub : Sub) → IsIn sub (all_subs keys) → sub_named keys sub.name ≡ Some sub
each_found keys is drawn good sub among = in_entry sub keys.subvols (sub_named keys sub.name ≡ Some sub) by among
  where
    by : (e : Pos × Value) → IsIn e keys.subvols → IsIn sub (subs_of (Some e.1)) → sub_named keys sub.name ≡ Some sub
    by e entry inside =
        let key = all_in (IsKeyOf keys Subvols) e keys.subvols (drawn.each Subvols) entry in
        let under : slot_of sub.name ≡ e.0.offset = (all_in (λ (s : Sub). (slot_of s.name ≡ e.0.offset) × (is_good_subvolume_name s.name ≡ true)) sub (subs_of (Some e.1)) (all_in HasGoodSubvolumes e keys.subvols good.subvolumes entry) inside).0 in
        let place : slot_place (slot_of sub.name) ≡ e.0 = λ i. record { inode = sym key.place.0 i; offset = under i; snapshot = sym key.place.1 i } in
        ap (λ (pos : Pos). sub_of sub.name (subs_of (value_at pos_cmp pos keys.subvols))) place
        ∙ ap (λ (o : Option Value). sub_of sub.name (subs_of o)) (member_found pos_total e keys.subvols (is.rises Subvols) entry)
        ∙ sym (found_named sub.name (subs_of (Some e.1)))
        ∙ member_found nat_list_cmp_total (sub.name, sub) (named (subs_of (Some e.1))) (value_rises (Some e.1) key.in_range) (in_named sub (subs_of (Some e.1)) inside)
