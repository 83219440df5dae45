-- Look-ups after a map was changed, maps that stay maps, and maps with equal look-ups; for any total order of the keys.
use Rattle.std.proofs.Common.{◌≡◌, Bool, true, false, cond, Option, Some, None, List, [], ◌∷◌, ◌++◌, refl, sym, ap, ◌∙◌, ⊎_elim}
use Rattle.std.specs.Cmp.{IsTotalOrder}
use Rattle.std.specs.List.{AllByRecursion}
use Rattle.std.specs.List.Sorted.{IsStrictlySortedBy}
use Rattle.std.specs.Map.{keys_of}
use Rattle.std.specs.BTreeMap.{is_at}
use Rattle.std.specs.Option.{option_or}
use Rattle.std.specs.Ordering.{is_eq, match_ordering, ordering_reverse}
use Rattle.std.specs.declared.cmp.Ordering.{Ordering}
use Rattle.std.specs.declared.cmp.Ordering.TheVariants.{Less, Equal, Greater}
use Rattle.std.proofs.lemmas.Bool.{cases_Bool}
use Rattle.std.proofs.lemmas.Cmp.{alike_right, tied_itself, eq_by_cmp_equiv}
use Rattle.std.proofs.lemmas.Map.{lookup-none, lookup-remove_entry}
use Rattle.std.proofs.lemmas.Map.Entries.{lookup_head, lookup_tail, none_past_head, none_below_head}
use Rattle.std.proofs.lemmas.Map.Keys.{IsDistinct-from_sorted, sorted_tail}
use Rattle.std.proofs.lemmas.Map.Lookups.{CmpEqualImpliesEq}
use Rattle.std.proofs.lemmas.Option.{same_Some, none-some as none_some}
use Rattle.vol_types.specs.Maps.{IsMap, value_at, with_value, without, put_at}

module _ {K : Type 0} {cmp : K → K → Ordering} (total : IsTotalOrder cmp) where
  -- whether two keys are one doesn't depend on which is asked for
  same_turned : (k q : K) → is_at (cmp q) k ≡ is_at (cmp k) q
  same_turned k q = (eq_by_cmp_equiv total).symm q k

  -- what is above a greater key is above this one
  above_lower : (low high : K) (keys : List K) → cmp low high ≡ Less → AllByRecursion (λ y. cmp high y ≡ Less) keys → AllByRecursion (λ y. cmp low y ≡ Less) keys
  above_lower low high [] less all = tt
  above_lower low high (k ∷ keys) less all = (total.trans low high k less all.0, above_lower low high keys less all.1)

module _ {K X : Type 0} {cmp : K → K → Ordering} (total : IsTotalOrder cmp) where
  -- After a value was put at a key, it is there, and all else is as it was.
  pub value_at-with_value : (key : K) (value : X) (q : K) (entries : List (K × X)) → value_at cmp q (with_value cmp key value entries) ≡ cond (is_at (cmp key) q) (Some value) (value_at cmp q entries)
  value_at-with_value key value q [] = ap (λ b. cond b (Some value) None) (same_turned total key q)
  value_at-with_value key value q (e ∷ es) = by (cmp key e.0) refl (value_at-with_value key value q es)
    where
      replaced : (a b : Bool) → a ≡ b → cond a (Some value) (value_at cmp q es) ≡ cond b (Some value) (cond a (Some e.1) (value_at cmp q es))
      replaced true true same = refl
      replaced false false same = refl
      replaced true false same = ap (λ b. cond b (Some value) (cond true (Some e.1) (value_at cmp q es))) same
      replaced false true same = ap (λ b. cond b (Some value) (value_at cmp q es)) same

      later_entry : (r : Ordering) → cmp q key ≡ r → cmp key e.0 ≡ Greater → cond (is_at (cmp q) e.0) (Some e.1) (cond (is_eq r) (Some value) (value_at cmp q es)) ≡ cond (is_eq r) (Some value) (cond (is_at (cmp q) e.0) (Some e.1) (value_at cmp q es))
      later_entry Less is after = refl
      later_entry Equal is after = ap (λ o. cond (is_eq o) (Some e.1) (Some value)) (total.congr q key e.0 is ∙ after)
      later_entry Greater is after = refl

      by : (r : Ordering) → cmp key e.0 ≡ r → value_at cmp q (with_value cmp key value es) ≡ cond (is_at (cmp key) q) (Some value) (value_at cmp q es)
          → value_at cmp q (match_ordering r ((key, value) ∷ e ∷ es) ((e.0, value) ∷ es) (e ∷ with_value cmp key value es)) ≡ cond (is_at (cmp key) q) (Some value) (cond (is_at (cmp q) e.0) (Some e.1) (value_at cmp q es))
      by Less is later = ap (λ b. cond b (Some value) (cond (is_at (cmp q) e.0) (Some e.1) (value_at cmp q es))) (same_turned total key q)
      by Equal is later = replaced (is_at (cmp q) e.0) (is_at (cmp key) q) (sym (ap is_eq (alike_right total key e.0 q is)) ∙ same_turned total key q)
      by Greater is later =
          ap (cond (is_at (cmp q) e.0) (Some e.1)) (later ∙ ap (λ b. cond b (Some value) (value_at cmp q es)) (sym (same_turned total key q)))
          ∙ later_entry (cmp q key) refl is
          ∙ ap (λ b. cond b (Some value) (cond (is_at (cmp q) e.0) (Some e.1) (value_at cmp q es))) (same_turned total key q)

  -- After a key was removed, nothing is there, and all else is as it was.
  pub value_at-without : (key q : K) (entries : List (K × X)) → IsMap cmp entries → value_at cmp q (without cmp key entries) ≡ cond (is_at (cmp key) q) None (value_at cmp q entries)
  value_at-without key q entries rises =
      lookup-remove_entry (eq_by_cmp_equiv total) (is_at (cmp key)) (λ x y same. (eq_by_cmp_equiv total).congr key x y same) q entries (IsDistinct-from_sorted cmp (keys_of entries) rises)

  -- After a value was put or removed at a key, the key has what was put, and all else is as it was.
  pub value_at-put_at : (key : K) (value : Option X) (q : K) (entries : List (K × X)) → IsMap cmp entries → value_at cmp q (put_at cmp key value entries) ≡ cond (is_at (cmp key) q) value (value_at cmp q entries)
  value_at-put_at key None q entries rises = value_at-without key q entries rises
  value_at-put_at key (Some value) q entries rises = value_at-with_value key value q entries

  -- what holds of each key still does, where it holds of the one that is put
  keys-with_value : (P : K → Type 0) (key : K) (value : X) (entries : List (K × X)) → AllByRecursion P (keys_of entries) → P key → AllByRecursion P (keys_of (with_value cmp key value entries))
  keys-with_value P key value [] all put = (put, tt)
  keys-with_value P key value (e ∷ es) all put = by (cmp key e.0) (keys-with_value P key value es all.1 put)
    where
      by : (r : Ordering) → AllByRecursion P (keys_of (with_value cmp key value es)) → AllByRecursion P (keys_of (match_ordering r ((key, value) ∷ e ∷ es) ((e.0, value) ∷ es) (e ∷ with_value cmp key value es)))
      by Less later = (put, all)
      by Equal later = all
      by Greater later = (all.0, later)

  keys-without : (P : K → Type 0) (key : K) (entries : List (K × X)) → AllByRecursion P (keys_of entries) → AllByRecursion P (keys_of (without cmp key entries))
  keys-without P key [] all = tt
  keys-without P key (e ∷ es) all = by (is_at (cmp key) e.0) (keys-without P key es all.1)
    where
      by : (b : Bool) → AllByRecursion P (keys_of (without cmp key es)) → AllByRecursion P (keys_of (cond b es (e ∷ without cmp key es)))
      by true later = all.1
      by false later = (all.0, later)

  -- A map with a value put at a key is a map.
  pub IsMap-with_value : (key : K) (value : X) (entries : List (K × X)) → IsMap cmp entries → IsMap cmp (with_value cmp key value entries)
  unfolding IsStrictlySortedBy
  IsMap-with_value key value [] rises = (tt, tt)
  IsMap-with_value key value (e ∷ es) rises = by (cmp key e.0) refl (IsMap-with_value key value es rises.1)
    where
      by : (r : Ordering) → cmp key e.0 ≡ r → IsMap cmp (with_value cmp key value es) → IsMap cmp (match_ordering r ((key, value) ∷ e ∷ es) ((e.0, value) ∷ es) (e ∷ with_value cmp key value es))
      by Less is later = ((is, above_lower total key e.0 (keys_of es) is rises.0), rises)
      by Equal is later = rises
      by Greater is later = (keys-with_value (λ y. cmp e.0 y ≡ Less) key value es rises.0 (total.antisymm e.0 key ∙ ap ordering_reverse is), later)

  -- A map without a key is a map.
  pub IsMap-without : (key : K) (entries : List (K × X)) → IsMap cmp entries → IsMap cmp (without cmp key entries)
  unfolding IsStrictlySortedBy
  IsMap-without key [] rises = tt
  IsMap-without key (e ∷ es) rises = by (is_at (cmp key) e.0) (IsMap-without key es rises.1)
    where
      by : (b : Bool) → IsMap cmp (without cmp key es) → IsMap cmp (cond b es (e ∷ without cmp key es))
      by true later = rises.1
      by false later = (keys-without (λ y. cmp e.0 y ≡ Less) key es rises.0, later)

  -- A map in which a value was put or removed is a map.
  pub IsMap-put_at : (key : K) (value : Option X) (entries : List (K × X)) → IsMap cmp entries → IsMap cmp (put_at cmp key value entries)
  IsMap-put_at key None entries rises = IsMap-without key entries rises
  IsMap-put_at key (Some value) entries rises = IsMap-with_value key value entries rises

  first_found : (e : K × X) (es : List (K × X)) → value_at cmp e.0 (e ∷ es) ≡ Some e.1
  first_found e es = lookup_head (is_at (cmp e.0)) e es (ap is_eq (tied_itself total e.0))

  -- no later key is the first one
  none_later : (q : K) (e : K × X) (es : List (K × X)) → IsMap cmp (e ∷ es) → is_at (cmp q) e.0 ≡ true → value_at cmp q es ≡ None
  none_later q e es rises same = lookup-none (is_at (cmp q)) es (none_past_head (eq_by_cmp_equiv total) q e es (IsDistinct-from_sorted cmp (keys_of (e ∷ es)) rises) same)

  module _ (d e : K × X) (ds es : List (K × X)) (rises : IsMap cmp (d ∷ ds)) (others : IsMap cmp (e ∷ es)) (same : (key : K) → value_at cmp key (d ∷ ds) ≡ value_at cmp key (e ∷ es)) where
    same_first : (r : Ordering) → cmp d.0 e.0 ≡ r → cmp d.0 e.0 ≡ Equal
    same_first Less is = absurd (none_some d.1 (sym (lookup-none (is_at (cmp d.0)) (e ∷ es) (none_below_head total d.0 e es others is)) ∙ sym (same d.0) ∙ first_found d ds))
    same_first Equal is = is
    same_first Greater is =
        absurd (none_some e.1 (sym (lookup-none (is_at (cmp e.0)) (d ∷ ds) (none_below_head total e.0 d ds rises (total.antisymm e.0 d.0 ∙ ap ordering_reverse is))) ∙ same e.0 ∙ first_found e es))

    same_value : d.1 ≡ e.1
    same_value = same_Some d.1 e.1 (sym (first_found d ds) ∙ same d.0 ∙ lookup_head (is_at (cmp d.0)) e es (ap is_eq (same_first (cmp d.0 e.0) refl)))

    same_later : (key : K) → value_at cmp key ds ≡ value_at cmp key es
    same_later key =
        let alike : is_at (cmp key) e.0 ≡ is_at (cmp key) d.0 = sym (ap is_eq (alike_right total d.0 e.0 key (same_first (cmp d.0 e.0) refl))) in
        ⊎_elim
        (λ y. none_later key d ds rises y ∙ sym (none_later key e es others (alike ∙ y)))
        (λ n. sym (lookup_tail (is_at (cmp key)) d ds n) ∙ same key ∙ lookup_tail (is_at (cmp key)) e es (alike ∙ n))
        (cases_Bool (is_at (cmp key) d.0))

  -- Maps in which each key has the same value are one, where the order tells any two keys apart.
  pub same_maps : CmpEqualImpliesEq cmp → (one other : List (K × X)) → IsMap cmp one → IsMap cmp other → ((key : K) → value_at cmp key one ≡ value_at cmp key other) → one ≡ other
  same_maps exact [] [] rises others same = refl
  same_maps exact [] (e ∷ es) rises others same = absurd (none_some e.1 (same e.0 ∙ first_found e es))
  same_maps exact (d ∷ ds) [] rises others same = absurd (none_some d.1 (sym (same d.0) ∙ first_found d ds))
  same_maps exact (d ∷ ds) (e ∷ es) rises others same =
      let key = exact d.0 e.0 (same_first d e ds es rises others same (cmp d.0 e.0) refl) in
      let value = same_value d e ds es rises others same in
      let later = same_maps exact ds es (sorted_tail cmp d.0 (keys_of ds) rises) (sorted_tail cmp e.0 (keys_of es) others) (same_later d e ds es rises others same) in
      λ i. (key i, value i) ∷ later i

module _ {K X : Type 0} (cmp : K → K → Ordering) where
  -- In joined entries a key has the value that it has in the first ones, else that in the second ones.
  pub value_at-append : (key : K) (first second : List (K × X)) → value_at cmp key (first ++ second) ≡ option_or (value_at cmp key first) (value_at cmp key second)
  value_at-append key [] second = refl
  value_at-append key (e ∷ first) second = by (is_at (cmp key) e.0) (value_at-append key first second)
    where
      by : (b : Bool) → value_at cmp key (first ++ second) ≡ option_or (value_at cmp key first) (value_at cmp key second)
          → cond b (Some e.1) (value_at cmp key (first ++ second)) ≡ option_or (cond b (Some e.1) (value_at cmp key first)) (value_at cmp key second)
      by true later = refl
      by false later = later

  -- Each key of the second entries is above each of the first ones.
  abbrev pub AreKeysBelow : List (K × X) → List (K × X) → Type 0
  AreKeysBelow first second = AllByRecursion (λ low. AllByRecursion (λ high. cmp low high ≡ Less) (keys_of second)) (keys_of first)

  all_first : (P : K → Type 0) (first second : List (K × X)) → AllByRecursion P (keys_of (first ++ second)) → AllByRecursion P (keys_of first) × AllByRecursion P (keys_of second)
  all_first P [] second all = (tt, all)
  all_first P (e ∷ first) second all = let later = all_first P first second all.1 in ((all.0, later.0), later.1)

  all_joined : (P : K → Type 0) (first second : List (K × X)) → AllByRecursion P (keys_of first) → AllByRecursion P (keys_of second) → AllByRecursion P (keys_of (first ++ second))
  all_joined P [] second all others = others
  all_joined P (e ∷ first) second all others = (all.0, all_joined P first second all.1 others)

  -- Both parts of a map are maps, and the second is above the first.
  pub IsMap-parts : (first second : List (K × X)) → IsMap cmp (first ++ second) → IsMap cmp first × IsMap cmp second × AreKeysBelow first second
  unfolding IsStrictlySortedBy
  IsMap-parts [] second rises = (tt, rises, tt)
  IsMap-parts (e ∷ first) second rises =
      let here = all_first (λ y. cmp e.0 y ≡ Less) first second rises.0 in
      let later = IsMap-parts first second rises.1 in
      ((here.0, later.0), later.1, (here.1, later.2))

  -- Two maps of which the second is above the first make a map.
  pub IsMap-append : (first second : List (K × X)) → IsMap cmp first → IsMap cmp second → AreKeysBelow first second → IsMap cmp (first ++ second)
  unfolding IsStrictlySortedBy
  IsMap-append [] second rises others apart = others
  IsMap-append (e ∷ first) second rises others apart = (all_joined (λ y. cmp e.0 y ≡ Less) first second rises.0 apart.0, IsMap-append first second rises.1 others apart.1)
