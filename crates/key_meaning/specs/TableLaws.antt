-- What stands in a map that is made of a function, and when two such maps are one.
use Rattle.std.proofs.Common.{◌≡◌, Bool, true, false, cond, Option, Some, None, List, [], ◌∷◌, refl, sym, ap, ◌∙◌, subst}
use Rattle.std.specs.Prelude.{IsSome, ◌||◌, option_map}
use Rattle.std.specs.BTreeMap.{is_at}
use Rattle.std.specs.Cmp.{IsTotalOrder, Equal-is}
use Rattle.std.specs.List.{list_any}
use Rattle.std.specs.Map.{keys_of}
use Rattle.std.proofs.lemmas.Map.Keys.{sorted_tail}
use Rattle.plain_forest.specs.Maps.{changed_at}
use Rattle.std.specs.List.Sorted.{IsStrictlySortedBy}
use Rattle.std.specs.declared.cmp.Ordering.{Ordering}
use Rattle.std.proofs.lemmas.Bool.{true≢false}
use Rattle.std.proofs.lemmas.Cmp.{eq_by_cmp_equiv}
use Rattle.std.proofs.lemmas.Map.Lookups.{CmpEqualImpliesEq}
use Rattle.vol_types.specs.MapLaws.{IsMap-put_at, IsMap-with_value, same_maps, value_at-put_at, value_at-with_value}
use Rattle.vol_types.specs.Maps.{IsMap, put_at, value_at}
use Rattle.key_meaning.specs.Tables.{map_over, with_any}

-- nothing, either way
pub none_both : {X : Type 0} (b : Bool) → cond {A = Option X} b None None ≡ None
none_both true = refl
none_both false = refl

-- some list that has no element with a key gives nothing there
pub some_is : {X : Type 0} (b : Bool) (o : Option X) → (IsSome o → b ≡ true) → cond b o None ≡ o
some_is true o is = refl
some_is false None is = refl
some_is false (Some x) is = absurd (true≢false (sym (is refl)))

-- keys that compare alike are one
pub same_key : {K : Type 0} {cmp : K → K → Ordering} → CmpEqualImpliesEq cmp → (k q : K) → is_at (cmp k) q ≡ true → k ≡ q
same_key {cmp = cmp} exact k q is = exact k q ((Equal-is (cmp k q)).0 is)

module _ {K X : Type 0} {cmp : K → K → Ordering} (total : IsTotalOrder cmp) (exact : CmpEqualImpliesEq cmp) where
  with_any_at : (value : K → Option X) (q key : K) (entries : List (K × X)) (given : Option X) → value key ≡ given → (b rest : Bool) → is_at (cmp q) key ≡ b → value_at cmp q entries ≡ cond rest (value q) None
      → value_at cmp q (with_any cmp key given entries) ≡ cond (b || rest) (value q) None
  with_any_at value q key entries None is true rest at later = later ∙ ap (λ o. cond rest o None) none ∙ none_both rest ∙ sym none
    where
      none : value q ≡ None
      none = ap value (same_key exact q key at) ∙ is
  with_any_at value q key entries None is false rest at later = later
  with_any_at value q key entries (Some x) is true rest at later =
      value_at-with_value total key x q entries ∙ ap (λ b. cond b (Some x) (value_at cmp q entries)) ((eq_by_cmp_equiv total).symm key q ∙ at) ∙ sym (ap value (same_key exact q key at) ∙ is)
  with_any_at value q key entries (Some x) is false rest at later =
      value_at-with_value total key x q entries ∙ ap (λ b. cond b (Some x) (value_at cmp q entries)) ((eq_by_cmp_equiv total).symm key q ∙ at) ∙ later

  -- A map over some keys has at each of them what the function gives, and nothing elsewhere.
  pub value_at-map_over : (value : K → Option X) (q : K) (keys : List K) → value_at cmp q (map_over cmp value keys) ≡ cond (list_any (is_at (cmp q)) keys) (value q) None
  value_at-map_over value q [] = refl
  value_at-map_over value q (key ∷ keys) =
      with_any_at value q key (map_over cmp value keys) (value key) refl (is_at (cmp q) key) (list_any (is_at (cmp q)) keys) refl (value_at-map_over value q keys)

  -- The function gives nothing but at these keys.
  abbrev pub GivesWithin : (K → Option X) → List K → Type 0
  GivesWithin value keys = (q : K) → IsSome (value q) → list_any (is_at (cmp q)) keys ≡ true

  -- So where the function gives nothing else, the map is the function.
  pub map_over-is : (value : K → Option X) (keys : List K) → GivesWithin value keys → (q : K) → value_at cmp q (map_over cmp value keys) ≡ value q
  map_over-is value keys within q = value_at-map_over value q keys ∙ some_is (list_any (is_at (cmp q)) keys) (value q) (within q)

  with_any_rises : (key : K) (given : Option X) (entries : List (K × X)) → IsMap cmp entries → IsMap cmp (with_any cmp key given entries)
  with_any_rises key None entries rises = rises
  with_any_rises key (Some x) entries rises = IsMap-with_value total key x entries rises

  -- A map over some keys is a map.
  pub IsMap-map_over : (value : K → Option X) (keys : List K) → IsMap cmp (map_over cmp value keys)
  unfolding IsStrictlySortedBy
  IsMap-map_over value [] = tt
  IsMap-map_over value (key ∷ keys) = with_any_rises key (value key) (map_over cmp value keys) (IsMap-map_over value keys)

  -- A map that has at each key what the function gives is the map over keys within which it gives something.
  pub map_over-made : (value : K → Option X) (keys : List K) (entries : List (K × X)) → GivesWithin value keys → IsMap cmp entries → ((q : K) → value_at cmp q entries ≡ value q) → map_over cmp value keys ≡ entries
  map_over-made value keys entries within rises is = same_maps total exact (map_over cmp value keys) entries (IsMap-map_over value keys) rises (λ q. map_over-is value keys within q ∙ sym (is q))

  -- Two functions that give the same at each key have one map.
  pub map_over-same : (one other : K → Option X) (keys others : List K) → GivesWithin one keys → GivesWithin other others → ((q : K) → one q ≡ other q) → map_over cmp one keys ≡ map_over cmp other others
  map_over-same one other keys others within without same =
      map_over-made one keys (map_over cmp other others) within (IsMap-map_over other others) (λ q. map_over-is other others without q ∙ sym (same q))

-- Functions that agree everywhere have one map over the same keys.
pub map_over-agree : {K X : Type 0} (cmp : K → K → Ordering) (one other : K → Option X) (keys : List K) → ((q : K) → one q ≡ other q) → map_over cmp one keys ≡ map_over cmp other keys
map_over-agree cmp one other [] same = refl
map_over-agree cmp one other (key ∷ keys) same = λ i. with_any cmp key (same key i) (map_over-agree cmp one other keys same i)

module _ {K X : Type 0} {cmp : K → K → Ordering} (total : IsTotalOrder cmp) (exact : CmpEqualImpliesEq cmp) where
  -- Where a function is another one but for one key, its map is the other's with what it gives put there.
  pub map_over-changed : (old new : K → Option X) (keys others : List K) (key : K) → GivesWithin total exact old keys → GivesWithin total exact new others → ((q : K) → is_at (cmp key) q ≡ false → new q ≡ old q)
      → map_over cmp new others ≡ put_at cmp key (new key) (map_over cmp old keys)
  map_over-changed old new keys others key within without same =
      map_over-made total exact new others (put_at cmp key (new key) (map_over cmp old keys)) without (IsMap-put_at total key (new key) (map_over cmp old keys) (IsMap-map_over total exact old keys))
      (λ q. value_at-put_at total key (new key) q (map_over cmp old keys) (IsMap-map_over total exact old keys) ∙ ap (λ o. cond (is_at (cmp key) q) (new key) o) (map_over-is total exact old keys within q) ∙ at (is_at (cmp key) q) q refl)
    where
      at : (b : Bool) (q : K) → is_at (cmp key) q ≡ b → cond b (new key) (old q) ≡ new q
      at true q is = ap new (same_key exact key q is)
      at false q is = sym (same q is)

  -- After a value was changed, it is changed there, and all else is as it was.
  pub value_at-changed_at : (key : K) (change : X → X) (q : K) (entries : List (K × X)) → IsMap cmp entries → value_at cmp q (changed_at cmp key change entries) ≡ cond (is_at (cmp key) q) (option_map change (value_at cmp q entries)) (value_at cmp q entries)
  value_at-changed_at key change q [] rises = sym (none_both (is_at (cmp key) q))
  value_at-changed_at key change q (e ∷ es) rises = by (is_at (cmp key) e.0) (is_at (cmp q) e.0) (is_at (cmp key) q) refl refl refl (value_at-changed_at key change q es (sorted_tail cmp e.0 (keys_of es) rises))
    where
      by : (here there asked : Bool) → is_at (cmp key) e.0 ≡ here → is_at (cmp q) e.0 ≡ there → is_at (cmp key) q ≡ asked
          → value_at cmp q (changed_at cmp key change es) ≡ cond asked (option_map change (value_at cmp q es)) (value_at cmp q es)
          → value_at cmp q (cond here ((e.0, change e.1) ∷ es) (e ∷ changed_at cmp key change es)) ≡ cond asked (option_map change (cond there (Some e.1) (value_at cmp q es))) (cond there (Some e.1) (value_at cmp q es))
      by true true true at_key at_q is later = ap (λ b. cond b (Some (change e.1)) (value_at cmp q es)) at_q
      by true true false at_key at_q is later = absurd (true≢false (sym (alike_keys at_key at_q) ∙ is))
        where
          alike_keys : is_at (cmp key) e.0 ≡ true → is_at (cmp q) e.0 ≡ true → is_at (cmp key) q ≡ true
          alike_keys one other = ap (λ k. is_at (cmp key) k) (same_key exact q e.0 other) ∙ one
      by true false true at_key at_q is later = absurd (true≢false (sym (ap (λ k. is_at (cmp k) e.0) (sym (same_key exact key q is)) ∙ at_key) ∙ at_q))
      by true false false at_key at_q is later = ap (λ b. cond b (Some (change e.1)) (value_at cmp q es)) at_q
      by false true true at_key at_q is later = absurd (true≢false (sym (ap (λ k. is_at (cmp k) e.0) (same_key exact key q is) ∙ at_q) ∙ at_key))
      by false true false at_key at_q is later = ap (λ b. cond b (Some e.1) (value_at cmp q (changed_at cmp key change es))) at_q
      by false false true at_key at_q is later = ap (λ b. cond b (Some e.1) (value_at cmp q (changed_at cmp key change es))) at_q ∙ later
      by false false false at_key at_q is later = ap (λ b. cond b (Some e.1) (value_at cmp q (changed_at cmp key change es))) at_q ∙ later

  -- A map with a value changed has the same keys,
  pub keys-changed_at : (key : K) (change : X → X) (entries : List (K × X)) → keys_of (changed_at cmp key change entries) ≡ keys_of entries
  keys-changed_at key change [] = refl
  keys-changed_at key change (e ∷ es) = by (is_at (cmp key) e.0) (keys-changed_at key change es)
    where
      by : (here : Bool) → keys_of (changed_at cmp key change es) ≡ keys_of es → keys_of (cond here ((e.0, change e.1) ∷ es) (e ∷ changed_at cmp key change es)) ≡ e.0 ∷ keys_of es
      by true later = refl
      by false later = ap (λ ks. e.0 ∷ ks) later

  -- and so is a map.
  pub IsMap-changed_at : (key : K) (change : X → X) (entries : List (K × X)) → IsMap cmp entries → IsMap cmp (changed_at cmp key change entries)
  IsMap-changed_at key change entries rises = subst (IsStrictlySortedBy cmp) (sym (keys-changed_at key change entries)) rises

  -- Where a function is another one but for one key, at which what the other gives is changed, its map is the other's, changed there.
  pub map_over-changed_at : (old new : K → Option X) (keys others : List K) (key : K) (change : X → X) → GivesWithin total exact old keys → GivesWithin total exact new others
      → new key ≡ option_map change (old key) → ((q : K) → is_at (cmp key) q ≡ false → new q ≡ old q) → map_over cmp new others ≡ changed_at cmp key change (map_over cmp old keys)
  map_over-changed_at old new keys others key change within without changed same =
      map_over-made total exact new others (changed_at cmp key change (map_over cmp old keys)) without (IsMap-changed_at key change (map_over cmp old keys) (IsMap-map_over total exact old keys))
      (λ q. value_at-changed_at key change q (map_over cmp old keys) (IsMap-map_over total exact old keys) ∙ ap (λ o. cond (is_at (cmp key) q) (option_map change o) o) (map_over-is total exact old keys within q) ∙ at (is_at (cmp key) q) q refl)
    where
      at : (b : Bool) (q : K) → is_at (cmp key) q ≡ b → cond b (option_map change (old q)) (old q) ≡ new q
      at true q is = ap (λ k. option_map change (old k)) (sym (same_key exact key q is)) ∙ sym changed ∙ ap new (same_key exact key q is)
      at false q is = sym (same q is)
