-- A value that is put or removed at a key of joined entries is put or removed in the part that the key belongs to.
use Rattle.std.proofs.Common.{◌≡◌, Bool, true, false, cond, Option, Some, None, List, [], ◌∷◌, ◌++◌, refl, ap, ◌∙◌}
use Rattle.std.specs.BTreeMap.{is_at}
use Rattle.std.specs.List.{AllByRecursion}
use Rattle.std.specs.Map.{keys_of}
use Rattle.std.specs.Ordering.{is_eq, match_ordering}
use Rattle.std.specs.declared.cmp.Ordering.{Ordering}
use Rattle.std.specs.declared.cmp.Ordering.TheVariants.{Less, Equal, Greater}
use Rattle.vol_types.specs.Maps.{put_at, with_value, without}

module _ {K X : Type 0} (cmp : K → K → Ordering) (key : K) where
  -- Where all keys are above one, it isn't among them,
  without_above : (entries : List (K × X)) → AllByRecursion (λ k. cmp key k ≡ Less) (keys_of entries) → without cmp key entries ≡ entries
  without_above [] above = refl
  without_above (e ∷ es) above = ap (λ r. cond (is_eq r) es (e ∷ without cmp key es)) above.0 ∙ ap (λ rest. e ∷ rest) (without_above es above.1)

  -- and what is put at it stands before them.
  with_above : (value : X) (entries : List (K × X)) → AllByRecursion (λ k. cmp key k ≡ Less) (keys_of entries) → with_value cmp key value entries ≡ (key, value) ∷ entries
  with_above value [] above = refl
  with_above value (e ∷ es) above = ap (λ r. match_ordering r ((key, value) ∷ e ∷ es) ((e.0, value) ∷ es) (e ∷ with_value cmp key value es)) above.0

  -- What is put at a key below all of the second part is put into the first one.
  pub put_in_first : (value : Option X) (first second : List (K × X)) → AllByRecursion (λ k. cmp key k ≡ Less) (keys_of second) → put_at cmp key value (first ++ second) ≡ put_at cmp key value first ++ second
  put_in_first None [] second above = without_above second above
  put_in_first None (e ∷ first) second above = by (is_at (cmp key) e.0) (put_in_first None first second above)
    where
      by : (b : Bool) → without cmp key (first ++ second) ≡ without cmp key first ++ second → cond b (first ++ second) (e ∷ without cmp key (first ++ second)) ≡ cond b first (e ∷ without cmp key first) ++ second
      by true later = refl
      by false later = ap (λ rest. e ∷ rest) later
  put_in_first (Some value) [] second above = with_above value second above
  put_in_first (Some value) (e ∷ first) second above = by (cmp key e.0) (put_in_first (Some value) first second above)
    where
      by : (r : Ordering) → with_value cmp key value (first ++ second) ≡ with_value cmp key value first ++ second
          → match_ordering r ((key, value) ∷ e ∷ (first ++ second)) ((e.0, value) ∷ (first ++ second)) (e ∷ with_value cmp key value (first ++ second))
          ≡ match_ordering r ((key, value) ∷ e ∷ first) ((e.0, value) ∷ first) (e ∷ with_value cmp key value first) ++ second
      by Less later = refl
      by Equal later = refl
      by Greater later = ap (λ rest. e ∷ rest) later

  -- What is put at a key above all of the first part is put into the second one.
  pub put_in_second : (value : Option X) (first second : List (K × X)) → AllByRecursion (λ k. cmp key k ≡ Greater) (keys_of first) → put_at cmp key value (first ++ second) ≡ first ++ put_at cmp key value second
  put_in_second value [] second below = refl
  put_in_second None (e ∷ first) second below = ap (λ r. cond (is_eq r) (first ++ second) (e ∷ without cmp key (first ++ second))) below.0 ∙ ap (λ rest. e ∷ rest) (put_in_second None first second below.1)
  put_in_second (Some value) (e ∷ first) second below =
      ap (λ r. match_ordering r ((key, value) ∷ e ∷ (first ++ second)) ((e.0, value) ∷ (first ++ second)) (e ∷ with_value cmp key value (first ++ second))) below.0
      ∙ ap (λ rest. e ∷ rest) (put_in_second (Some value) first second below.1)
