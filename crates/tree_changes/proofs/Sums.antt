-- Sums over the entries of a map of which one came, went or changed, and what two entries come to.
use Rattle.std.proofs.Common.{◌≡◌, ℕ, ◌+◌, ◌≤◌, Bool, true, false, cond, List, [], ◌∷◌, Some, None, refl, ap, sym, ◌∙◌, arith}
use Rattle.std.specs.Prelude.{sum_by}
use Rattle.std.specs.Cmp.{IsTotalOrder}
use Rattle.std.specs.BTreeMap.{is_at}
use Rattle.std.specs.Ordering.{match_ordering, is_eq}
use Rattle.std.specs.declared.cmp.Ordering.{Ordering}
use Rattle.std.specs.declared.cmp.Ordering.TheVariants.{Less, Equal, Greater}
use Rattle.std.proofs.lemmas.List.Sums.{sum_by-cons}
use Rattle.std.proofs.lemmas.Map.Lookups.{CmpEqualImpliesEq}
use Rattle.std.proofs.lemmas.Option.{same_Some, none-some as none_some}
use Rattle.key_meaning.specs.TableLaws.{same_key}
use Rattle.plain_forest.specs.Maps.{changed_at}
use Rattle.vol_types.specs.MapLaws.{value_at-without}
use Rattle.vol_types.specs.Maps.{IsMap, value_at, with_value, without}

module _ {K X : Type 0} (cmp : K → K → Ordering) (weight : K × X → ℕ) (key : K) where
  -- one entry more
  pub sum_by-with_value : (value : X) (es : List (K × X)) → value_at cmp key es ≡ None → sum_by weight (with_value cmp key value es) ≡ weight (key, value) + sum_by weight es
  sum_by-with_value value [] none = sum_by-cons weight (key, value) []
  sum_by-with_value value (e ∷ es) none = by (cmp key e.0) none (sum_by-with_value value es)
    where
      by : (order : Ordering) → cond (is_eq order) (Some e.1) (value_at cmp key es) ≡ None → (value_at cmp key es ≡ None → sum_by weight (with_value cmp key value es) ≡ weight (key, value) + sum_by weight es)
          → sum_by weight (match_ordering order ((key, value) ∷ e ∷ es) ((e.0, value) ∷ es) (e ∷ with_value cmp key value es)) ≡ weight (key, value) + sum_by weight (e ∷ es)
      by Less none later = sum_by-cons weight (key, value) (e ∷ es)
      by Equal none later = absurd (none_some e.1 (sym none))
      by Greater none later = omega (arith, sum_by-cons weight e (with_value cmp key value es), sum_by-cons weight e es, later none)

module _ {K X : Type 0} {cmp : K → K → Ordering} (exact : CmpEqualImpliesEq cmp) (weight : K × X → ℕ) (key : K) where
  -- one entry less
  pub sum_by-without : (value : X) (es : List (K × X)) → value_at cmp key es ≡ Some value → sum_by weight es ≡ weight (key, value) + sum_by weight (without cmp key es)
  sum_by-without value [] there = absurd (none_some value there)
  sum_by-without value (e ∷ es) there = by (is_at (cmp key) e.0) refl there (sum_by-without value es)
    where
      by : (here : Bool) → is_at (cmp key) e.0 ≡ here → cond here (Some e.1) (value_at cmp key es) ≡ Some value → (value_at cmp key es ≡ Some value → sum_by weight es ≡ weight (key, value) + sum_by weight (without cmp key es))
          → sum_by weight (e ∷ es) ≡ weight (key, value) + sum_by weight (cond here es (e ∷ without cmp key es))
      by true is there later =
          sum_by-cons weight e es ∙ ap (λ n. n + sum_by weight es) (λ i. weight (sym (same_key exact key e.0 is) i, same_Some e.1 value there i))
      by false is there later = omega (arith, sum_by-cons weight e es, sum_by-cons weight e (without cmp key es), later there)

  -- an entry changed
  pub sum_by-changed_at : (change : X → X) (value : X) (es : List (K × X)) → value_at cmp key es ≡ Some value → sum_by weight (changed_at cmp key change es) + weight (key, value) ≡ sum_by weight es + weight (key, change value)
  sum_by-changed_at change value [] there = absurd (none_some value there)
  sum_by-changed_at change value (e ∷ es) there = by (is_at (cmp key) e.0) refl there (sum_by-changed_at change value es)
    where
      by : (here : Bool) → is_at (cmp key) e.0 ≡ here → cond here (Some e.1) (value_at cmp key es) ≡ Some value
          → (value_at cmp key es ≡ Some value → sum_by weight (changed_at cmp key change es) + weight (key, value) ≡ sum_by weight es + weight (key, change value))
          → sum_by weight (cond here ((e.0, change e.1) ∷ es) (e ∷ changed_at cmp key change es)) + weight (key, value) ≡ sum_by weight (e ∷ es) + weight (key, change value)
      by true is there later =
          let same : key ≡ e.0 = same_key exact key e.0 is in
          let found : e.1 ≡ value = same_Some e.1 value there in
          let before : weight e ≡ weight (key, value) = λ i. weight (sym same i, found i) in
          let after : weight (e.0, change e.1) ≡ weight (key, change value) = λ i. weight (sym same i, change (found i)) in
          omega (arith, sum_by-cons weight (e.0, change e.1) es, sum_by-cons weight e es, before, after)
      by false is there later = omega (arith, sum_by-cons weight e (changed_at cmp key change es), sum_by-cons weight e es, later there)

module _ {K X : Type 0} {cmp : K → K → Ordering} (exact : CmpEqualImpliesEq cmp) (weight : K × X → ℕ) where
  -- One entry weighs no more than all,
  pub one_weighs : (key : K) (value : X) (es : List (K × X)) → value_at cmp key es ≡ Some value → weight (key, value) ≤ sum_by weight es
  one_weighs key value es there = let all : sum_by weight es ≡ weight (key, value) + sum_by weight (without cmp key es) = sum_by-without exact weight key value es there in omega (arith, all)

  -- and two entries of a map together don't either.
  pub two_weigh : IsTotalOrder cmp → (key other : K) (value worth : X) (es : List (K × X)) → IsMap cmp es → is_at (cmp key) other ≡ false → value_at cmp key es ≡ Some value → value_at cmp other es ≡ Some worth
      → weight (key, value) + weight (other, worth) ≤ sum_by weight es
  two_weigh total key other value worth es rises apart here there =
      let left : value_at cmp other (without cmp key es) ≡ Some worth = value_at-without total key other es rises ∙ ap (λ b. cond b None (value_at cmp other es)) apart ∙ there in
      let all : sum_by weight es ≡ weight (key, value) + sum_by weight (without cmp key es) = sum_by-without exact weight key value es here in
      let rest : weight (other, worth) ≤ sum_by weight (without cmp key es) = one_weighs other worth (without cmp key es) left in
      omega (arith, all, rest)
