-- Sums over the entries of a map that was changed, and changes that are taken back.
use Rattle.std.proofs.Common.{◌≡◌, ℕ, ◌+◌, Bool, true, false, cond, List, [], ◌∷◌, Some, None, refl, ap, sym, ◌∙◌, arith}
use Rattle.std.specs.Prelude.{sum_by}
use Rattle.std.specs.Cmp.{IsTotalOrder}
use Rattle.std.specs.BTreeMap.{is_at}
use Rattle.std.specs.Ordering.{match_ordering, is_eq}
use Rattle.std.specs.declared.cmp.Ordering.{Ordering}
use Rattle.std.specs.declared.cmp.Ordering.TheVariants.{Less, Equal, Greater}
use Rattle.std.proofs.lemmas.Cmp.{tied_itself}
use Rattle.std.proofs.lemmas.List.Sums.{sum_by-cons}
use Rattle.std.proofs.lemmas.Map.Lookups.{CmpEqualImpliesEq}
use Rattle.std.proofs.lemmas.Option.{same_Some, none-some as none_some}
use Rattle.plain_forest.specs.Maps.{value_at, with_value, changed_at}
use Rattle.vol_types.specs.Maps.{without}

equal_of : (o : Ordering) → is_eq o ≡ true → o ≡ Equal
equal_of Less is = absurd (cc)
equal_of Equal is = refl
equal_of Greater is = absurd (cc)

module _ {K X : Type 0} (cmp : K → K → Ordering) (key : K) where
  -- without a key that isn't there
  pub without-none : (es : List (K × X)) → value_at cmp key es ≡ None → without cmp key es ≡ es
  without-none [] none = refl
  without-none (e ∷ es) none = by (is_at (cmp key) e.0) none (without-none es)
    where
      by : (here : Bool) → cond here (Some e.1) (value_at cmp key es) ≡ None → (value_at cmp key es ≡ None → without cmp key es ≡ es) → cond here es (e ∷ without cmp key es) ≡ e ∷ es
      by true none later = absurd (none_some e.1 (sym none))
      by false none later = ap (λ rest. e ∷ rest) (later none)

  -- a value changed twice
  pub changed_at-twice : (first second : X → X) (es : List (K × X)) → changed_at cmp key second (changed_at cmp key first es) ≡ changed_at cmp key (λ x. second (first x)) es
  changed_at-twice first second [] = refl
  changed_at-twice first second (e ∷ es) = by (is_at (cmp key) e.0) refl (changed_at-twice first second es)
    where
      by : (here : Bool) → is_at (cmp key) e.0 ≡ here → changed_at cmp key second (changed_at cmp key first es) ≡ changed_at cmp key (λ x. second (first x)) es
          → changed_at cmp key second (cond here ((e.0, first e.1) ∷ es) (e ∷ changed_at cmp key first es)) ≡ cond here ((e.0, second (first e.1)) ∷ es) (e ∷ changed_at cmp key (λ x. second (first x)) es)
      by true is later = ap (λ b. cond b ((e.0, second (first e.1)) ∷ es) ((e.0, first e.1) ∷ changed_at cmp key second es)) is
      by false is later = ap (λ b. cond b ((e.0, second e.1) ∷ changed_at cmp key first es) (e ∷ changed_at cmp key second (changed_at cmp key first es))) is ∙ ap (λ rest. e ∷ rest) later

  -- a change that leaves the value as it is
  pub changed_at-same : (change : X → X) (es : List (K × X)) → ((x : X) → value_at cmp key es ≡ Some x → change x ≡ x) → changed_at cmp key change es ≡ es
  changed_at-same change [] same = refl
  changed_at-same change (e ∷ es) same = by (is_at (cmp key) e.0) same (changed_at-same change es)
    where
      by : (here : Bool) → ((x : X) → cond here (Some e.1) (value_at cmp key es) ≡ Some x → change x ≡ x) → (((x : X) → value_at cmp key es ≡ Some x → change x ≡ x) → changed_at cmp key change es ≡ es)
          → cond here ((e.0, change e.1) ∷ es) (e ∷ changed_at cmp key change es) ≡ e ∷ es
      by true same later = ap (λ x. (e.0, x) ∷ es) (same e.1 refl)
      by false same later = ap (λ rest. e ∷ rest) (later same)

module _ {K X : Type 0} {cmp : K → K → Ordering} (total : IsTotalOrder cmp) (key : K) (value : X) where
  -- a new value taken away again
  pub without-with_value : (es : List (K × X)) → value_at cmp key es ≡ None → without cmp key (with_value cmp key value es) ≡ es
  without-with_value [] none = ap (λ b. cond b [] ((key, value) ∷ [])) (ap is_eq (tied_itself total key))
  without-with_value (e ∷ es) none = by (cmp key e.0) refl none (without-with_value es)
    where
      by : (order : Ordering) → cmp key e.0 ≡ order → cond (is_eq order) (Some e.1) (value_at cmp key es) ≡ None → (value_at cmp key es ≡ None → without cmp key (with_value cmp key value es) ≡ es)
          → without cmp key (match_ordering order ((key, value) ∷ e ∷ es) ((e.0, value) ∷ es) (e ∷ with_value cmp key value es)) ≡ e ∷ es
      by Less is none later = ap (λ b. cond b (e ∷ es) ((key, value) ∷ without cmp key (e ∷ es))) (ap is_eq (tied_itself total key))
      by Equal is none later = absurd (none_some e.1 (sym none))
      by Greater is none later = ap (λ o. cond (is_eq o) (with_value cmp key value es) (e ∷ without cmp key (with_value cmp key value es))) is ∙ ap (λ rest. e ∷ rest) (later none)

module _ {K X : Type 0} (cmp : K → K → Ordering) (weight : K × X → ℕ) (key : K) where
  -- one entry more
  pub sum_by-with_value : (value : X) (es : List (K × X)) → value_at cmp key es ≡ None → sum_by weight (with_value cmp key value es) ≡ weight (key, value) + sum_by weight es
  sum_by-with_value value [] none = sum_by-cons weight (key, value) []
  sum_by-with_value value (e ∷ es) none = by (cmp key e.0) none (sum_by-with_value value es)
    where
      by : (order : Ordering) → cond (is_eq order) (Some e.1) (value_at cmp key es) ≡ None → (value_at cmp key es ≡ None → sum_by weight (with_value cmp key value es) ≡ weight (key, value) + sum_by weight es)
          → sum_by weight (match_ordering order ((key, value) ∷ e ∷ es) ((e.0, value) ∷ es) (e ∷ with_value cmp key value es)) ≡ weight (key, value) + sum_by weight (e ∷ es)
      by Less none later = sum_by-cons weight (key, value) (e ∷ es)
      by Equal none later = absurd (none_some e.1 (sym none))
      by Greater none later = omega (arith, sum_by-cons weight e (with_value cmp key value es), sum_by-cons weight e es, later none)

module _ {K X : Type 0} {cmp : K → K → Ordering} (exact : CmpEqualImpliesEq cmp) (weight : K × X → ℕ) (key : K) where
  -- one entry less
  pub sum_by-without : (value : X) (es : List (K × X)) → value_at cmp key es ≡ Some value → sum_by weight es ≡ weight (key, value) + sum_by weight (without cmp key es)
  sum_by-without value [] there = absurd (none_some value there)
  sum_by-without value (e ∷ es) there = by (is_at (cmp key) e.0) refl there (sum_by-without value es)
    where
      by : (here : Bool) → is_at (cmp key) e.0 ≡ here → cond here (Some e.1) (value_at cmp key es) ≡ Some value → (value_at cmp key es ≡ Some value → sum_by weight es ≡ weight (key, value) + sum_by weight (without cmp key es))
          → sum_by weight (e ∷ es) ≡ weight (key, value) + sum_by weight (cond here es (e ∷ without cmp key es))
      by true is there later =
          sum_by-cons weight e es ∙ ap (λ n. n + sum_by weight es) (λ i. weight (sym (exact key e.0 (equal_of (cmp key e.0) is)) i, same_Some e.1 value there i))
      by false is there later = omega (arith, sum_by-cons weight e es, sum_by-cons weight e (without cmp key es), later there)

  -- an entry changed
  pub sum_by-changed_at : (change : X → X) (value : X) (es : List (K × X)) → value_at cmp key es ≡ Some value → sum_by weight (changed_at cmp key change es) + weight (key, value) ≡ sum_by weight es + weight (key, change value)
  sum_by-changed_at change value [] there = absurd (none_some value there)
  sum_by-changed_at change value (e ∷ es) there = by (is_at (cmp key) e.0) refl there (sum_by-changed_at change value es)
    where
      by : (here : Bool) → is_at (cmp key) e.0 ≡ here → cond here (Some e.1) (value_at cmp key es) ≡ Some value
          → (value_at cmp key es ≡ Some value → sum_by weight (changed_at cmp key change es) + weight (key, value) ≡ sum_by weight es + weight (key, change value))
          → sum_by weight (cond here ((e.0, change e.1) ∷ es) (e ∷ changed_at cmp key change es)) + weight (key, value) ≡ sum_by weight (e ∷ es) + weight (key, change value)
      by true is there later =
          let same : key ≡ e.0 = exact key e.0 (equal_of (cmp key e.0) is) in
          let found : e.1 ≡ value = same_Some e.1 value there in
          let before : weight e ≡ weight (key, value) = λ i. weight (sym same i, found i) in
          let after : weight (e.0, change e.1) ≡ weight (key, change value) = λ i. weight (sym same i, change (found i)) in
          omega (arith, sum_by-cons weight (e.0, change e.1) es, sum_by-cons weight e es, before, after)
      by false is there later = omega (arith, sum_by-cons weight e (changed_at cmp key change es), sum_by-cons weight e es, later there)
