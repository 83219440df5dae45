-- A value of a map written anew.
use Rattle.std.proofs.Common.{◌≡◌, Bool, true, false, cond, List, [], ◌∷◌, Some, None, refl, ap, sym}
use Rattle.std.specs.Map.{set_value}
use Rattle.std.specs.BTreeMap.{is_at}
use Rattle.std.specs.declared.cmp.Ordering.{Ordering}
use Rattle.std.proofs.lemmas.Option.{same_Some, none-some as none_some}
use Rattle.plain_forest.specs.Maps.{value_at, changed_at}

module _ {K X : Type 0} (cmp : K → K → Ordering) (key : K) (change : X → X) where
  -- the value that is there, changed, is written at its place
  changed_by : (e : K × X) (es : List (K × X)) (value : X) (here : Bool) → cond here (Some e.1) (value_at cmp key es) ≡ Some value
      → (value_at cmp key es ≡ Some value → set_value (is_at (cmp key)) es (change value) ≡ changed_at cmp key change es)
      → cond here ((e.0, change value) ∷ es) (e ∷ set_value (is_at (cmp key)) es (change value)) ≡ cond here ((e.0, change e.1) ∷ es) (e ∷ changed_at cmp key change es)
  changed_by e es value true there later = ap (λ x. (e.0, change x) ∷ es) (sym (same_Some e.1 value there))
  changed_by e es value false there later = ap (λ rest. e ∷ rest) (later there)

  pub set_value-changed_at : (es : List (K × X)) (value : X) → value_at cmp key es ≡ Some value → set_value (is_at (cmp key)) es (change value) ≡ changed_at cmp key change es
  set_value-changed_at [] value there = absurd (none_some value there)
  set_value-changed_at (e ∷ es) value there = changed_by e es value (is_at (cmp key) e.0) there (set_value-changed_at es value)

  unchanged_by : (e : K × X) (es : List (K × X)) (here : Bool) → cond here (Some e.1) (value_at cmp key es) ≡ None
      → (value_at cmp key es ≡ None → changed_at cmp key change es ≡ es)
      → cond here ((e.0, change e.1) ∷ es) (e ∷ changed_at cmp key change es) ≡ e ∷ es
  unchanged_by e es true none later = absurd (none_some e.1 (sym none))
  unchanged_by e es false none later = ap (λ rest. e ∷ rest) (later none)

  -- where there is no value, nothing changes
  pub changed_at-none : (es : List (K × X)) → value_at cmp key es ≡ None → changed_at cmp key change es ≡ es
  changed_at-none [] none = refl
  changed_at-none (e ∷ es) none = unchanged_by e es (is_at (cmp key) e.0) none (changed_at-none es)
