-- Which births are pinned once further ones are, and how many.
use Rattle.std.proofs.Common.{◌≡◌, ℕ, suc, ◌+◌, ◌<◌, ◌⊎◌, inl, inr, ⊎_elim, Bool, true, false, cond, Option, Some, None, List, [], ◌∷◌, ◌++◌, take, get_or, length, refl, sym, ap, ◌∙◌, subst, arith}
use Rattle.std.specs.Prelude.{◌||◌, IsSome, is_some, option_map, unwrap_or, sum_by}
use Rattle.std.specs.BTreeMap.{is_at}
use Rattle.std.specs.List.{fold}
use Rattle.std.specs.List.Sorted.{IsStrictlySortedBy}
use Rattle.std.specs.Map.{values_of}
use Rattle.std.specs.Ordering.{nat_cmp}
use Rattle.std.proofs.lemmas.Bool.{true≢false}
use Rattle.std.proofs.lemmas.Cmp.{nat_cmp_total}
use Rattle.std.proofs.lemmas.List.{take_more}
use Rattle.std.proofs.lemmas.Map.Entries.{length-values_of, sum_by-insert_entry}
use Rattle.birth_index.specs.NameLaws.{birth_itself, one_birth}
use Rattle.dirty_nodes.specs.Dirty.{with_pins}
use Rattle.pin_list.specs.Pins.{smaller, with_pin}
use Rattle.vol_types.specs.MapLaws.{IsMap-with_value, value_at-with_value}
use Rattle.vol_types.specs.Maps.{IsMap, value_at}
use Rattle.dirty_nodes.proofs.Members.{IsIn}

-- whether a birth is pinned
abbrev pub is_pinned : ℕ → List (ℕ × ℕ) → Bool
is_pinned birth pins = is_some (value_at nat_cmp birth pins)

or_left : (x y : Bool) → x ≡ true → (x || y) ≡ true
or_left true y is = refl
or_left false y is = absurd (true≢false (sym is))

or_right : (x y : Bool) → y ≡ true → (x || y) ≡ true
or_right true y is = refl
or_right false y is = is

-- after one more pin
pub look-pin : (birth seq b : ℕ) (pins : List (ℕ × ℕ)) → is_pinned b (with_pin birth seq pins) ≡ (is_at (nat_cmp birth) b || is_pinned b pins)
look-pin birth seq b pins =
    ap is_some (value_at-with_value nat_cmp_total birth (smaller seq (value_at nat_cmp birth pins)) b pins)
    ∙ by (is_at (nat_cmp birth) b) (smaller seq (value_at nat_cmp birth pins)) (value_at nat_cmp b pins)
  where
    by : (t : Bool) (v : ℕ) (o : Option ℕ) → is_some (cond t (Some v) o) ≡ (t || is_some o)
    by true v o = refl
    by false v o = refl

pub pinned-stays : (seq : ℕ) (births : List ℕ) (pins : List (ℕ × ℕ)) (b : ℕ) → IsSome (value_at nat_cmp b pins) → IsSome (value_at nat_cmp b (with_pins seq births pins))
pinned-stays seq [] pins b is = is
pinned-stays seq (birth ∷ births) pins b is = pinned-stays seq births (with_pin birth seq pins) b (look-pin birth seq b pins ∙ or_right (is_at (nat_cmp birth) b) (is_pinned b pins) is)

pub pinned-new : (seq : ℕ) (births : List ℕ) (pins : List (ℕ × ℕ)) (b : ℕ) → IsIn b births → IsSome (value_at nat_cmp b (with_pins seq births pins))
pinned-new seq [] pins b is = absurd is
pinned-new seq (birth ∷ births) pins b is =
    ⊎_elim
    (λ (same : b ≡ birth). pinned-stays seq births (with_pin birth seq pins) b (look-pin birth seq b pins ∙ or_left (is_at (nat_cmp birth) b) (is_pinned b pins) (subst (λ (x : ℕ). is_at (nat_cmp birth) x ≡ true) (sym same) (birth_itself birth))))
    (λ (later : IsIn b births). pinned-new seq births (with_pin birth seq pins) b later) is

pub pinned-cases : (seq : ℕ) (births : List ℕ) (pins : List (ℕ × ℕ)) (b : ℕ) → IsSome (value_at nat_cmp b (with_pins seq births pins)) → IsSome (value_at nat_cmp b pins) ⊎ IsIn b births
pinned-cases seq [] pins b is = inl is
pinned-cases seq (birth ∷ births) pins b is =
    ⊎_elim (λ (before : IsSome (value_at nat_cmp b (with_pin birth seq pins))). first (is_at (nat_cmp birth) b) refl (sym (look-pin birth seq b pins) ∙ before))
    (λ (later : IsIn b births). inr (inr later)) (pinned-cases seq births (with_pin birth seq pins) b is)
  where
    first : (t : Bool) → is_at (nat_cmp birth) b ≡ t → (t || is_pinned b pins) ≡ true → IsSome (value_at nat_cmp b pins) ⊎ ((b ≡ birth) ⊎ IsIn b births)
    first true at some = inr (inl (sym (one_birth birth b at)))
    first false at some = inl some

-- the births still rise
pub rises-pin : (birth seq : ℕ) (pins : List (ℕ × ℕ)) → IsMap nat_cmp pins → IsMap nat_cmp (with_pin birth seq pins)
rises-pin birth seq pins rises = IsMap-with_value nat_cmp_total birth (smaller seq (value_at nat_cmp birth pins)) pins rises

pub rises-pins : (seq : ℕ) (births : List ℕ) (pins : List (ℕ × ℕ)) → IsMap nat_cmp pins → IsMap nat_cmp (with_pins seq births pins)
rises-pins seq [] pins rises = rises
rises-pins seq (birth ∷ births) pins rises = rises-pins seq births (with_pin birth seq pins) (rises-pin birth seq pins rises)

pub rises-to : (seq : ℕ) (births : List ℕ) (pins new : List (ℕ × ℕ)) → new ≡ with_pins seq births pins → IsMap nat_cmp pins → IsMap nat_cmp new
rises-to seq births pins new is rises = subst (IsMap nat_cmp) (sym is) (rises-pins seq births pins rises)

pub none_rise : IsMap {K = ℕ} {X = ℕ} nat_cmp []
unfolding IsStrictlySortedBy
none_rise = tt

ones_from : (n : ℕ) (values : List ℕ) → fold (λ (a x : ℕ). a + 1) n values ≡ n + length values
ones_from n [] = omega arith
ones_from n (v ∷ vs) = ones_from (n + 1) vs ∙ more n (length vs)
  where
    more : (n k : ℕ) → n + 1 + k ≡ n + suc k
    more n k = omega arith

ones : (pins : List (ℕ × ℕ)) → sum_by (λ (x : ℕ). 1) (values_of pins) ≡ length pins
ones pins = ones_from 0 (values_of pins) ∙ none (length (values_of pins)) ∙ length-values_of pins
  where
    none : (n : ℕ) → 0 + n ≡ n
    none n = omega arith

-- a pin adds one where the birth has none
pub count-pin : (birth seq : ℕ) (pins : List (ℕ × ℕ)) → IsMap nat_cmp pins → length (with_pin birth seq pins) ≡ cond (is_pinned birth pins) (length pins) (length pins + 1)
count-pin birth seq pins rises =
    by (value_at nat_cmp birth pins) (sum_by-insert_entry (λ (x : ℕ). 1) nat_cmp_total pins birth (smaller seq (value_at nat_cmp birth pins)) rises)
  where
    by : (o : Option ℕ) → sum_by (λ (x : ℕ). 1) (values_of (with_pin birth seq pins)) + unwrap_or (option_map (λ (x : ℕ). 1) o) 0 ≡ sum_by (λ (x : ℕ). 1) (values_of pins) + 1
        → length (with_pin birth seq pins) ≡ cond (is_some o) (length pins) (length pins + 1)
    by None is = omega (arith, is, ones (with_pin birth seq pins), ones pins)
    by (Some x) is = omega (arith, is, ones (with_pin birth seq pins), ones pins)

pins-append : (seq : ℕ) (one other : List ℕ) (pins : List (ℕ × ℕ)) → with_pins seq (one ++ other) pins ≡ with_pins seq other (with_pins seq one pins)
pins-append seq [] other pins = refl
pins-append seq (birth ∷ one) other pins = pins-append seq one other (with_pin birth seq pins)

-- Of the first births those are fresh that have no mark, and with the marks they are as many as are marked with all of the first.
pub record IsCounting (seq : ℕ) (births : List ℕ) (marks fresh : List (ℕ × ℕ)) (place : ℕ) : Type 0 where
  pub rises : IsMap nat_cmp fresh
  pub count : length marks + length fresh ≡ length (with_pins seq (take place births) marks)
  pub known : (b : ℕ) → is_pinned b (with_pins seq (take place births) marks) ≡ (is_pinned b marks || is_pinned b fresh)

or_none : (b : Bool) → b ≡ (b || false)
or_none true = refl
or_none false = refl

pub counting_none : (seq : ℕ) (births : List ℕ) (marks fresh : List (ℕ × ℕ)) → fresh ≡ [] → IsCounting seq births marks fresh 0
counting_none seq births marks fresh none = subst (λ (f : List (ℕ × ℕ)). IsCounting seq births marks f 0) (sym none) (record { rises = none_rise; count = omega arith; known = λ b. or_none (is_pinned b marks) })

module _ (seq : ℕ) (births : List ℕ) (marks fresh : List (ℕ × ℕ)) (place birth : ℕ) (rise : IsMap nat_cmp marks) (lt : place < length births) (is : birth ≡ get_or births place birth) (so_far : IsCounting seq births marks fresh place) where
  next : with_pins seq (take (place + 1) births) marks ≡ with_pin birth seq (with_pins seq (take place births) marks)
  next =
      ap (λ (bs : List ℕ). with_pins seq bs marks) (take_more births place birth lt ∙ ap (λ (b : ℕ). take place births ++ b ∷ []) (sym is)) ∙ pins-append seq (take place births) (birth ∷ []) marks

  look-next : (b : ℕ) → is_pinned b (with_pins seq (take (place + 1) births) marks) ≡ (is_at (nat_cmp birth) b || (is_pinned b marks || is_pinned b fresh))
  look-next b = ap (is_pinned b) next ∙ look-pin birth seq b (with_pins seq (take place births) marks) ∙ ap (λ t. is_at (nat_cmp birth) b || t) (so_far.known b)

  count-next : (known : Bool) → (is_pinned birth marks || is_pinned birth fresh) ≡ known
      → length (with_pins seq (take (place + 1) births) marks) ≡ cond known (length marks + length fresh) (length marks + length fresh + 1)
  count-next known test =
      ap length next ∙ count-pin birth seq (with_pins seq (take place births) marks) (rises-pins seq (take place births) marks rise)
      ∙ ap (λ t. cond t (length (with_pins seq (take place births) marks)) (length (with_pins seq (take place births) marks) + 1)) (so_far.known birth ∙ test)
      ∙ ap (λ n. cond known n (n + 1)) (sym so_far.count)

  -- one that is marked
  pub counting_passed : is_pinned birth marks ≡ true → IsCounting seq births marks fresh (place + 1)
  counting_passed marked = record {
    rises = so_far.rises;
    count = sym (count-next true (or_left (is_pinned birth marks) (is_pinned birth fresh) marked));
    known = λ b. look-next b ∙ by b (is_at (nat_cmp birth) b) refl;
  }
    where
      by : (b : ℕ) (t : Bool) → is_at (nat_cmp birth) b ≡ t → (t || (is_pinned b marks || is_pinned b fresh)) ≡ (is_pinned b marks || is_pinned b fresh)
      by b false at = refl
      by b true at = sym (or_left (is_pinned b marks) (is_pinned b fresh) (subst (λ (x : ℕ). is_pinned x marks ≡ true) (one_birth birth b at) marked))

  -- and one that isn't
  pub counting_more : is_pinned birth marks ≡ false → (new : List (ℕ × ℕ)) → new ≡ with_pin birth seq fresh → IsCounting seq births marks new (place + 1)
  counting_more unmarked new made = subst (λ (f : List (ℕ × ℕ)). IsCounting seq births marks f (place + 1)) (sym made) (record {
    rises = rises-pin birth seq fresh so_far.rises;
    count = counted (is_pinned birth fresh) refl;
    known = λ b. look-next b ∙ turned (is_at (nat_cmp birth) b) (is_pinned b marks) (is_pinned b fresh) ∙ ap (λ t. is_pinned b marks || t) (sym (look-pin birth seq b fresh));
  })
    where
      turned : (x y z : Bool) → (x || (y || z)) ≡ (y || (x || z))
      turned true true z = refl
      turned true false z = refl
      turned false y z = refl

      counted : (t : Bool) → is_pinned birth fresh ≡ t → length marks + length (with_pin birth seq fresh) ≡ length (with_pins seq (take (place + 1) births) marks)
      counted true test =
          ap (λ n. length marks + n) (count-pin birth seq fresh so_far.rises ∙ ap (λ t. cond t (length fresh) (length fresh + 1)) test) ∙ sym (count-next true (ap (λ t. t || is_pinned birth fresh) unmarked ∙ test))
      counted false test =
          let e : length (with_pin birth seq fresh) ≡ length fresh + 1 = count-pin birth seq fresh so_far.rises ∙ ap (λ t. cond t (length fresh) (length fresh + 1)) test in
          let f : length (with_pins seq (take (place + 1) births) marks) ≡ length marks + length fresh + 1 = count-next false (ap (λ t. t || is_pinned birth fresh) unmarked ∙ test) in
          omega (arith, e, f)
