-- A search for an ancestor goes up a chain by links that halve, and ends at the last member that isn't past what it looks for.
use Rattle.std.proofs.Common.{◌≡◌, ℕ, zero, suc, ◌+◌, ◌-◌, ◌*◌, ◌^◌, ◌<◌, ◌≤◌, Bool, true, false, List, [], ◌∷◌, refl, sym, ap, ◌∙◌, subst, arith, ⊎_elim, inl, inr, length, drop, get_or}
use Rattle.std.specs.Prelude.{◌⊎◌, ◌==◌, ◌||◌, nat_eq}
use Rattle.std.specs.List.{list_any}
use Rattle.std.specs.List.Sorted.{IsStrictlySortedBy}
use Rattle.std.specs.Ordering.{nat_cmp}
use Rattle.std.proofs.Math.Nat.{pow-suc}
use Rattle.std.proofs.lemmas.Nat.{pow_pos, mul-le}
use Rattle.std.proofs.lemmas.Bool.{eq-eqb, ne_eqb, cases_lt, cases_eq}
use Rattle.std.proofs.lemmas.List.{get_or-drop}
use Rattle.std.proofs.lemmas.Map.Keys.{sorted_tail, below_from_sorted}
use Rattle.snap_tree.specs.Rising.{none_above}
use Rattle.snap_tree.specs.Places.{past_end, inside}

-- nothing is among rising numbers that stands between two neighbours, or after the last one
none_between : (a : ℕ) (ids : List ℕ) (p : ℕ) → IsStrictlySortedBy nat_cmp ids → p < length ids → get_or ids p 0 < a → (length ids ≤ suc p) ⊎ (a < get_or ids (suc p) 0) → list_any (nat_eq a) ids ≡ false
none_between a [] p rises lt low next = refl
none_between a (x ∷ ids) zero rises lt low next = ap (λ b. b || list_any (nat_eq a) ids) (ne_eqb a x (λ same. omega (arith, low, same))) ∙ rest ids (sorted_tail nat_cmp x ids rises) next
  where
    rest : (ids : List ℕ) → IsStrictlySortedBy nat_cmp ids → (length (x ∷ ids) ≤ 1) ⊎ (a < get_or ids 0 0) → list_any (nat_eq a) ids ≡ false
    rest [] rises next = refl
    rest (y ∷ ids) rises (inl end) = absurd (omega (arith, end))
    rest (y ∷ ids) rises (inr up) = none_above a y ids rises up
none_between a (x ∷ ids) (suc p) rises lt low next =
    let up : x < get_or ids p 0 = below_from_sorted (x ∷ ids) 0 (suc p) 0 rises (omega arith) lt in
    ap (λ b. b || list_any (nat_eq a) ids) (ne_eqb a x (λ same. omega (arith, up, low, same)))
    ∙ none_between a ids p (sorted_tail nat_cmp x ids rises) (omega (arith, lt)) low (⊎_elim (λ (end : length (x ∷ ids) ≤ suc (suc p)). inl (omega (arith, end))) (λ (up : a < get_or (x ∷ ids) (suc (suc p)) 0). inr up) next)

-- a number is among those of a list at whose place it stands
among : (a : ℕ) (ids : List ℕ) (p : ℕ) → p < length ids → get_or ids p 0 ≡ a → list_any (nat_eq a) ids ≡ true
among a [] p lt is = absurd (omega (arith, lt))
among a (x ∷ ids) zero lt is = ap (λ b. b || list_any (nat_eq a) ids) (eq-eqb a x (sym is))
among a (x ∷ ids) (suc p) lt is = ap (λ b. nat_eq a x || b) (among a ids p (omega (arith, lt)) is) ∙ last (nat_eq a x)
  where
    last : (b : Bool) → (b || true) ≡ true
    last true = refl
    last false = refl

-- The search has come to a member that isn't above what it looks for, what it looks for isn't as far up as the next jump,
-- and it has followed few links.
pub record IsWalk (ids : List ℕ) (a at jump steps : ℕ) : Type 0 where
  pub place : ℕ
  pub within : place < length ids
  pub here : get_or ids place 0 ≡ at
  pub low : at ≤ a
  pub short : (length ids ≤ place + jump) ⊎ (a < get_or ids (place + jump) 0)
  pub few : jump * 2 ^ steps ≤ place + jump

module _ (ids : List ℕ) (a at jump half steps above : ℕ) (rises : IsStrictlySortedBy nat_cmp ids) (doubled : jump ≡ half + half) (some : 0 < half) (walk : IsWalk ids a at jump steps) (leads : above ≡ get_or (drop walk.place ids) half 0) where
  stands : above ≡ get_or ids (walk.place + half) 0
  stands = leads ∙ get_or-drop walk.place ids half 0

  fewer : half * 2 ^ steps + half * 2 ^ steps ≤ walk.place + half + half
  fewer = let h : (half + half) * 2 ^ steps ≤ walk.place + (half + half) = subst (λ n. n * 2 ^ steps ≤ walk.place + n) doubled walk.few in omega (arith, h)

  -- a link that doesn't lead past it is followed
  pub follow : (above ≡ 0 → ⊥) → above ≤ a → IsWalk ids a above half (steps + 1)
  follow there low = record {
    place = walk.place + half;
    within = inside ids (walk.place + half) (λ zero. there (stands ∙ zero));
    here = sym stands;
    low = low;
    short = let e : walk.place + jump ≡ walk.place + half + half = omega (arith, doubled) in subst (λ n. (length ids ≤ n) ⊎ (a < get_or ids n 0)) e walk.short;
    few = let p : 2 ^ (steps + 1) ≡ 2 ^ steps * 2 = ap (λ n. 2 ^ n) (omega arith) ∙ pow-suc 2 steps in let h : half * 2 ^ (steps + 1) ≡ half * (2 ^ steps * 2) = ap (λ n. half * n) p in omega (arith, fewer, h);
  }

  -- and one that does isn't
  pub stay : (above ≡ 0) ⊎ (a < above) → IsWalk ids a at half steps
  stay past = record {
    place = walk.place;
    within = walk.within;
    here = walk.here;
    low = walk.low;
    short = ⊎_elim (λ (none : above ≡ 0). inl (past_end ids (walk.place + half) rises (omega (arith, some)) (sym stands ∙ none))) (λ (up : a < above). inr (subst (λ n. a < n) stands up)) past;
    few = omega (arith, fewer);
  }

-- where the search ends, it tells whether what it looks for is among the members
pub tells : (ids : List ℕ) (a at jump steps : ℕ) → IsStrictlySortedBy nat_cmp ids → IsWalk ids a at jump steps → (jump ≡ 1) ⊎ (at ≡ a) → (at == a) ≡ list_any (nat_eq a) ids
tells ids a at jump steps rises walk end = ⊎_elim same other (cases_eq at a)
  where
    same : at ≡ a → (at == a) ≡ list_any (nat_eq a) ids
    same is = eq-eqb at a is ∙ sym (among a ids walk.place walk.within (walk.here ∙ is))

    other : (at ≡ a → ⊥) → (at == a) ≡ list_any (nat_eq a) ids
    other differs =
        let one : jump ≡ 1 = ⊎_elim (λ (one : jump ≡ 1). one) (λ (is : at ≡ a). absurd (differs is)) end in
        let less : at < a = ⊎_elim (λ (lt : at < a). lt) (λ (le : a ≤ at). absurd (differs (omega (arith, le, walk.low)))) (cases_lt at a) in
        ne_eqb at a differs ∙ sym (none_between a ids walk.place rises walk.within (subst (λ n. n < a) (sym walk.here) less) (let next : walk.place + jump ≡ suc walk.place = omega (arith, one) in subst (λ n. (length ids ≤ n) ⊎ (a < get_or ids n 0)) next walk.short))

-- it has followed at most as many links as the logarithm of the number of members
pub few_steps : (ids : List ℕ) (a at jump steps : ℕ) → 0 < jump → IsWalk ids a at jump steps → 2 ^ steps ≤ length ids - 1 + 1
few_steps ids a at jump steps some walk =
    let some_steps : 0 < 2 ^ steps = pow_pos steps in
    let h : 1 * (2 ^ steps - 1) ≤ jump * (2 ^ steps - 1) = mul-le 1 (2 ^ steps - 1) jump (2 ^ steps - 1) (omega (arith, some)) (omega arith) in
    let less : 2 ^ steps ≡ 2 ^ steps - 1 + 1 = omega (arith, some_steps) in
    let split : jump * 2 ^ steps ≡ jump * (2 ^ steps - 1 + 1) = ap (λ n. jump * n) less in
    omega (arith, h, split, walk.few, walk.within, some_steps)

-- the search begins at the id itself
pub begin : (ids : List ℕ) (a id jump : ℕ) → (0 < length ids) × (get_or ids 0 0 ≡ id) → id ≤ a → id + length ids ≤ jump → IsWalk ids a id jump 0
begin ids a id jump first low fits = record { place = 0; within = first.0; here = first.1; low = low; short = inl (omega (arith, fits)); few = omega arith }

-- no smaller number is among rising ones
pub none_below : (a id : ℕ) (ids : List ℕ) → IsStrictlySortedBy nat_cmp ids → (0 < length ids) × (get_or ids 0 0 ≡ id) → a < id → list_any (nat_eq a) ids ≡ false
none_below a id [] rises first lt = refl
none_below a id (x ∷ ids) rises first lt = none_above a x ids rises (omega (arith, lt, first.1))
