-- How chains go on: with that of the parent, up to the root, and rising.
use Rattle.std.proofs.Common.{◌≡◌, ℕ, zero, suc, ◌<◌, ◌≤◌, Bool, true, false, cond, Option, Some, None, [], ◌∷◌, refl, sym, ap, ◌∙◌, subst, arith, ⊎_elim, inl, inr}
use Rattle.std.specs.Prelude.{◌⊎◌, ◌==◌, ◌||◌, nat_eq, is_some, IsSome}
use Rattle.std.specs.List.{AllByRecursion, list_any}
use Rattle.std.specs.Map.{keys_of}
use Rattle.std.specs.BTreeMap.{is_at}
use Rattle.std.specs.Cmp.{nat_cmp_is}
use Rattle.std.specs.List.Sorted.{IsStrictlySortedBy}
use Rattle.std.specs.declared.cmp.Ordering.{Ordering}
use Rattle.std.specs.Ordering.{nat_cmp, match_ordering}
use Rattle.std.specs.declared.cmp.Ordering.TheVariants.{Less, Equal, Greater}
use Rattle.std.proofs.lemmas.Bool.Decides.{nat_tests}
use Rattle.std.proofs.lemmas.Bool.{eqb-true, eq-eqb, ne_eqb}
use Rattle.std.proofs.lemmas.Cmp.{ranked}
use Rattle.std.proofs.lemmas.Map.Keys.{sorted_head, sorted_tail}
use Rattle.std.proofs.lemmas.Option.{same_Some, none-some as none_some}
use Rattle.vol_types.specs.Maps.{IsMap, value_at, with_value}
use Rattle.vol_types.specs.declared.values.Snap.{Snap}
use Rattle.snap_tree.specs.Snaps.{Snaps, chain_of, chain_above}

pub same_test : (id key : ℕ) → is_at (nat_cmp id) key ≡ (key == id)
same_test id key = grind (arith, nat_tests)

-- All ids are above this one.
abbrev pub AllAbove : ℕ → Snaps → Type 0
AllAbove k snaps = AllByRecursion (λ y. k < y) (keys_of snaps)

all_above : (k : ℕ) (snaps : Snaps) → AllByRecursion (λ y. nat_cmp k y ≡ Less) (keys_of snaps) → AllAbove k snaps
all_above k [] all = tt
all_above k (e ∷ snaps) all = (ranked k e.0 Less (sym all.0), all_above k snaps all.1)

pub first_least : (e : ℕ × Snap) (snaps : Snaps) → IsMap nat_cmp (e ∷ snaps) → AllAbove e.0 snaps
first_least e snaps rises = all_above e.0 snaps (sorted_head nat_cmp e.0 (keys_of snaps) rises)

pub others_rise : (e : ℕ × Snap) (snaps : Snaps) → IsMap nat_cmp (e ∷ snaps) → IsMap nat_cmp snaps
others_rise e snaps rises = sorted_tail nat_cmp e.0 (keys_of snaps) rises

-- what is found among greater ids is greater
pub found_above : (k id : ℕ) (snaps : Snaps) (snap : Snap) → AllAbove k snaps → value_at nat_cmp id snaps ≡ Some snap → k < id
found_above k id [] snap all is = absurd (none_some snap is)
found_above k id (e ∷ snaps) snap all is = here (e.0 == id) refl (subst (λ b. cond b (Some e.1) (value_at nat_cmp id snaps) ≡ Some snap) (same_test id e.0) is) (found_above k id snaps snap all.1)
  where
    here : (b : Bool) → (e.0 == id) ≡ b → cond b (Some e.1) (value_at nat_cmp id snaps) ≡ Some snap → (value_at nat_cmp id snaps ≡ Some snap → k < id) → k < id
    here true same found later = omega (arith, all.0, eqb-true e.0 id same)
    here false other found later = later found

-- an id that isn't the first one is looked for among the others
pub past : (e : ℕ × Snap) (snaps : Snaps) (id : ℕ) → (e.0 == id) ≡ false → chain_of (e ∷ snaps) id ≡ chain_of snaps id
past e snaps id other = ap (λ b. cond b (id ∷ chain_of snaps e.1.parent) (chain_of snaps id)) other

-- an id that is too small to be there has no chain
chain_of-above : (k id : ℕ) (snaps : Snaps) → id ≤ k → AllAbove k snaps → chain_of snaps id ≡ []
chain_of-above k id [] le all = refl
chain_of-above k id (e ∷ snaps) le all = past e snaps id (ne_eqb e.0 id (omega (arith, all.0, le))) ∙ chain_of-above k id snaps le all.1

-- an id that isn't there has no chain
pub chain_of-none : (snaps : Snaps) (id : ℕ) → value_at nat_cmp id snaps ≡ None → chain_of snaps id ≡ []
chain_of-none [] id none = refl
chain_of-none (e ∷ snaps) id none = here (e.0 == id) (subst (λ b. cond b (Some e.1) (value_at nat_cmp id snaps) ≡ None) (same_test id e.0) none) (chain_of-none snaps id)
  where
    here : (b : Bool) → cond b (Some e.1) (value_at nat_cmp id snaps) ≡ None → (value_at nat_cmp id snaps ≡ None → chain_of snaps id ≡ []) → cond b (id ∷ chain_of snaps e.1.parent) (chain_of snaps id) ≡ []
    here true found later = absurd (none_some e.1 (sym found))
    here false found later = later found

-- the chain of a parent is the same with one smaller id more
above_past : (e : ℕ × Snap) (snaps : Snaps) (parent : ℕ) → (parent ≡ 0) ⊎ (e.0 < parent) → chain_above (e ∷ snaps) parent ≡ chain_above snaps parent
above_past e snaps parent (inl none) = ap (λ b. cond b [] (chain_of (e ∷ snaps) parent)) (eq-eqb parent 0 none) ∙ sym (ap (λ b. cond b [] (chain_of snaps parent)) (eq-eqb parent 0 none))
above_past e snaps parent (inr lt) = ap (λ ids. cond (parent == 0) [] ids) (past e snaps parent (ne_eqb e.0 parent (omega (arith, lt))))

-- the chain of a parent among the ids above its child
above_all : (k : ℕ) (snaps : Snaps) (parent : ℕ) → AllAbove k snaps → chain_of snaps parent ≡ chain_above snaps parent
above_all k snaps zero all = chain_of-above k zero snaps (omega arith) all
above_all k snaps (suc parent) all = sym (ap (λ b. cond b [] (chain_of snaps (suc parent))) (ne_eqb (suc parent) 0 (omega arith)))

-- the chain of an id that is there is the id and the chain of its parent
pub chain_of-step : (snaps : Snaps) (id : ℕ) (snap : Snap) → IsMap nat_cmp snaps → value_at nat_cmp id snaps ≡ Some snap → (snap.parent ≡ 0) ⊎ (id < snap.parent) → chain_of snaps id ≡ id ∷ chain_above snaps snap.parent
chain_of-step [] id snap rises is above = absurd (none_some snap is)
chain_of-step (e ∷ snaps) id snap rises is above =
    here (e.0 == id) refl (subst (λ b. cond b (Some e.1) (value_at nat_cmp id snaps) ≡ Some snap) (same_test id e.0) is) (λ found. chain_of-step snaps id snap (others_rise e snaps rises) found above)
  where
    here : (b : Bool) → (e.0 == id) ≡ b → cond b (Some e.1) (value_at nat_cmp id snaps) ≡ Some snap → (value_at nat_cmp id snaps ≡ Some snap → chain_of snaps id ≡ id ∷ chain_above snaps snap.parent)
        → cond b (id ∷ chain_of snaps e.1.parent) (chain_of snaps id) ≡ id ∷ chain_above (e ∷ snaps) snap.parent
    here true same found later =
        let first : e.0 ≡ id = eqb-true e.0 id same in
        let higher : (snap.parent ≡ 0) ⊎ (e.0 < snap.parent) = subst (λ n. (snap.parent ≡ 0) ⊎ (n < snap.parent)) (sym first) above in
        ap (λ (s : Snap). id ∷ chain_of snaps s.parent) (same_Some e.1 snap found)
        ∙ ap (λ ids. id ∷ ids) (above_all e.0 snaps snap.parent (first_least e snaps rises) ∙ sym (above_past e snaps snap.parent higher))
    here false other found later =
        let lt = found_above e.0 id snaps snap (first_least e snaps rises) found in
        let higher : (snap.parent ≡ 0) ⊎ (e.0 < snap.parent) = ⊎_elim (λ (none : snap.parent ≡ 0). inl none) (λ (up : id < snap.parent). inr (omega (arith, lt, up))) above in
        later found ∙ ap (λ ids. id ∷ ids) (sym (above_past e snaps snap.parent higher))

-- an id that is there stands in its own chain
pub first_in_chain : (snaps : Snaps) (id : ℕ) → IsSome (value_at nat_cmp id snaps) → list_any (nat_eq id) (chain_of snaps id) ≡ true
first_in_chain [] id there = absurd (cc)
first_in_chain (e ∷ snaps) id there = here (e.0 == id) (subst (λ b. IsSome (cond b (Some e.1) (value_at nat_cmp id snaps))) (same_test id e.0) there) (first_in_chain snaps id)
  where
    here : (b : Bool) → IsSome (cond b (Some e.1) (value_at nat_cmp id snaps)) → (IsSome (value_at nat_cmp id snaps) → list_any (nat_eq id) (chain_of snaps id) ≡ true) → list_any (nat_eq id) (cond b (id ∷ chain_of snaps e.1.parent) (chain_of snaps id)) ≡ true
    here true there later = ap (λ b. b || list_any (nat_eq id) (chain_of snaps e.1.parent)) (eq-eqb id id refl)
    here false there later = later there

-- nothing stands in the chain of an id that is missing
pub none_in_chain : (snaps : Snaps) (a id : ℕ) → is_some (value_at nat_cmp id snaps) ≡ false → list_any (nat_eq a) (chain_of snaps id) ≡ false
none_in_chain snaps a id missing = ap (list_any (nat_eq a)) (chain_of-none snaps id (absent (value_at nat_cmp id snaps) missing))
  where
    absent : (o : Option Snap) → is_some o ≡ false → o ≡ None
    absent None is = refl
    absent (Some snap) is = absurd (cc)

-- an id stands in the chain of a parent that it is
pub above_in_chain : (snaps : Snaps) (a above : ℕ) → (above ≡ 0 → ⊥) → (above ≡ 0) ⊎ IsSome (value_at nat_cmp above snaps) → above ≡ a → list_any (nat_eq a) (chain_above snaps above) ≡ true
above_in_chain snaps a above some has is =
    ap (λ b. list_any (nat_eq a) (cond b [] (chain_of snaps above))) (ne_eqb above 0 some)
    ∙ ⊎_elim (λ (none : above ≡ 0). absurd (some none)) (λ (there : IsSome (value_at nat_cmp above snaps)). subst (λ n. list_any (nat_eq n) (chain_of snaps above) ≡ true) is (first_in_chain snaps above there)) has

-- all ids of a chain are above what all ids are above
pub chain_above_all : (k id : ℕ) (snaps : Snaps) → AllAbove k snaps → AllByRecursion (λ y. nat_cmp k y ≡ Less) (chain_of snaps id)
chain_above_all k id [] all = tt
chain_above_all k id (e ∷ snaps) all = here (e.0 == id) refl (chain_above_all k e.1.parent snaps all.1) (chain_above_all k id snaps all.1)
  where
    here : (b : Bool) → (e.0 == id) ≡ b → AllByRecursion (λ y. nat_cmp k y ≡ Less) (chain_of snaps e.1.parent) → AllByRecursion (λ y. nat_cmp k y ≡ Less) (chain_of snaps id)
        → AllByRecursion (λ y. nat_cmp k y ≡ Less) (cond b (id ∷ chain_of snaps e.1.parent) (chain_of snaps id))
    here true same above later = (sym (nat_cmp_is k id Less (omega (arith, all.0, eqb-true e.0 id same))), above)
    here false other above later = later

-- the ids of a chain rise
pub chain_of-rises : (snaps : Snaps) (id : ℕ) → IsMap nat_cmp snaps → IsStrictlySortedBy nat_cmp (chain_of snaps id)
unfolding IsStrictlySortedBy
chain_of-rises [] id rises = tt
chain_of-rises (e ∷ snaps) id rises =
    here (e.0 == id) refl (chain_of-rises snaps e.1.parent (others_rise e snaps rises)) (chain_of-rises snaps id (others_rise e snaps rises))
  where
    here : (b : Bool) → (e.0 == id) ≡ b → IsStrictlySortedBy nat_cmp (chain_of snaps e.1.parent) → IsStrictlySortedBy nat_cmp (chain_of snaps id) → IsStrictlySortedBy nat_cmp (cond b (id ∷ chain_of snaps e.1.parent) (chain_of snaps id))
    here true same above later = (subst (λ n. AllByRecursion (λ y. nat_cmp n y ≡ Less) (chain_of snaps e.1.parent)) (eqb-true e.0 id same) (chain_above_all e.0 e.1.parent snaps (first_least e snaps rises)), above)
    here false other above later = later

-- a record that names the same parent leaves all chains as they are
pub chain_of-same_parent : (snaps : Snaps) (id : ℕ) (old new : Snap) (x : ℕ) → IsMap nat_cmp snaps → value_at nat_cmp id snaps ≡ Some old → new.parent ≡ old.parent → chain_of (with_value nat_cmp id new snaps) x ≡ chain_of snaps x
chain_of-same_parent [] id old new x rises is same = absurd (none_some old is)
chain_of-same_parent (e ∷ snaps) id old new x rises is same =
    here (e.0 == id) refl (subst (λ b. cond b (Some e.1) (value_at nat_cmp id snaps) ≡ Some old) (same_test id e.0) is) (λ found y. chain_of-same_parent snaps id old new y (others_rise e snaps rises) found same)
  where
    here : (b : Bool) → (e.0 == id) ≡ b → cond b (Some e.1) (value_at nat_cmp id snaps) ≡ Some old → (value_at nat_cmp id snaps ≡ Some old → (y : ℕ) → chain_of (with_value nat_cmp id new snaps) y ≡ chain_of snaps y)
        → chain_of (with_value nat_cmp id new (e ∷ snaps)) x ≡ chain_of (e ∷ snaps) x
    here true at found later =
        let parent : new.parent ≡ e.1.parent = same ∙ ap (λ (s : Snap). s.parent) (sym (same_Some e.1 old found)) in
        ap (λ o. chain_of (match_ordering o ((id, new) ∷ e ∷ snaps) ((e.0, new) ∷ snaps) (e ∷ with_value nat_cmp id new snaps)) x) (sym (nat_cmp_is id e.0 Equal (sym (eqb-true e.0 id at))))
        ∙ ap (λ n. cond (e.0 == x) (x ∷ chain_of snaps n) (chain_of snaps x)) parent
    here false other found later =
        let lt = found_above e.0 id snaps old (first_least e snaps rises) found in
        ap (λ o. chain_of (match_ordering o ((id, new) ∷ e ∷ snaps) ((e.0, new) ∷ snaps) (e ∷ with_value nat_cmp id new snaps)) x) (sym (nat_cmp_is id e.0 Greater lt))
        ∙ ap (λ ids. cond (e.0 == x) (x ∷ ids) (chain_of (with_value nat_cmp id new snaps) x)) (later found e.1.parent)
        ∙ ap (λ ids. cond (e.0 == x) (x ∷ chain_of snaps e.1.parent) ids) (later found x)

-- an id below all others goes before them
pub with_value-below : (snaps : Snaps) (id : ℕ) (new : Snap) → AllAbove id snaps → with_value nat_cmp id new snaps ≡ (id, new) ∷ snaps
with_value-below [] id new all = refl
with_value-below (e ∷ snaps) id new all = ap (λ o. match_ordering o ((id, new) ∷ e ∷ snaps) ((e.0, new) ∷ snaps) (e ∷ with_value nat_cmp id new snaps)) (sym (nat_cmp_is id e.0 Less all.0))

-- and changes no other chain
pub chain_of-below : (snaps : Snaps) (id : ℕ) (new : Snap) (x : ℕ) → id < x → chain_of ((id, new) ∷ snaps) x ≡ chain_of snaps x
chain_of-below snaps id new x lt = past (id, new) snaps x (ne_eqb id x (omega (arith, lt)))

-- its own chain goes on with its parent's
pub chain_of-lowest : (snaps : Snaps) (id : ℕ) (new : Snap) → chain_of ((id, new) ∷ snaps) id ≡ id ∷ chain_of snaps new.parent
chain_of-lowest snaps id new = ap (λ b. cond b (id ∷ chain_of snaps new.parent) (chain_of snaps id)) (eq-eqb id id refl)

-- what all ids are above, they are above with one more that is
pub still_above : (k id : ℕ) (new : Snap) (snaps : Snaps) → k < id → AllAbove k snaps → AllAbove k (with_value nat_cmp id new snaps)
still_above k id new [] lt all = (lt, tt)
still_above k id new (e ∷ snaps) lt all = here (nat_cmp id e.0) (still_above k id new snaps lt all.1)
  where
    here : (o : Ordering) → AllAbove k (with_value nat_cmp id new snaps) → AllAbove k (match_ordering o ((id, new) ∷ e ∷ snaps) ((e.0, new) ∷ snaps) (e ∷ with_value nat_cmp id new snaps))
    here Less later = (lt, all)
    here Equal later = all
    here Greater later = (all.0, later)

pub all_lower : (j k : ℕ) (snaps : Snaps) → j < k → AllAbove k snaps → AllAbove j snaps
all_lower j k [] lt all = tt
all_lower j k (e ∷ snaps) lt all = (omega (arith, lt, all.0), all_lower j k snaps lt all.1)
