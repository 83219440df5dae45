-- The members of a chain by their places: the first is the id, each has what follows it as its own chain, and all are there.
use Rattle.std.proofs.Common.{◌≡◌, ℕ, zero, suc, ◌+◌, ◌<◌, ◌≤◌, Bool, true, false, cond, Option, Some, None, List, [], ◌∷◌, refl, sym, ap, ◌∙◌, subst, arith, ⊎_elim, inl, inr, length, drop, get_or}
use Rattle.std.specs.Prelude.{◌⊎◌, ◌==◌, nat_eq, is_some, IsSome}
use Rattle.std.specs.List.{AllByRecursion, list_any}
use Rattle.std.specs.Ordering.{nat_cmp}
use Rattle.std.specs.declared.cmp.Ordering.TheVariants.{Less}
use Rattle.std.specs.List.Sorted.{IsStrictlySortedBy}
use Rattle.std.proofs.lemmas.Bool.{ne_eqb, eq-eqb, cases_lt, cases_eq}
use Rattle.std.proofs.lemmas.Cmp.{ranked}
use Rattle.std.proofs.lemmas.List.{get_or_past, get_or-drop, length-drop}
use Rattle.std.proofs.lemmas.Map.Keys.{below_from_sorted}
use Rattle.vol_types.specs.Maps.{IsMap, value_at}
use Rattle.vol_types.specs.declared.values.Snap.{Snap}
use Rattle.snap_tree.specs.Snaps.{Snaps, chain_of, chain_above, is_ancestor_of}
use Rattle.snap_tree.specs.Rising.{none_above}
use Rattle.snap_tree.specs.ChainLaws.{same_test, first_least, others_rise, past, chain_of-none, chain_above_all, chain_of-rises}

-- what holds of all members holds of the one at a place
at_place : (k : ℕ) (ids : List ℕ) (p : ℕ) → p < length ids → AllByRecursion (λ y. nat_cmp k y ≡ Less) ids → k < get_or ids p 0
at_place k [] p lt all = absurd (omega (arith, lt))
at_place k (x ∷ ids) zero lt all = ranked k x Less (sym all.0)
at_place k (x ∷ ids) (suc p) lt all = at_place k ids p (omega (arith, lt)) all.1

-- each member of a chain has what follows it as its own chain
pub chain_of_member : (snaps : Snaps) (id p : ℕ) → IsMap nat_cmp snaps → p < length (chain_of snaps id) → chain_of snaps (get_or (chain_of snaps id) p 0) ≡ drop p (chain_of snaps id)
chain_of_member [] id p rises lt = absurd (omega (arith, lt))
chain_of_member (e ∷ snaps) id p rises lt =
    here (e.0 == id) refl p lt (λ parent q lt. chain_of_member snaps parent q (others_rise e snaps rises) lt)
  where
    later : (x q : ℕ) → q < length (chain_of snaps x) → chain_of (e ∷ snaps) (get_or (chain_of snaps x) q 0) ≡ chain_of snaps (get_or (chain_of snaps x) q 0)
    later x q lt =
        let up : e.0 < get_or (chain_of snaps x) q 0 = at_place e.0 (chain_of snaps x) q lt (chain_above_all e.0 x snaps (first_least e snaps rises)) in
        past e snaps (get_or (chain_of snaps x) q 0) (ne_eqb e.0 (get_or (chain_of snaps x) q 0) (λ same. omega (arith, up, same)))

    here : (b : Bool) → (e.0 == id) ≡ b → (p : ℕ) → p < length (cond b (id ∷ chain_of snaps e.1.parent) (chain_of snaps id))
        → ((x q : ℕ) → q < length (chain_of snaps x) → chain_of snaps (get_or (chain_of snaps x) q 0) ≡ drop q (chain_of snaps x))
        → chain_of (e ∷ snaps) (get_or (cond b (id ∷ chain_of snaps e.1.parent) (chain_of snaps id)) p 0) ≡ drop p (cond b (id ∷ chain_of snaps e.1.parent) (chain_of snaps id))
    here true same zero lt known = ap (λ b. cond b (id ∷ chain_of snaps e.1.parent) (chain_of snaps id)) same
    here true same (suc q) lt known = later e.1.parent q (omega (arith, lt)) ∙ known e.1.parent q (omega (arith, lt))
    here false other p lt known = later id p lt ∙ known id p lt

-- the chain of an id that is there begins with it
pub chain_begins : (snaps : Snaps) (id : ℕ) → IsSome (value_at nat_cmp id snaps) → (0 < length (chain_of snaps id)) × (get_or (chain_of snaps id) 0 0 ≡ id)
chain_begins [] id there = absurd (cc)
chain_begins (e ∷ snaps) id there = here (e.0 == id) (subst (λ b. IsSome (cond b (Some e.1) (value_at nat_cmp id snaps))) (same_test id e.0) there) (chain_begins snaps id)
  where
    here : (b : Bool) → IsSome (cond b (Some e.1) (value_at nat_cmp id snaps)) → (IsSome (value_at nat_cmp id snaps) → (0 < length (chain_of snaps id)) × (get_or (chain_of snaps id) 0 0 ≡ id))
        → (0 < length (cond b (id ∷ chain_of snaps e.1.parent) (chain_of snaps id))) × (get_or (cond b (id ∷ chain_of snaps e.1.parent) (chain_of snaps id)) 0 0 ≡ id)
    here true there later = (omega arith, refl)
    here false there later = later there

-- a member of a chain is there
pub member_there : (snaps : Snaps) (id p : ℕ) → IsMap nat_cmp snaps → p < length (chain_of snaps id) → IsSome (value_at nat_cmp (get_or (chain_of snaps id) p 0) snaps)
member_there snaps id p rises lt = here (value_at nat_cmp (get_or (chain_of snaps id) p 0) snaps) refl
  where
    here : (o : Option Snap) → value_at nat_cmp (get_or (chain_of snaps id) p 0) snaps ≡ o → IsSome o
    here (Some snap) is = refl
    here None is =
        let none : drop p (chain_of snaps id) ≡ [] = sym (chain_of_member snaps id p rises lt) ∙ chain_of-none snaps (get_or (chain_of snaps id) p 0) is in
        absurd (omega (arith, lt, length-drop p (chain_of snaps id), ap length none))

-- members of rising numbers after the first aren't 0
pub not_zero : (ids : List ℕ) (p : ℕ) → IsStrictlySortedBy nat_cmp ids → 0 < p → p < length ids → 0 < get_or ids p 0
not_zero ids p rises some lt = let up : get_or ids 0 0 < get_or ids p 0 = below_from_sorted ids 0 p 0 rises some lt in omega (arith, up)

-- what 0 stands at a place after the first one says
pub past_end : (ids : List ℕ) (p : ℕ) → IsStrictlySortedBy nat_cmp ids → 0 < p → get_or ids p 0 ≡ 0 → length ids ≤ p
past_end ids p rises some none =
    ⊎_elim (λ (lt : p < length ids). let up : 0 < get_or ids p 0 = not_zero ids p rises some lt in absurd (omega (arith, up, none))) (λ (le : length ids ≤ p). le) (cases_lt p (length ids))

-- what doesn't stand for 0 stands in the list
pub inside : (ids : List ℕ) (p : ℕ) → (get_or ids p 0 ≡ 0 → ⊥) → p < length ids
inside ids p some = ⊎_elim (λ (lt : p < length ids). lt) (λ (le : length ids ≤ p). absurd (some (get_or_past ids p 0 le))) (cases_lt p (length ids))

-- a link of twice the length is the same link of where a link leads to
pub leads_on : (snaps : Snaps) (id j half double : ℕ) → IsMap nat_cmp snaps → 0 < j → half ≡ get_or (chain_of snaps id) j 0
    → (half ≡ 0 → double ≡ 0) → ((half ≡ 0 → ⊥) → double ≡ get_or (chain_of snaps half) j 0) → double ≡ get_or (chain_of snaps id) (j + j) 0
leads_on snaps id j half double rises some is none one = ⊎_elim end goes (cases_eq half 0)
  where
    end : half ≡ 0 → double ≡ get_or (chain_of snaps id) (j + j) 0
    end nil =
        let le : length (chain_of snaps id) ≤ j = past_end (chain_of snaps id) j (chain_of-rises snaps id rises) some (sym is ∙ nil) in
        none nil ∙ sym (get_or_past (chain_of snaps id) (j + j) 0 (omega (arith, le)))

    goes : (half ≡ 0 → ⊥) → double ≡ get_or (chain_of snaps id) (j + j) 0
    goes other =
        let lt : j < length (chain_of snaps id) = inside (chain_of snaps id) j (λ nil. other (is ∙ nil)) in
        one other ∙ ap (λ n. get_or (chain_of snaps n) j 0) is ∙ ap (λ ids. get_or ids j 0) (chain_of_member snaps id j rises lt) ∙ get_or-drop j (chain_of snaps id) j 0

-- a chain is no longer than the numbers that are left above its first id
pub chain_fits : (snaps : Snaps) (id parent most : ℕ) → chain_of snaps id ≡ id ∷ chain_above snaps parent → id < most → (parent ≡ 0) ⊎ ((id < parent) × (parent + length (chain_of snaps parent) ≤ most)) → id + length (chain_of snaps id) ≤ most
chain_fits snaps id parent most is lt (inl none) =
    let end : chain_above snaps parent ≡ [] = ap (λ b. cond b [] (chain_of snaps parent)) (eq-eqb parent 0 none) in
    omega (arith, lt, ap length is, ap length end)
chain_fits snaps id parent most is lt (inr up) =
    let goes : chain_above snaps parent ≡ chain_of snaps parent = ap (λ b. cond b [] (chain_of snaps parent)) (ne_eqb parent 0 (λ none. omega (arith, up.0, none))) in
    omega (arith, up.0, up.1, ap length is, ap length goes)

-- an ancestor isn't below the id
pub ancestor_above : (snaps : Snaps) (ancestor id : ℕ) → IsMap nat_cmp snaps → is_ancestor_of snaps ancestor id ≡ true → id ≤ ancestor
ancestor_above snaps ancestor id rises is = ⊎_elim (λ (lt : ancestor < id). absurd (here (value_at nat_cmp id snaps) refl lt)) (λ (le : id ≤ ancestor). le) (cases_lt ancestor id)
  where
    first : (ids : List ℕ) → IsStrictlySortedBy nat_cmp ids → (0 < length ids) × (get_or ids 0 0 ≡ id) → ancestor < id → list_any (nat_eq ancestor) ids ≡ false
    first [] up begins lt = refl
    first (x ∷ ids) up begins lt = none_above ancestor x ids up (omega (arith, lt, begins.1))

    here : (o : Option Snap) → value_at nat_cmp id snaps ≡ o → ancestor < id → ⊥
    here None none lt = cc (is, ap (list_any (nat_eq ancestor)) (chain_of-none snaps id none))
    here (Some snap) found lt = cc (is, first (chain_of snaps id) (chain_of-rises snaps id rises) (chain_begins snaps id (ap is_some found)) lt)
