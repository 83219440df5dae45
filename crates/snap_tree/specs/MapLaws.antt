-- What is found in the records after one is put or taken away.
use Rattle.std.proofs.Common.{◌≡◌, ℕ, ◌<◌, Bool, true, false, cond, Option, Some, None, [], ◌∷◌, refl, sym, ap, ◌∙◌, arith, inl, inr}
use Rattle.std.specs.Prelude.{◌⊎◌, ◌==◌, ◌&&◌}
use Rattle.std.specs.List.{AllByRecursion, list_all}
use Rattle.std.specs.List.Sorted.{IsStrictlySortedBy}
use Rattle.std.specs.Map.{keys_of}
use Rattle.std.specs.BTreeMap.{is_at}
use Rattle.std.specs.Cmp.{nat_cmp_is}
use Rattle.std.specs.Ordering.{nat_cmp, match_ordering}
use Rattle.std.specs.declared.cmp.Ordering.{Ordering}
use Rattle.std.specs.declared.cmp.Ordering.TheVariants.{Less, Equal, Greater}
use Rattle.std.proofs.lemmas.Bool.{eqb-true, eq-eqb, ne_eqb}
use Rattle.std.proofs.lemmas.Cmp.{ranked}
use Rattle.vol_types.specs.Maps.{IsMap, value_at, with_value, without}
use Rattle.vol_types.specs.declared.values.Snap.{Snap}
use Rattle.snap_tree.specs.Snaps.{Snaps, are_trees, is_joined}
use Rattle.snap_tree.specs.ChainLaws.{AllAbove, same_test, first_least, others_rise, found_above, all_lower, still_above}

-- the entry at the head is found by its id
pub value_at-cons : (e : ℕ × Snap) (snaps : Snaps) (x : ℕ) → value_at nat_cmp x (e ∷ snaps) ≡ cond (e.0 == x) (Some e.1) (value_at nat_cmp x snaps)
value_at-cons e snaps x = ap (λ b. cond b (Some e.1) (value_at nat_cmp x snaps)) (same_test x e.0)

-- what no id is above is not found
pub not_above : (k x : ℕ) (snaps : Snaps) → AllAbove k snaps → (x ≡ k) ⊎ (x < k) → value_at nat_cmp x snaps ≡ None
not_above k x [] all low = refl
not_above k x (e ∷ snaps) all low = value_at-cons e snaps x ∙ ap (λ b. cond b (Some e.1) (value_at nat_cmp x snaps)) (ne_eqb e.0 x (λ same. apart low same)) ∙ not_above k x snaps all.1 low
  where
    apart : (x ≡ k) ⊎ (x < k) → e.0 ≡ x → ⊥
    apart (inl is) same = omega (arith, all.0, is, same)
    apart (inr lt) same = omega (arith, all.0, lt, same)

-- in records with one at an id, it is found there, and all else as before
pub value_at-with : (snaps : Snaps) (id x : ℕ) (new : Snap) → value_at nat_cmp x (with_value nat_cmp id new snaps) ≡ cond (id == x) (Some new) (value_at nat_cmp x snaps)
value_at-with [] id x new = value_at-cons (id, new) [] x
value_at-with (e ∷ snaps) id x new = here (nat_cmp id e.0) refl (value_at-with snaps id x new)
  where
    here : (o : Ordering) → nat_cmp id e.0 ≡ o → value_at nat_cmp x (with_value nat_cmp id new snaps) ≡ cond (id == x) (Some new) (value_at nat_cmp x snaps)
        → value_at nat_cmp x (match_ordering o ((id, new) ∷ e ∷ snaps) ((e.0, new) ∷ snaps) (e ∷ with_value nat_cmp id new snaps)) ≡ cond (id == x) (Some new) (value_at nat_cmp x (e ∷ snaps))
    here Less is later = value_at-cons (id, new) (e ∷ snaps) x
    here Equal is later =
        let same : id ≡ e.0 = ranked id e.0 Equal (sym is) in
        value_at-cons (e.0, new) snaps x ∙ ap (λ n. cond (n == x) (Some new) (value_at nat_cmp x snaps)) (sym same) ∙ skip (id == x) refl same
      where
        skip : (b : Bool) → (id == x) ≡ b → id ≡ e.0 → cond b (Some new) (value_at nat_cmp x snaps) ≡ cond b (Some new) (value_at nat_cmp x (e ∷ snaps))
        skip true at same = refl
        skip false at same = sym (value_at-cons e snaps x ∙ ap (λ b. cond b (Some e.1) (value_at nat_cmp x snaps)) (ap (λ n. n == x) (sym same) ∙ at))
    here Greater is later =
        let above : e.0 < id = ranked id e.0 Greater (sym is) in
        value_at-cons e (with_value nat_cmp id new snaps) x ∙ ap (λ o. cond (e.0 == x) (Some e.1) o) later ∙ swap (e.0 == x) refl above ∙ ap (λ o. cond (id == x) (Some new) o) (sym (value_at-cons e snaps x))
      where
        swap : (b : Bool) → (e.0 == x) ≡ b → e.0 < id → cond b (Some e.1) (cond (id == x) (Some new) (value_at nat_cmp x snaps)) ≡ cond (id == x) (Some new) (cond b (Some e.1) (value_at nat_cmp x snaps))
        swap true at above = ap (λ b. cond b (Some new) (Some e.1)) (sym (ne_eqb id x (λ is. omega (arith, above, is, eqb-true e.0 x at))))
        swap false at above = refl

same_both : (b : Bool) (o : Option Snap) → cond b o o ≡ o
same_both true o = refl
same_both false o = refl

-- in records without an id, it isn't found, and all else is found as before
pub value_at-without : (snaps : Snaps) (id x : ℕ) → IsMap nat_cmp snaps → value_at nat_cmp x (without nat_cmp id snaps) ≡ cond (id == x) None (value_at nat_cmp x snaps)
value_at-without [] id x rises = sym (same_both (id == x) None)
value_at-without (e ∷ snaps) id x rises =
    ap (λ b. value_at nat_cmp x (cond b snaps (e ∷ without nat_cmp id snaps))) (same_test id e.0) ∙ here (e.0 == id) refl (value_at-without snaps id x (others_rise e snaps rises))
  where
    here : (b : Bool) → (e.0 == id) ≡ b → value_at nat_cmp x (without nat_cmp id snaps) ≡ cond (id == x) None (value_at nat_cmp x snaps)
        → value_at nat_cmp x (cond b snaps (e ∷ without nat_cmp id snaps)) ≡ cond (id == x) None (value_at nat_cmp x (e ∷ snaps))
    here true same later = gone (id == x) refl
      where
        gone : (b : Bool) → (id == x) ≡ b → value_at nat_cmp x snaps ≡ cond b None (value_at nat_cmp x (e ∷ snaps))
        gone true at = not_above e.0 x snaps (first_least e snaps rises) (inl (sym (eqb-true id x at) ∙ sym (eqb-true e.0 id same)))
        gone false at = sym (value_at-cons e snaps x ∙ ap (λ b. cond b (Some e.1) (value_at nat_cmp x snaps)) (ap (λ n. n == x) (eqb-true e.0 id same) ∙ at))
    here false other later =
        value_at-cons e (without nat_cmp id snaps) x ∙ ap (λ o. cond (e.0 == x) (Some e.1) o) later ∙ swap (e.0 == x) refl ∙ ap (λ o. cond (id == x) None o) (sym (value_at-cons e snaps x))
      where
        swap : (b : Bool) → (e.0 == x) ≡ b → cond b (Some e.1) (cond (id == x) None (value_at nat_cmp x snaps)) ≡ cond (id == x) None (cond b (Some e.1) (value_at nat_cmp x snaps))
        swap true at = ap (λ b. cond b None (Some e.1)) (sym (ap (λ n. id == n) (sym (eqb-true e.0 x at)) ∙ flipped))
          where
            flipped : (id == e.0) ≡ false
            flipped = ne_eqb id e.0 (λ is. absurd (cc (other, eq-eqb e.0 id (sym is))))
        swap false at = refl

-- ids that all are above an id, as a sorted list says it
below_all : (k : ℕ) (snaps : Snaps) → AllAbove k snaps → AllByRecursion (λ y. nat_cmp k y ≡ Less) (keys_of snaps)
below_all k [] all = tt
below_all k (e ∷ snaps) all = (sym (nat_cmp_is k e.0 Less all.0), below_all k snaps all.1)

-- what all ids are above, they are above without one of them
without_above : (k id : ℕ) (snaps : Snaps) → AllAbove k snaps → AllAbove k (without nat_cmp id snaps)
without_above k id [] all = tt
without_above k id (e ∷ snaps) all = here (is_at (nat_cmp id) e.0) (without_above k id snaps all.1)
  where
    here : (b : Bool) → AllAbove k (without nat_cmp id snaps) → AllAbove k (cond b snaps (e ∷ without nat_cmp id snaps))
    here true later = all.1
    here false later = (all.0, later)

-- records with one more rise
pub rises-with : (snaps : Snaps) (id : ℕ) (new : Snap) → IsMap nat_cmp snaps → IsMap nat_cmp (with_value nat_cmp id new snaps)
unfolding IsStrictlySortedBy
rises-with [] id new rises = (tt, tt)
rises-with (e ∷ snaps) id new rises = here (nat_cmp id e.0) refl (rises-with snaps id new (others_rise e snaps rises))
  where
    here : (o : Ordering) → nat_cmp id e.0 ≡ o → IsMap nat_cmp (with_value nat_cmp id new snaps) → IsMap nat_cmp (match_ordering o ((id, new) ∷ e ∷ snaps) ((e.0, new) ∷ snaps) (e ∷ with_value nat_cmp id new snaps))
    here Less is later = let lt : id < e.0 = ranked id e.0 Less (sym is) in (below_all id (e ∷ snaps) (lt, all_lower id e.0 snaps lt (first_least e snaps rises)), rises)
    here Equal is later = rises
    here Greater is later = (below_all e.0 (with_value nat_cmp id new snaps) (still_above e.0 id new snaps (ranked id e.0 Greater (sym is)) (first_least e snaps rises)), later)

-- records without one rise
pub rises-without : (snaps : Snaps) (id : ℕ) → IsMap nat_cmp snaps → IsMap nat_cmp (without nat_cmp id snaps)
unfolding IsStrictlySortedBy
rises-without [] id rises = tt
rises-without (e ∷ snaps) id rises = here (is_at (nat_cmp id) e.0) (rises-without snaps id (others_rise e snaps rises))
  where
    here : (b : Bool) → IsMap nat_cmp (without nat_cmp id snaps) → IsMap nat_cmp (cond b snaps (e ∷ without nat_cmp id snaps))
    here true later = others_rise e snaps rises
    here false later = (below_all e.0 (without nat_cmp id snaps) (without_above e.0 id snaps (first_least e snaps rises)), later)

-- what each record that is found passes, all records pass
pub all_from_found : (test : ℕ × Snap → Bool) (snaps : Snaps) → IsMap nat_cmp snaps → ((x : ℕ) (snap : Snap) → value_at nat_cmp x snaps ≡ Some snap → test (x, snap) ≡ true) → list_all test snaps ≡ true
all_from_found test [] rises each = refl
all_from_found test (e ∷ snaps) rises each =
    ap (λ b. b && list_all test snaps) (each e.0 e.1 (value_at-cons e snaps e.0 ∙ ap (λ b. cond b (Some e.1) (value_at nat_cmp e.0 snaps)) (eq-eqb e.0 e.0 refl)))
    ∙ all_from_found test snaps (others_rise e snaps rises) (λ x snap is. each x snap (value_at-cons e snaps x ∙ ap (λ b. cond b (Some e.1) (value_at nat_cmp x snaps)) (ne_eqb e.0 x (λ same. let up : e.0 < x = found_above e.0 x snaps snap (first_least e snaps rises) is in omega (arith, up, same))) ∙ is))

-- records are trees where each that is found is joined to those that it names
pub trees_from_found : (snaps : Snaps) → IsMap nat_cmp snaps → ((x : ℕ) (snap : Snap) → value_at nat_cmp x snaps ≡ Some snap → is_joined snaps x snap ≡ true) → are_trees snaps ≡ true
trees_from_found snaps rises each = all_from_found (λ entry. is_joined snaps entry.0 entry.1) snaps rises each
