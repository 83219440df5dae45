-- Removing an interior id with one child only drops it from chains.
use Rattle.std.proofs.Common.{◌≡◌, ℕ, zero, suc, ◌<◌, ◌≤◌, Bool, true, false, cond, Option, Some, None, List, [], ◌∷◌, refl, sym, ap, ◌∙◌, subst, arith, ⊎_elim, inl, inr, length}
use Rattle.std.specs.Prelude.{◌⊎◌, ◌==◌, not}
use Rattle.std.specs.Option.{option_map}
use Rattle.std.specs.Ordering.{nat_cmp}
use Rattle.std.proofs.lemmas.Bool.{eqb-true, eq-eqb, ne_eqb, cases_eq}
use Rattle.std.proofs.lemmas.Option.{same_Some}
use Rattle.vol_types.specs.Maps.{IsMap, value_at, with_value}
use Rattle.vol_types.specs.declared.values.Snap.{Snap}
use Rattle.snap_tree.specs.Snaps.{Snaps, IsSnapTree, with_snap, chain_of, chain_above}
use Rattle.snap_tree.specs.Removals.{HasOneChild, moved_under, with_child, removed_snaps, but}
use Rattle.snap_tree.specs.MapLaws.{value_at-with, value_at-without, rises-with, rises-without}
use Rattle.snap_tree.specs.ChainLaws.{chain_of-none, chain_of-step}
use Rattle.snap_tree.specs.TreeLaws.{HasParent, parent_joined, is_above}

-- an id that isn't there has a chain of no ids, whatever is left out of it
but_none : (id : ℕ) (ids : List ℕ) → ids ≡ [] → but id ids ≡ []
but_none id ids none = ap (but id) none

but_other : (id x : ℕ) (ids : List ℕ) → (x ≡ id → ⊥) → but id (x ∷ ids) ≡ x ∷ but id ids
but_other id x ids other = ap (λ b. cond (not b) (x ∷ but id ids) (but id ids)) (ne_eqb x id other)

but_self : (id : ℕ) (ids : List ℕ) → but id (id ∷ ids) ≡ but id ids
but_self id ids = ap (λ b. cond (not b) (id ∷ but id ids) (but id ids)) (eq-eqb id id refl)

module _ (snaps : Snaps) (id child : ℕ) (interior below : Snap) (tree : IsSnapTree snaps) (one : HasOneChild snaps id child interior below) where
  -- the records once the parent names the child
  abbrev first : Option Snap → Snaps
  first above = with_snap interior.parent (option_map (with_child id child) above) snaps

  first_rises : (o : Option Snap) → IsMap nat_cmp (first o)
  first_rises None = tree.rises
  first_rises (Some above) = rises-with snaps interior.parent (with_child id child above) tree.rises

  -- each record has the parent that it had
  first_found : (o : Option Snap) → value_at nat_cmp interior.parent snaps ≡ o → (x : ℕ) (snap : Snap) → value_at nat_cmp x snaps ≡ Some snap → (new : Snap) × (value_at nat_cmp x (first o) ≡ Some new) × (new.parent ≡ snap.parent)
  first_found None at x snap is = (snap, is, refl)
  first_found (Some above) at x snap is = here (interior.parent == x) refl
    where
      here : (b : Bool) → (interior.parent == x) ≡ b → (new : Snap) × (value_at nat_cmp x (first (Some above)) ≡ Some new) × (new.parent ≡ snap.parent)
      here true same =
          let old : above ≡ snap = same_Some above snap (sym at ∙ ap (λ n. value_at nat_cmp n snaps) (eqb-true interior.parent x same) ∙ is) in
          (with_child id child above, value_at-with snaps interior.parent x (with_child id child above) ∙ ap (λ b. cond b (Some (with_child id child above)) (value_at nat_cmp x snaps)) same, ap (λ (s : Snap). s.parent) old)
      here false other = (snap, value_at-with snaps interior.parent x (with_child id child above) ∙ ap (λ b. cond b (Some (with_child id child above)) (value_at nat_cmp x snaps)) other ∙ is, refl)

  first_none : (o : Option Snap) → value_at nat_cmp interior.parent snaps ≡ o → (x : ℕ) → value_at nat_cmp x snaps ≡ None → value_at nat_cmp x (first o) ≡ None
  first_none None at x none = none
  first_none (Some above) at x none =
      value_at-with snaps interior.parent x (with_child id child above) ∙ ap (λ b. cond b (Some (with_child id child above)) (value_at nat_cmp x snaps)) (ne_eqb interior.parent x (λ same. absurd (cc (ap (λ n. value_at nat_cmp n snaps) same, at, none)))) ∙ none

  abbrev before : Snaps
  before = first (value_at nat_cmp interior.parent snaps)

  abbrev new : Snaps
  new = removed_snaps snaps id child interior below

  new_rises : IsMap nat_cmp new
  new_rises = rises-without (with_value nat_cmp child (moved_under interior.parent below) before) id (rises-with before child (moved_under interior.parent below) (first_rises (value_at nat_cmp interior.parent snaps)))

  new_found : (x : ℕ) → value_at nat_cmp x new ≡ cond (id == x) None (cond (child == x) (Some (moved_under interior.parent below)) (value_at nat_cmp x before))
  new_found x =
      value_at-without (with_value nat_cmp child (moved_under interior.parent below) before) id x (rises-with before child (moved_under interior.parent below) (first_rises (value_at nat_cmp interior.parent snaps)))
      ∙ ap (λ o. cond (id == x) None o) (value_at-with before child x (moved_under interior.parent below))

  -- the interior id's parent is above its child
  parents : HasParent snaps id interior.parent
  parents = parent_joined snaps id interior tree.trees one.found

  child_below : child < id
  child_below = ⊎_elim (λ (none : below.parent ≡ 0). absurd (omega (arith, none, one.parent, one.some))) (λ (up : child < below.parent). omega (arith, up, one.parent)) (is_above snaps child below.parent (parent_joined snaps child below tree.trees one.child_found))

  -- the chain of the child goes on where that of the interior id does
  child_step : chain_of new child ≡ child ∷ chain_above new interior.parent
  child_step =
      chain_of-step new child (moved_under interior.parent below) new_rises
      (new_found child ∙ ap (λ b. cond b None (cond (child == child) (Some (moved_under interior.parent below)) (value_at nat_cmp child before))) (ne_eqb id child (λ same. omega (arith, child_below, same))) ∙ ap (λ b. cond b (Some (moved_under interior.parent below)) (value_at nat_cmp child before)) (eq-eqb child child refl))
      (⊎_elim (λ (none : interior.parent ≡ 0). inl none) (λ (up : id < interior.parent). inr (omega (arith, up, child_below))) (is_above snaps id interior.parent parents))

  -- and all other chains go on as they did
  other_step : (x : ℕ) (snap : Snap) → value_at nat_cmp x snaps ≡ Some snap → (x ≡ id → ⊥) → (x ≡ child → ⊥) → chain_of new x ≡ x ∷ chain_above new snap.parent
  other_step x snap is other apart =
      let now = first_found (value_at nat_cmp interior.parent snaps) refl x snap is in
      chain_of-step new x now.0 new_rises
      (new_found x ∙ ap (λ b. cond b None (cond (child == x) (Some (moved_under interior.parent below)) (value_at nat_cmp x before))) (ne_eqb id x (λ same. other (sym same))) ∙ ap (λ b. cond b (Some (moved_under interior.parent below)) (value_at nat_cmp x before)) (ne_eqb child x (λ same. apart (sym same))) ∙ now.1)
      (subst (λ n. (n ≡ 0) ⊎ (x < n)) (sym now.2) (is_above snaps x snap.parent (parent_joined snaps x snap tree.trees is)))
      ∙ ap (λ n. x ∷ chain_above new n) now.2

  -- what isn't there has no chain
  none_there : (x : ℕ) → value_at nat_cmp x snaps ≡ None → chain_of new x ≡ but id (chain_of snaps x)
  none_there x none =
      chain_of-none new x (new_found x ∙ ap (λ b. cond b None (cond (child == x) (Some (moved_under interior.parent below)) (value_at nat_cmp x before))) (ne_eqb id x (λ same. absurd (cc (ap (λ n. value_at nat_cmp n snaps) same, one.found, none)))) ∙ ap (λ b. cond b (Some (moved_under interior.parent below)) (value_at nat_cmp x before)) (ne_eqb child x (λ same. absurd (cc (ap (λ n. value_at nat_cmp n snaps) same, one.child_found, none)))) ∙ first_none (value_at nat_cmp interior.parent snaps) refl x none)
      ∙ sym (but_none id (chain_of snaps x) (chain_of-none snaps x none))

  -- Chains of at most so many ids only lose the interior one.
  abbrev Drops : ℕ → Type 0
  Drops n = (x : ℕ) → length (chain_of snaps x) ≤ n → (x ≡ id → ⊥) → chain_of new x ≡ but id (chain_of snaps x)

  drops_above : (n parent : ℕ) → Drops n → length (chain_above snaps parent) ≤ n → (parent ≡ id → ⊥) → chain_above new parent ≡ but id (chain_above snaps parent)
  drops_above n parent known few other = here (parent == 0) refl few
    where
      here : (b : Bool) → (parent == 0) ≡ b → length (cond b [] (chain_of snaps parent)) ≤ n → cond b [] (chain_of new parent) ≡ but id (cond b [] (chain_of snaps parent))
      here true is few = refl
      here false is few = known parent few other

  drops_next : (n : ℕ) → Drops n → (x : ℕ) (o : Option Snap) → value_at nat_cmp x snaps ≡ o → length (chain_of snaps x) ≤ suc n → (x ≡ id → ⊥) → chain_of new x ≡ but id (chain_of snaps x)
  drops_next n known x None none few other = none_there x none
  drops_next n known x (Some snap) is few other = ⊎_elim same differ (cases_eq x child)
    where
      step : chain_of snaps x ≡ x ∷ chain_above snaps snap.parent
      step = chain_of-step snaps x snap tree.rises is (is_above snaps x snap.parent (parent_joined snaps x snap tree.trees is))

      fewer : length (chain_above snaps snap.parent) ≤ n
      fewer = omega (arith, few, ap length step)

      differ : (x ≡ child → ⊥) → chain_of new x ≡ but id (chain_of snaps x)
      differ apart =
          other_step x snap is other apart ∙ ap (λ ids. x ∷ ids) (drops_above n snap.parent known fewer (λ at. apart (one.only x snap is at)))
          ∙ sym (ap (but id) step ∙ but_other id x (chain_above snaps snap.parent) other)

      same : x ≡ child → chain_of new x ≡ but id (chain_of snaps x)
      same at =
          let record_is : snap ≡ below = same_Some snap below (sym is ∙ ap (λ n. value_at nat_cmp n snaps) at ∙ one.child_found) in
          let parent_is : snap.parent ≡ id = ap (λ (s : Snap). s.parent) record_is ∙ one.parent in
          let goes : chain_above snaps snap.parent ≡ id ∷ chain_above snaps interior.parent =
          ap (λ n. chain_above snaps n) parent_is ∙ ap (λ b. cond b [] (chain_of snaps id)) (ne_eqb id 0 (λ nil. omega (arith, nil, one.some))) ∙ chain_of-step snaps id interior tree.rises one.found (is_above snaps id interior.parent parents) in
          ap (chain_of new) at ∙ child_step ∙ ap (λ n. n ∷ chain_above new interior.parent) (sym at)
          ∙ ap (λ ids. x ∷ ids) (drops_above n interior.parent known (omega (arith, fewer, ap length goes)) (λ loops. ⊎_elim (λ (none : interior.parent ≡ 0). omega (arith, none, loops, one.some)) (λ (up : id < interior.parent). omega (arith, up, loops)) (is_above snaps id interior.parent parents)))
          ∙ sym (ap (but id) step ∙ but_other id x (chain_above snaps snap.parent) other ∙ ap (λ ids. x ∷ but id ids) goes ∙ ap (λ ids. x ∷ ids) (but_self id (chain_above snaps interior.parent)))

  drops : (n : ℕ) → Drops n
  drops zero x few other = empty (value_at nat_cmp x snaps) refl
    where
      empty : (o : Option Snap) → value_at nat_cmp x snaps ≡ o → chain_of new x ≡ but id (chain_of snaps x)
      empty None none = none_there x none
      empty (Some snap) is = absurd (omega (arith, few, ap length (chain_of-step snaps x snap tree.rises is (is_above snaps x snap.parent (parent_joined snaps x snap tree.trees is)))))
  drops (suc n) x few other = drops_next n (drops n) x (value_at nat_cmp x snaps) refl few other

  -- all chains but that of the interior id only lose it
  pub chain-removed : (x : ℕ) → (x ≡ id → ⊥) → chain_of new x ≡ but id (chain_of snaps x)
  chain-removed x other = drops (length (chain_of snaps x)) x (omega arith) other

  -- and the interior id has none any more
  pub chain-gone : chain_of new id ≡ []
  chain-gone = chain_of-none new id (new_found id ∙ ap (λ b. cond b None (cond (child == id) (Some (moved_under interior.parent below)) (value_at nat_cmp id before))) (eq-eqb id id refl))
