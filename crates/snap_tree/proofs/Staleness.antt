-- Which links changes leave right: those of ids that are neither moved nor below one that is.
use Rattle.std.proofs.Common.{◌≡◌, ℕ, zero, suc, ◌+◌, ◌^◌, ◌<◌, ◌≤◌, Bool, true, false, cond, Option, Some, None, List, [], ◌∷◌, refl, sym, ap, ◌∙◌, subst, arith, ⊎_elim, inl, inr, length}
use Rattle.std.specs.Prelude.{◌⊎◌, ◌==◌, not, IfSome, IsSome, is_some}
use Rattle.std.specs.Ordering.{nat_cmp}
use Rattle.std.proofs.lemmas.Bool.{eqb-true, eq-eqb, ne_eqb}
use Rattle.vol_types.specs.Maps.{value_at}
use Rattle.vol_types.specs.declared.values.Snap.{Snap}
use Rattle.snap_tree.specs.Snaps.{Snaps, IsSnapTree, chain_of, chain_above}
use Rattle.snap_tree.specs.Names.{has_id}
use Rattle.snap_tree.specs.Links.{AllLinks, AreLinks, HasLinks, AllHaveLinks, IsPast}
use Rattle.snap_tree.specs.Changes.{Changes, Leads, AreSmall, HasMoved, IsChildOf, HasChildren, IsUnder, IsBelowMoved, is_moved, is_moved_to}
use Rattle.snap_tree.specs.declared.change.Change.{Change}
use Rattle.snap_tree.specs.ChainLaws.{chain_of-step}
use Rattle.snap_tree.specs.TreeLaws.{parent_joined, is_above}
use Rattle.snap_tree.specs.Places.{chain_begins}
use Rattle.snap_tree.proofs.Cursors.{step_down}

-- The id had this parent.
record HadParent (old : Snaps) (id parent : ℕ) : Type 0 where
  snap : Snap
  found : value_at nat_cmp id old ≡ Some snap
  same : snap.parent ≡ parent

-- a child's id is below its parent's
child_below : (snaps : Snaps) (parent id : ℕ) → IsSnapTree snaps → IsChildOf snaps parent id → id < parent
child_below snaps parent id tree child =
    ⊎_elim (λ (none : child.snap.parent ≡ 0). absurd (child.some (sym child.under ∙ none))) (λ (up : id < child.snap.parent). omega (arith, up, child.under)) (is_above snaps id child.snap.parent (parent_joined snaps id child.snap tree.trees child.found))

-- where the children of an id are added, those of all greater ones are there still
pub closed_down : (snaps : Snaps) (was now : List ℕ) (next later : Option ℕ) (id : ℕ) → IsSnapTree snaps → next ≡ Some id
    → ((x : ℕ) → IsPast next x → HasChildren snaps was x)
    → ((x : ℕ) → IsChildOf snaps id x → has_id now x ≡ true)
    → ((x : ℕ) → has_id was x ≡ true → has_id now x ≡ true)
    → ((x : ℕ) → has_id now x ≡ true → (has_id was x ≡ true) ⊎ IsChildOf snaps id x)
    → ((x : ℕ) → x < id → IsPast later x → has_id now x ≡ true → ⊥)
    → (x : ℕ) → IsPast later x → HasChildren snaps now x
closed_down snaps was now next later id tree is above added kept only between =
    step_down (HasChildren snaps now) next later id is
    (λ x past there y child. ⊎_elim (λ (before : has_id was x ≡ true). kept y (above x past before y child))
    (λ (below : IsChildOf snaps id x). let lt : x < id = child_below snaps id x tree below in let gt : id < x = subst (λ o. IsPast o x) is past in absurd (omega (arith, lt, gt))) (only x there))
    (λ there y child. added y child)
    (λ x lt past there. absurd (between x lt past there))

-- where the children of an id are added, each id is still moved or below one
pub few_still : (snaps : Snaps) (changes : Changes) (was now : List ℕ) (next : Option ℕ) (id : ℕ) → next ≡ Some id → IfSome next (λ x. has_id was x ≡ true)
    → ((x : ℕ) → has_id was x ≡ true → IsBelowMoved snaps changes was x)
    → ((x : ℕ) → has_id was x ≡ true → has_id now x ≡ true)
    → ((x : ℕ) → has_id now x ≡ true → (has_id was x ≡ true) ⊎ IsChildOf snaps id x)
    → (x : ℕ) → has_id now x ≡ true → IsBelowMoved snaps changes now x
few_still snaps changes was now next id is there few kept only x has =
    ⊎_elim (λ (before : has_id was x ≡ true). ⊎_elim (λ (moved : is_moved (value_at nat_cmp x changes) ≡ true). inl moved) (λ (under : IsUnder snaps was x). inr (record { parent = under.parent; child = under.child; among = kept under.parent under.among })) (few x before))
    (λ (child : IsChildOf snaps id x). inr (record { parent = id; child = child; among = kept id (subst (λ o. IfSome o (λ y. has_id was y ≡ true)) is there) })) (only x has)

module _ (old new : Snaps) (was now : AllLinks) (changes : Changes) (stale : List ℕ) (before : IsSnapTree old) (after : IsSnapTree new) (leads : Leads old new changes)
    (moved : HasMoved changes stale) (closed : (id : ℕ) → HasChildren old stale id) where
  -- an id that isn't stale has the parent that it had
  same_parent : (id : ℕ) (snap : Snap) → has_id stale id ≡ false → value_at nat_cmp id new ≡ Some snap → HadParent old id snap.parent
  same_parent id snap fresh found = here (value_at nat_cmp id changes) refl
    where
      unmoved : (o : Option Snap) → value_at nat_cmp id old ≡ o → is_moved_to o (Some snap) ≡ false → HadParent old id snap.parent
      unmoved None at is = absurd (cc)
      unmoved (Some had) at is = record { snap = had; found = at; same = one (had.parent == snap.parent) refl is }
        where
          one : (t : Bool) → (had.parent == snap.parent) ≡ t → not t ≡ false → had.parent ≡ snap.parent
          one true e is = eqb-true had.parent snap.parent e
          one false e is = absurd (cc)

      still : (t : Bool) → is_moved (value_at nat_cmp id changes) ≡ t → t ≡ false
      still true is = absurd (cc (moved id is, fresh))
      still false is = refl

      here : (o : Option Change) → value_at nat_cmp id changes ≡ o → HadParent old id snap.parent
      here None at = record { snap = snap; found = sym (leads.same id at) ∙ found; same = refl }
      here (Some change) at =
          unmoved (value_at nat_cmp id old) refl
          (ap (λ o. is_moved_to o (Some snap)) (sym (leads.was id change at)) ∙ ap (is_moved_to change.old) (sym (leads.gets id change at ∙ found)) ∙ sym (ap is_moved at) ∙ still (is_moved (value_at nat_cmp id changes)) refl)

  -- and its parent isn't stale either
  further : (id : ℕ) (snap : Snap) → has_id stale id ≡ false → value_at nat_cmp id new ≡ Some snap → (snap.parent ≡ 0 → ⊥) → has_id stale snap.parent ≡ false
  further id snap fresh found some = here (has_id stale snap.parent) refl
    where
      here : (t : Bool) → has_id stale snap.parent ≡ t → t ≡ false
      here true is =
          let had = same_parent id snap fresh found in
          absurd (cc (closed snap.parent is id (record { snap = had.snap; found = had.found; under = had.same; some = some }), fresh))
      here false is = refl

  -- the chain goes on as it did
  step : (id : ℕ) (snap : Snap) → has_id stale id ≡ false → value_at nat_cmp id new ≡ Some snap → (chain_of new id ≡ id ∷ chain_above new snap.parent) × (chain_of old id ≡ id ∷ chain_above old snap.parent)
  step id snap fresh found =
      let had = same_parent id snap fresh found in (
        chain_of-step new id snap after.rises found (is_above new id snap.parent (parent_joined new id snap after.trees found)),
        chain_of-step old id had.snap before.rises had.found (is_above old id had.snap.parent (parent_joined old id had.snap before.trees had.found)) ∙ ap (λ n. id ∷ chain_above old n) had.same,
      )

  same_chain : (n id : ℕ) (snap : Snap) → length (chain_of new id) ≤ n → has_id stale id ≡ false → value_at nat_cmp id new ≡ Some snap → chain_of new id ≡ chain_of old id
  same_chain zero id snap few fresh found = absurd (omega (arith, few, ap length (step id snap fresh found).0))
  same_chain (suc n) id snap few fresh found = ⊎_elim root (goes (same_chain n)) (parent_joined new id snap after.trees found)
    where
      steps : (chain_of new id ≡ id ∷ chain_above new snap.parent) × (chain_of old id ≡ id ∷ chain_above old snap.parent)
      steps = step id snap fresh found

      root : snap.parent ≡ 0 → chain_of new id ≡ chain_of old id
      root none = steps.0 ∙ ap (λ b. id ∷ cond b [] (chain_of new snap.parent)) (eq-eqb snap.parent 0 none) ∙ sym (steps.1 ∙ ap (λ b. id ∷ cond b [] (chain_of old snap.parent)) (eq-eqb snap.parent 0 none))

      goes : ((above : ℕ) (parent : Snap) → length (chain_of new above) ≤ n → has_id stale above ≡ false → value_at nat_cmp above new ≡ Some parent → chain_of new above ≡ chain_of old above) → (id < snap.parent) × IsSome (value_at nat_cmp snap.parent new) → chain_of new id ≡ chain_of old id
      goes known up =
          let none : snap.parent ≡ 0 → ⊥ = λ nil. omega (arith, up.0, nil) in
          let some : (snap.parent == 0) ≡ false = ne_eqb snap.parent 0 none in
          let one : chain_of new id ≡ id ∷ chain_of new snap.parent = steps.0 ∙ ap (λ b. id ∷ cond b [] (chain_of new snap.parent)) some in
          one ∙ ap (λ ids. id ∷ ids) (above none (value_at nat_cmp snap.parent new) refl up.1 (omega (arith, few, ap length one))) ∙ sym (steps.1 ∙ ap (λ b. id ∷ cond b [] (chain_of old snap.parent)) some)
        where
          above : (snap.parent ≡ 0 → ⊥) → (o : Option Snap) → value_at nat_cmp snap.parent new ≡ o → IsSome o → length (chain_of new snap.parent) ≤ n → chain_of new snap.parent ≡ chain_of old snap.parent
          above some (Some parent) is there few = known snap.parent parent few (further id snap fresh found some) is
          above some None is there few = absurd (cc)

  -- so its links are right
  pub links_stay : AllHaveLinks old was → ((id : ℕ) → IsSome (value_at nat_cmp id new) → IsSome (value_at nat_cmp id was) → value_at nat_cmp id now ≡ value_at nat_cmp id was)
      → (id : ℕ) → has_id stale id ≡ false → IsSome (value_at nat_cmp id new) → HasLinks new now id
  links_stay linked kept id fresh there = here (value_at nat_cmp id new) refl there
    where
      here : (o : Option Snap) → value_at nat_cmp id new ≡ o → IsSome o → HasLinks new now id
      here None is some = absurd (cc)
      here (Some snap) is some =
          let had = same_parent id snap fresh is in
          let links = linked id (ap is_some had.found) in
          let chain = same_chain (length (chain_of new id)) id snap (omega arith) fresh is in
          record {
            own = links.own;
            found = kept id there (ap is_some links.found) ∙ links.found;
            lead = subst (λ ids. AreLinks ids links.own.above) (sym chain) links.lead;
            fits = subst (λ ids. id + length ids ≤ 2 ^ 32) (sym chain) links.fits;
          }

-- ids that have their links are numbers of 32 bits
pub small_from : (snaps : Snaps) (links : AllLinks) → AllHaveLinks snaps links → AreSmall snaps
small_from snaps links linked id there = let begins = chain_begins snaps id there in omega (arith, begins.0, (linked id there).fits)
