-- What a split does to chains, where its new ids are below all others: each new leaf has the chain of the old leaf above
-- it, and all other chains stay.
use Rattle.std.proofs.Common.{◌≡◌, ℕ, ◌-◌, ◌<◌, ◌≤◌, Bool, true, false, cond, Option, Some, ◌∷◌, refl, sym, ap, ◌∙◌, subst, arith, inl, inr}
use Rattle.std.specs.Prelude.{◌⊎◌, ◌==◌, ◌||◌, IsSome}
use Rattle.std.proofs.lemmas.Bool.{eqb-true, eq-eqb, lt-ltb}
use Rattle.std.proofs.lemmas.Option.{same_Some}
use Rattle.std.specs.Ordering.{nat_cmp}
use Rattle.vol_types.specs.Maps.{IsMap, value_at, with_value}
use Rattle.vol_types.specs.declared.values.Snap.{Snap}
use Rattle.snap_tree.specs.Snaps.{Snaps, IsSnapTree, chain_of, are_trees, is_joined}
use Rattle.snap_tree.specs.Splits.{IsSplit, leaf_under, interior_over, split_snaps}
use Rattle.snap_tree.specs.Updates.{snaps_after}
use Rattle.snap_tree.specs.declared.split.Split.{Split}
use Rattle.snap_tree.specs.MapLaws.{value_at-with, rises-with}
use Rattle.snap_tree.specs.TreeLaws.{joined_from, joins, found_joined, there_from_found, there_more, trees_more}
use Rattle.snap_tree.specs.ChainLaws.{AllAbove, all_lower, still_above, found_above, with_value-below, chain_of-below, chain_of-lowest, chain_of-same_parent}

module _ (snaps : Snaps) (id next : ℕ) (leaf : Snap) (rises : IsMap nat_cmp snaps) (found : value_at nat_cmp id snaps ≡ Some leaf) (left : 2 ≤ next) (fresh : AllAbove next snaps) where
  above : next < id
  above = found_above next id snaps leaf fresh found

  with_source : with_value nat_cmp next (leaf_under id) (with_value nat_cmp id (interior_over next (next - 1) leaf) snaps) ≡ (next, leaf_under id) ∷ with_value nat_cmp id (interior_over next (next - 1) leaf) snaps
  with_source = with_value-below (with_value nat_cmp id (interior_over next (next - 1) leaf) snaps) next (leaf_under id) (still_above next id (interior_over next (next - 1) leaf) snaps above fresh)

  -- the new ids stand before the others
  pub split_snaps-is : split_snaps snaps id next leaf ≡ (next - 1, leaf_under id) ∷ (next, leaf_under id) ∷ with_value nat_cmp id (interior_over next (next - 1) leaf) snaps
  split_snaps-is =
      let others = with_value nat_cmp id (interior_over next (next - 1) leaf) snaps in
      let lower : next - 1 < next = omega (arith, left) in
      ap (λ es. with_value nat_cmp (next - 1) (leaf_under id) es) with_source
      ∙ with_value-below ((next, leaf_under id) ∷ others) (next - 1) (leaf_under id) (lower, all_lower (next - 1) next others lower (still_above next id (interior_over next (next - 1) leaf) snaps above fresh))

  same : (x : ℕ) → chain_of (with_value nat_cmp id (interior_over next (next - 1) leaf) snaps) x ≡ chain_of snaps x
  same x = chain_of-same_parent snaps id leaf (interior_over next (next - 1) leaf) x rises found refl

  -- the chain of an id above the new ones stays
  pub chain-others : (x : ℕ) → next < x → chain_of (split_snaps snaps id next leaf) x ≡ chain_of snaps x
  chain-others x lt =
      let others = with_value nat_cmp id (interior_over next (next - 1) leaf) snaps in
      ap (λ es. chain_of es x) split_snaps-is ∙ chain_of-below ((next, leaf_under id) ∷ others) (next - 1) (leaf_under id) x (omega (arith, lt)) ∙ chain_of-below others next (leaf_under id) x lt ∙ same x

  -- the source goes on above the old leaf
  pub chain-source : chain_of (split_snaps snaps id next leaf) next ≡ next ∷ chain_of snaps id
  chain-source =
      let others = with_value nat_cmp id (interior_over next (next - 1) leaf) snaps in
      ap (λ es. chain_of es next) split_snaps-is ∙ chain_of-below ((next, leaf_under id) ∷ others) (next - 1) (leaf_under id) next (omega (arith, left)) ∙ chain_of-lowest others next (leaf_under id) ∙ ap (λ ids. next ∷ ids) (same id)

  -- and so does the copy
  pub chain-copy : chain_of (split_snaps snaps id next leaf) (next - 1) ≡ (next - 1) ∷ chain_of snaps id
  chain-copy =
      let others = with_value nat_cmp id (interior_over next (next - 1) leaf) snaps in
      ap (λ es. chain_of es (next - 1)) split_snaps-is ∙ chain_of-lowest ((next, leaf_under id) ∷ others) (next - 1) (leaf_under id) ∙ ap (λ ids. (next - 1) ∷ ids) (chain_of-below others next (leaf_under id) id above ∙ same id)

  -- the records after the split
  abbrev after : Snaps
  after = split_snaps snaps id next leaf

  after_found : (x : ℕ) → value_at nat_cmp x after ≡ cond (next - 1 == x) (Some (leaf_under id)) (cond (next == x) (Some (leaf_under id)) (cond (id == x) (Some (interior_over next (next - 1) leaf)) (value_at nat_cmp x snaps)))
  after_found x =
      let over = with_value nat_cmp id (interior_over next (next - 1) leaf) snaps in
      value_at-with (with_value nat_cmp next (leaf_under id) over) (next - 1) x (leaf_under id)
      ∙ ap (λ o. cond (next - 1 == x) (Some (leaf_under id)) o) (value_at-with over next x (leaf_under id) ∙ ap (λ o. cond (next == x) (Some (leaf_under id)) o) (value_at-with snaps id x (interior_over next (next - 1) leaf)))

  -- what was there is there
  still_there : (x : ℕ) → IsSome (value_at nat_cmp x snaps) → IsSome (value_at nat_cmp x after)
  still_there x there = subst IsSome (sym (after_found x)) (some3 (next - 1 == x) (next == x) (id == x) (value_at nat_cmp x snaps) there)
    where
      some3 : (a b c : Bool) (o : Option Snap) → IsSome o → IsSome (cond a (Some (leaf_under id)) (cond b (Some (leaf_under id)) (cond c (Some (interior_over next (next - 1) leaf)) o)))
      some3 true b c o there = refl
      some3 false true c o there = refl
      some3 false false true o there = refl
      some3 false false false o there = there

  source_there : IsSome (value_at nat_cmp next after)
  source_there = subst IsSome (sym (after_found next ∙ ap (λ b. cond (next - 1 == next) (Some (leaf_under id)) (cond b (Some (leaf_under id)) (cond (id == next) (Some (interior_over next (next - 1) leaf)) (value_at nat_cmp next snaps)))) (eq-eqb next next refl))) (some2 (next - 1 == next))
    where
      some2 : (a : Bool) → IsSome (cond a (Some (leaf_under id)) (Some (leaf_under id)))
      some2 true = refl
      some2 false = refl

  copy_there : IsSome (value_at nat_cmp (next - 1) after)
  copy_there = subst IsSome (sym (after_found (next - 1) ∙ ap (λ b. cond b (Some (leaf_under id)) (cond (next == (next - 1)) (Some (leaf_under id)) (cond (id == (next - 1)) (Some (interior_over next (next - 1) leaf)) (value_at nat_cmp (next - 1) snaps)))) (eq-eqb (next - 1) (next - 1) refl))) refl

  id_there : IsSome (value_at nat_cmp id after)
  id_there = still_there id (subst IsSome (sym found) refl)

  -- the new leaves are joined to the old one
  leaf_joined : (x : ℕ) → x < id → is_joined after x (leaf_under id) ≡ true
  leaf_joined x lt = joined_from after x (leaf_under id) (there_from_found after id id_there) (ap (λ b. id == 0 || b) (lt-ltb x id lt) ∙ last (id == 0)) refl refl
    where
      last : (b : Bool) → (b || true) ≡ true
      last true = refl
      last false = refl

  -- and so is it to them
  interior_joined : are_trees snaps ≡ true → is_joined after id (interior_over next (next - 1) leaf) ≡ true
  interior_joined trees =
      let parts = joins snaps id leaf (found_joined snaps snaps id leaf trees found) in
      joined_from after id (interior_over next (next - 1) leaf) (there_more snaps after still_there leaf.parent parts.parent) parts.above (there_from_found after next source_there) (there_from_found after (next - 1) copy_there)

  -- a tree that was split is a tree
  pub split_is_tree : are_trees snaps ≡ true → IsSnapTree after
  split_is_tree trees = record { rises = rises_after; trees = trees_more snaps after still_there rises_after trees (λ x snap is. each x snap (next - 1 == x) refl (next == x) refl (id == x) refl (sym (after_found x) ∙ is)) }
    where
      rises_after : IsMap nat_cmp after
      rises_after = rises-with (with_value nat_cmp next (leaf_under id) (with_value nat_cmp id (interior_over next (next - 1) leaf) snaps)) (next - 1) (leaf_under id) (rises-with (with_value nat_cmp id (interior_over next (next - 1) leaf) snaps) next (leaf_under id) (rises-with snaps id (interior_over next (next - 1) leaf) rises))

      each : (x : ℕ) (snap : Snap) (a : Bool) → (next - 1 == x) ≡ a → (b : Bool) → (next == x) ≡ b → (c : Bool) → (id == x) ≡ c
          → cond a (Some (leaf_under id)) (cond b (Some (leaf_under id)) (cond c (Some (interior_over next (next - 1) leaf)) (value_at nat_cmp x snaps))) ≡ Some snap
          → (value_at nat_cmp x snaps ≡ Some snap) ⊎ (is_joined after x snap ≡ true)
      each x snap true at b two c three is = inr (subst (λ s. is_joined after x s ≡ true) (same_Some (leaf_under id) snap is) (leaf_joined x (omega (arith, above, eqb-true (next - 1) x at))))
      each x snap false one true at c three is = inr (subst (λ s. is_joined after x s ≡ true) (same_Some (leaf_under id) snap is) (leaf_joined x (omega (arith, above, eqb-true next x at))))
      each x snap false one false two true at is = inr (subst (λ s. is_joined after x s ≡ true) (same_Some (interior_over next (next - 1) leaf) snap is) (subst (λ n. is_joined after n (interior_over next (next - 1) leaf) ≡ true) (eqb-true id x at) (interior_joined trees)))
      each x snap false one false two false three is = inl is

-- the updates of a split make these records
pub split_updates : (snaps : Snaps) (id next : ℕ) (split : Split) (is : IsSplit snaps id next split) → snaps_after snaps split.updates ≡ split_snaps snaps id next is.leaf
split_updates snaps id next split is = ap (snaps_after snaps) is.updates
