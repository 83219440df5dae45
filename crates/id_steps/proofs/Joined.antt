-- Records of ids stay joined under a new root, a split leaf and a dead one, and what their chains are then.
use Rattle.std.proofs.Common.{◌≡◌, ℕ, ◌-◌, ◌<◌, ◌≤◌, Bool, true, false, cond, Some, [], ◌∷◌, refl, sym, ap, ◌∙◌, subst, arith, ⊎_elim, inl, inr}
use Rattle.std.specs.Prelude.{◌≢◌, ◌⊎◌, ◌==◌}
use Rattle.std.specs.Ordering.{nat_cmp}
use Rattle.std.proofs.lemmas.Bool.{eq-eqb, eqb-true, ne_eqb, true≢false}
use Rattle.std.proofs.lemmas.Option.{same_Some}
use Rattle.id_steps.specs.Ids.{AreJoined, dead, with_dead, with_root}
use Rattle.key_meaning.specs.Checks.{IsJoined, IsOver, IsUnder}
use Rattle.snap_tree.specs.ChainLaws.{AllAbove, chain_of-lowest, chain_of-none, chain_of-same_parent, found_above, past, with_value-below}
use Rattle.snap_tree.specs.MapLaws.{not_above, value_at-with}
use Rattle.snap_tree.specs.Snaps.{Snaps, chain_of, is_live}
use Rattle.snap_tree.specs.SplitLaws.{split_snaps-is}
use Rattle.snap_tree.specs.Splits.{interior_over, leaf_under, split_snaps}
use Rattle.vol_types.specs.Maps.{IsMap, value_at, with_value}
use Rattle.vol_types.specs.declared.values.Snap.{Snap}
use Rattle.vol_types.specs.declared.values.SnapState.TheVariants.{Interior, LiveLeaf}

-- The id has a record that keeps the parent of an older one, and names each child that this one names.
record Still (new : Snaps) (id : ℕ) (old : Snap) : Type 0 where
  snap : Snap
  found : value_at nat_cmp id new ≡ Some snap
  parent : snap.parent ≡ old.parent
  children : (child : ℕ) → child ≢ 0 → (old.first_child ≡ child) ⊎ (old.second_child ≡ child) → (snap.first_child ≡ child) ⊎ (snap.second_child ≡ child)

same_record : (new : Snaps) (id : ℕ) (snap : Snap) → value_at nat_cmp id new ≡ Some snap → Still new id snap
same_record new id snap found = record { snap = snap; found = found; parent = refl; children = λ child some named. named }

module _ (old new : Snaps) (still : (id : ℕ) (snap : Snap) → value_at nat_cmp id old ≡ Some snap → Still new id snap) where
  under_still : (id parent : ℕ) → IsUnder old id parent → IsUnder new id parent
  under_still id parent was = let now = still parent was.snap was.found in record { some = was.some; snap = now.snap; found = now.found; greater = was.greater; named = now.children id was.some was.named }

  over_still : (id child : ℕ) → IsOver old id child → IsOver new id child
  over_still id child was = let now = still child was.snap was.found in record { snap = now.snap; found = now.found; named = now.parent ∙ was.named }

  -- where all records do so, a record that was joined is joined
  joined_still : (id : ℕ) (snap : Snap) → IsJoined old id snap → IsJoined new id snap
  joined_still id snap was = record {
    parent = λ some. under_still id snap.parent (was.parent some);
    first = λ some. over_still id snap.first_child (was.first some);
    second = λ some. over_still id snap.second_child (was.second some);
    apart = was.apart;
    leaf = was.leaf;
  }

-- a live leaf isn't interior
live_is_leaf : (snap : Snap) → snap.state ≡ LiveLeaf → snap.state ≢ Interior
live_is_leaf snap live interior = true≢false (ap is_live (sym live ∙ interior))

module _ (snaps : Snaps) (id : ℕ) (some : id ≢ 0) (above : AllAbove id snaps) where
  root_found : (x : ℕ) → value_at nat_cmp x (with_root id snaps) ≡ cond (id == x) (Some (leaf_under 0)) (value_at nat_cmp x snaps)
  root_found x = value_at-with snaps id x (leaf_under 0)

  root_still : (x : ℕ) (snap : Snap) → value_at nat_cmp x snaps ≡ Some snap → Still (with_root id snaps) x snap
  root_still x snap is = same_record (with_root id snaps) x snap
      (root_found x ∙ ap (λ b. cond b (Some (leaf_under 0)) (value_at nat_cmp x snaps)) (ne_eqb id x (λ same. let lt : id < x = found_above id x snaps snap above is in omega (arith, lt, same))) ∙ is)

  -- Ids stay joined with a further root,
  pub root_joined : AreJoined snaps → AreJoined (with_root id snaps)
  root_joined joined x snap is = by (id == x) (sym (root_found x) ∙ is)
    where
      root : IsJoined (with_root id snaps) x (leaf_under 0)
      root = record {
        parent = λ none. absurd (none refl);
        first = λ none. absurd (none refl);
        second = λ none. absurd (none refl);
        apart = λ none. absurd (none refl);
        leaf = λ other. (refl, refl);
      }

      by : (b : Bool) → cond b (Some (leaf_under 0)) (value_at nat_cmp x snaps) ≡ Some snap → IsJoined (with_root id snaps) x snap
      by true at = subst (IsJoined (with_root id snaps) x) (same_Some (leaf_under 0) snap at) root
      by false at = joined_still snaps (with_root id snaps) root_still x snap (joined x snap at)

  root_first : with_root id snaps ≡ (id, leaf_under 0) ∷ snaps
  root_first = with_value-below snaps id (leaf_under 0) above

  no_parent : (n : ℕ) → n ≡ 0 → chain_of snaps n ≡ []
  no_parent n zero = chain_of-none snaps n (not_above id n snaps above (inr (omega (arith, some, zero))))

  -- whose chain is itself alone,
  pub root_chain : chain_of (with_root id snaps) id ≡ id ∷ []
  root_chain = ap (λ es. chain_of es id) root_first ∙ chain_of-lowest snaps id (leaf_under 0) ∙ ap (λ ids. id ∷ ids) (no_parent 0 refl)

  -- and all other chains stay.
  pub root_others : (other : ℕ) → other ≢ id → chain_of (with_root id snaps) other ≡ chain_of snaps other
  root_others other apart = ap (λ es. chain_of es other) root_first ∙ past (id, leaf_under 0) snaps other (ne_eqb id other (λ same. apart (sym same)))

module _ (snaps : Snaps) (id : ℕ) (leaf : Snap) (found : value_at nat_cmp id snaps ≡ Some leaf) where
  dead_found : (x : ℕ) → value_at nat_cmp x (with_dead id leaf snaps) ≡ cond (id == x) (Some (dead leaf)) (value_at nat_cmp x snaps)
  dead_found x = value_at-with snaps id x (dead leaf)

  dead_still : (x : ℕ) (snap : Snap) → value_at nat_cmp x snaps ≡ Some snap → Still (with_dead id leaf snaps) x snap
  dead_still x snap is = by (id == x) refl
    where
      by : (b : Bool) → (id == x) ≡ b → Still (with_dead id leaf snaps) x snap
      by true at =
          let same : leaf ≡ snap = same_Some leaf snap (sym found ∙ ap (λ n. value_at nat_cmp n snaps) (eqb-true id x at) ∙ is) in
          record { snap = dead leaf; found = dead_found x ∙ ap (λ b. cond b (Some (dead leaf)) (value_at nat_cmp x snaps)) at; parent = ap (λ (s : Snap). s.parent) same; children = λ child some named. subst (λ (s : Snap). (s.first_child ≡ child) ⊎ (s.second_child ≡ child)) (sym same) named }
      by false at = same_record (with_dead id leaf snaps) x snap (dead_found x ∙ ap (λ b. cond b (Some (dead leaf)) (value_at nat_cmp x snaps)) at ∙ is)

  -- Ids stay joined where a live leaf dies,
  pub dead_joined : leaf.state ≡ LiveLeaf → AreJoined snaps → AreJoined (with_dead id leaf snaps)
  dead_joined live joined x snap is = by (id == x) refl (sym (dead_found x) ∙ is)
    where
      by : (b : Bool) → (id == x) ≡ b → cond b (Some (dead leaf)) (value_at nat_cmp x snaps) ≡ Some snap → IsJoined (with_dead id leaf snaps) x snap
      by true same at =
          let was = joined_still snaps (with_dead id leaf snaps) dead_still id leaf (joined id leaf found) in
          let is_dead : IsJoined (with_dead id leaf snaps) id (dead leaf) = record { parent = was.parent; first = was.first; second = was.second; apart = was.apart; leaf = λ other. was.leaf (live_is_leaf leaf live) } in
          subst (λ n. IsJoined (with_dead id leaf snaps) n snap) (eqb-true id x same) (subst (IsJoined (with_dead id leaf snaps) id) (same_Some (dead leaf) snap at) is_dead)
      by false apart at = joined_still snaps (with_dead id leaf snaps) dead_still x snap (joined x snap at)

  -- and all chains stay.
  pub dead_chains : IsMap nat_cmp snaps → (other : ℕ) → chain_of (with_dead id leaf snaps) other ≡ chain_of snaps other
  dead_chains rises other = chain_of-same_parent snaps id leaf (dead leaf) other rises found refl

module _ (snaps : Snaps) (id next : ℕ) (leaf : Snap) (found : value_at nat_cmp id snaps ≡ Some leaf) (left : 2 ≤ next) (above : AllAbove next snaps) where
  abbrev new : Snaps
  new = split_snaps snaps id next leaf

  abbrev over : Snap
  over = interior_over next (next - 1) leaf

  -- What each id has after a split,
  pub split_found : (x : ℕ) → value_at nat_cmp x new ≡ cond (next - 1 == x) (Some (leaf_under id)) (cond (next == x) (Some (leaf_under id)) (cond (id == x) (Some over) (value_at nat_cmp x snaps)))
  split_found x =
      value_at-with (with_value nat_cmp next (leaf_under id) (with_value nat_cmp id over snaps)) (next - 1) x (leaf_under id)
      ∙ ap (λ o. cond (next - 1 == x) (Some (leaf_under id)) o) (value_at-with (with_value nat_cmp id over snaps) next x (leaf_under id) ∙ ap (λ o. cond (next == x) (Some (leaf_under id)) o) (value_at-with snaps id x over))

  -- so one above the new ones,
  pub found_old : (x : ℕ) → next < x → value_at nat_cmp x new ≡ cond (id == x) (Some over) (value_at nat_cmp x snaps)
  found_old x lt = split_found x ∙ ap (λ b. cond b (Some (leaf_under id)) (cond (next == x) (Some (leaf_under id)) (cond (id == x) (Some over) (value_at nat_cmp x snaps)))) (ne_eqb (next - 1) x (λ same. omega (arith, lt, same)))
      ∙ ap (λ b. cond b (Some (leaf_under id)) (cond (id == x) (Some over) (value_at nat_cmp x snaps))) (ne_eqb next x (λ same. omega (arith, lt, same)))

  is_above : next < id
  is_above = found_above next id snaps leaf above found

  found_id : value_at nat_cmp id new ≡ Some over
  found_id = found_old id is_above ∙ ap (λ b. cond b (Some over) (value_at nat_cmp id snaps)) (eq-eqb id id refl)

  -- the copy,
  pub found_copy : value_at nat_cmp (next - 1) new ≡ Some (leaf_under id)
  found_copy = split_found (next - 1) ∙ ap (λ b. cond b (Some (leaf_under id)) (cond (next == (next - 1)) (Some (leaf_under id)) (cond (id == (next - 1)) (Some over) (value_at nat_cmp (next - 1) snaps)))) (eq-eqb (next - 1) (next - 1) refl)

  -- and the source.
  pub found_source : value_at nat_cmp next new ≡ Some (leaf_under id)
  found_source = split_found next ∙ ap (λ b. cond b (Some (leaf_under id)) (cond (next == next) (Some (leaf_under id)) (cond (id == next) (Some over) (value_at nat_cmp next snaps)))) (ne_eqb (next - 1) next (λ same. omega (arith, left, same)))
      ∙ ap (λ b. cond b (Some (leaf_under id)) (cond (id == next) (Some over) (value_at nat_cmp next snaps))) (eq-eqb next next refl)

  module _ (live : leaf.state ≡ LiveLeaf) (joined : AreJoined snaps) where
    -- the old leaf names no child
    no_child : (child : ℕ) → child ≢ 0 → (leaf.first_child ≡ child) ⊎ (leaf.second_child ≡ child) → ⊥
    no_child child some named = let none = (joined id leaf found).leaf (live_is_leaf leaf live) in
        ⊎_elim (λ (first : leaf.first_child ≡ child). some (sym first ∙ none.0)) (λ (second : leaf.second_child ≡ child). some (sym second ∙ none.1)) named

    split_still : (x : ℕ) (snap : Snap) → value_at nat_cmp x snaps ≡ Some snap → Still new x snap
    split_still x snap is = by (id == x) refl
      where
        old : value_at nat_cmp x new ≡ cond (id == x) (Some over) (value_at nat_cmp x snaps)
        old = found_old x (found_above next x snaps snap above is)

        by : (b : Bool) → (id == x) ≡ b → Still new x snap
        by true at =
            let same : leaf ≡ snap = same_Some leaf snap (sym found ∙ ap (λ n. value_at nat_cmp n snaps) (eqb-true id x at) ∙ is) in
            record { snap = over; found = old ∙ ap (λ b. cond b (Some over) (value_at nat_cmp x snaps)) at; parent = ap (λ (s : Snap). s.parent) same; children = λ child some named. absurd (no_child child some (subst (λ (s : Snap). (s.first_child ≡ child) ⊎ (s.second_child ≡ child)) (sym same) named)) }
        by false at = same_record new x snap (old ∙ ap (λ b. cond b (Some over) (value_at nat_cmp x snaps)) at ∙ is)

    interior : IsJoined new id over
    interior = let was = joined_still snaps new split_still id leaf (joined id leaf found) in record {
      parent = was.parent;
      first = λ some. record { snap = leaf_under id; found = found_source; named = refl };
      second = λ some. record { snap = leaf_under id; found = found_copy; named = refl };
      apart = λ some same. omega (arith, left, same);
      leaf = λ other. absurd (other refl);
    }

    -- a new leaf is joined to the old one
    new_leaf : (x : ℕ) → x ≢ 0 → x < id → (next ≡ x) ⊎ (next - 1 ≡ x) → IsJoined new x (leaf_under id)
    new_leaf x some lt named = record {
      parent = λ _. record { some = some; snap = over; found = found_id; greater = lt; named = named };
      first = λ none. absurd (none refl);
      second = λ none. absurd (none refl);
      apart = λ none. absurd (none refl);
      leaf = λ other. (refl, refl);
    }

    -- Ids stay joined where a live leaf is split,
    pub split_joined : AreJoined new
    split_joined x snap is = by (next - 1 == x) refl (next == x) refl (id == x) refl (sym (split_found x) ∙ is)
      where
        by : (a : Bool) → (next - 1 == x) ≡ a → (b : Bool) → (next == x) ≡ b → (c : Bool) → (id == x) ≡ c
            → cond a (Some (leaf_under id)) (cond b (Some (leaf_under id)) (cond c (Some over) (value_at nat_cmp x snaps))) ≡ Some snap → IsJoined new x snap
        by true at b two c three found = let same : next - 1 ≡ x = eqb-true (next - 1) x at in
            subst (IsJoined new x) (same_Some (leaf_under id) snap found) (new_leaf x (λ zero. omega (arith, left, same, zero)) (omega (arith, is_above, same)) (inr same))
        by false one true at c three found = let same : next ≡ x = eqb-true next x at in
            subst (IsJoined new x) (same_Some (leaf_under id) snap found) (new_leaf x (λ zero. omega (arith, left, same, zero)) (omega (arith, is_above, same)) (inl same))
        by false one false two true at found = subst (λ n. IsJoined new n snap) (eqb-true id x at) (subst (IsJoined new id) (same_Some over snap found) interior)
        by false one false two false three found = joined_still snaps new split_still x snap (joined x snap found)

  -- and all chains but those of the new leaves stay.
  pub split_others : IsMap nat_cmp snaps → (other : ℕ) → other ≢ next → other ≢ next - 1 → chain_of new other ≡ chain_of snaps other
  split_others rises other apart also =
      let others = with_value nat_cmp id over snaps in
      ap (λ es. chain_of es other) (split_snaps-is snaps id next leaf rises found left above)
      ∙ past (next - 1, leaf_under id) ((next, leaf_under id) ∷ others) other (ne_eqb (next - 1) other (λ same. also (sym same)))
      ∙ past (next, leaf_under id) others other (ne_eqb next other (λ same. apart (sym same)))
      ∙ chain_of-same_parent snaps id leaf over other rises found refl
