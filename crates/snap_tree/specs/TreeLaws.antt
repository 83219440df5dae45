-- What is known of an id in trees: its parent is none, or greater and there.
use Rattle.std.proofs.Common.{◌≡◌, ℕ, ◌+◌, ◌-◌, ◌^◌, ◌<◌, Bool, true, false, cond, Some, [], ◌∷◌, refl, ap, ◌∙◌, subst, arith, inl, inr, ⊎_elim}
use Rattle.std.specs.Prelude.{◌⊎◌, ◌==◌, ◌&&◌, ◌||◌, nat_lt, is_some, IsSome}
use Rattle.std.specs.List.{list_all}
use Rattle.std.specs.Ordering.{nat_cmp}
use Rattle.std.proofs.lemmas.Bool.{and_parts, eq-eqb, eqb-true, ltb-true, ne_eqb}
use Rattle.std.proofs.lemmas.Option.{same_Some, none-some as none_some}
use Rattle.vol_types.specs.Maps.{IsMap, value_at}
use Rattle.vol_types.specs.declared.values.Snap.{Snap}
use Rattle.snap_tree.specs.Snaps.{Snaps, is_there, is_joined, are_trees}
use Rattle.snap_tree.specs.ChainLaws.{same_test}
use Rattle.snap_tree.specs.MapLaws.{trees_from_found}

either : (a b : Bool) → (a || b) ≡ true → (a ≡ true) ⊎ (b ≡ true)
either true b is = inl refl
either false b is = inr is

module _ (all : Snaps) where
  -- an id that is found is joined, where all are
  pub found_joined : (snaps : Snaps) (id : ℕ) (snap : Snap) → list_all (λ entry. is_joined all entry.0 entry.1) snaps ≡ true → value_at nat_cmp id snaps ≡ Some snap → is_joined all id snap ≡ true
  found_joined [] id snap test is = absurd (none_some snap is)
  found_joined (e ∷ snaps) id snap test is =
      here (e.0 == id) refl (subst (λ b. cond b (Some e.1) (value_at nat_cmp id snaps) ≡ Some snap) (same_test id e.0) is) (found_joined snaps id snap)
    where
      parts : (is_joined all e.0 e.1 ≡ true) × (list_all (λ entry. is_joined all entry.0 entry.1) snaps ≡ true)
      parts = and_parts (is_joined all e.0 e.1) (list_all (λ entry. is_joined all entry.0 entry.1) snaps) test

      here : (b : Bool) → (e.0 == id) ≡ b → cond b (Some e.1) (value_at nat_cmp id snaps) ≡ Some snap → (list_all (λ entry. is_joined all entry.0 entry.1) snaps ≡ true → value_at nat_cmp id snaps ≡ Some snap → is_joined all id snap ≡ true) → is_joined all id snap ≡ true
      here true same found later = subst (λ n. is_joined all n snap ≡ true) (eqb-true e.0 id same) (subst (λ s. is_joined all e.0 s ≡ true) (same_Some e.1 snap found) parts.0)
      here false other found later = later parts.1 found

-- The parent is none, or greater than the id and there.
abbrev pub HasParent : Snaps → ℕ → ℕ → Type 0
HasParent snaps id parent = (parent ≡ 0) ⊎ ((id < parent) × IsSome (value_at nat_cmp parent snaps))

pub parent_joined : (snaps : Snaps) (id : ℕ) (snap : Snap) → are_trees snaps ≡ true → value_at nat_cmp id snaps ≡ Some snap → HasParent snaps id snap.parent
parent_joined snaps id snap trees is =
    let parent = snap.parent in
    let all = found_joined snaps snaps id snap trees is in
    let first = and_parts (is_there snaps parent && (parent == 0 || nat_lt id parent) && is_there snaps snap.first_child) (is_there snaps snap.second_child) all in
    let second = and_parts (is_there snaps parent && (parent == 0 || nat_lt id parent)) (is_there snaps snap.first_child) first.0 in
    let third = and_parts (is_there snaps parent) (parent == 0 || nat_lt id parent) second.0 in
    ⊎_elim (λ (none : (parent == 0) ≡ true). inl (eqb-true parent 0 none))
    (λ (up : nat_lt id parent ≡ true). ⊎_elim (λ (none : (parent == 0) ≡ true). inl (eqb-true parent 0 none)) (λ (there : is_some (value_at nat_cmp parent snaps) ≡ true). inr (ltb-true id parent up, there))
    (either (parent == 0) (is_some (value_at nat_cmp parent snaps)) third.0)) (either (parent == 0) (nat_lt id parent) third.1)

pub is_above : (snaps : Snaps) (id parent : ℕ) → HasParent snaps id parent → (parent ≡ 0) ⊎ (id < parent)
is_above snaps id parent has = ⊎_elim (λ (none : parent ≡ 0). inl none) (λ (up : (id < parent) × IsSome (value_at nat_cmp parent snaps)). inr up.0) has

-- the way up comes to an end, since ids below 2^32 rise on it
pub falls : (snaps : Snaps) (id parent : ℕ) → (id ≡ 0 → ⊥) → HasParent snaps id parent → parent < 2 ^ 32 → cond (parent == 0) 0 (2 ^ 32 - parent + 1) < cond (id == 0) 0 (2 ^ 32 - id + 1)
falls snaps id parent some has fits =
    let start : cond (id == 0) 0 (2 ^ 32 - id + 1) ≡ 2 ^ 32 - id + 1 = ap (λ b. cond b 0 (2 ^ 32 - id + 1)) (ne_eqb id 0 some) in
    ⊎_elim (λ (none : parent ≡ 0). let end : cond (parent == 0) 0 (2 ^ 32 - parent + 1) ≡ 0 = ap (λ b. cond b 0 (2 ^ 32 - parent + 1)) (eq-eqb parent 0 none) in omega (arith, start, end))
    (λ (up : (id < parent) × IsSome (value_at nat_cmp parent snaps)).
    let end : cond (parent == 0) 0 (2 ^ 32 - parent + 1) ≡ 2 ^ 32 - parent + 1 = ap (λ b. cond b 0 (2 ^ 32 - parent + 1)) (ne_eqb parent 0 (λ none. omega (arith, up.0, none))) in
    omega (arith, start, end, up.0, fits)) has

-- a record is joined where what it names is there, and its parent is above it
pub joined_from : (snaps : Snaps) (id : ℕ) (snap : Snap) → is_there snaps snap.parent ≡ true → (snap.parent == 0 || nat_lt id snap.parent) ≡ true → is_there snaps snap.first_child ≡ true → is_there snaps snap.second_child ≡ true → is_joined snaps id snap ≡ true
joined_from snaps id snap parent above first second =
    ap (λ b. b && (snap.parent == 0 || nat_lt id snap.parent) && is_there snaps snap.first_child && is_there snaps snap.second_child) parent
    ∙ ap (λ b. b && is_there snaps snap.first_child && is_there snaps snap.second_child) above ∙ ap (λ b. b && is_there snaps snap.second_child) first ∙ second

-- What a record that is joined names is there, and its parent is above it.
pub record Joins (snaps : Snaps) (id : ℕ) (snap : Snap) : Type 0 where
  pub parent : is_there snaps snap.parent ≡ true
  pub above : (snap.parent == 0 || nat_lt id snap.parent) ≡ true
  pub first : is_there snaps snap.first_child ≡ true
  pub second : is_there snaps snap.second_child ≡ true

pub joins : (snaps : Snaps) (id : ℕ) (snap : Snap) → is_joined snaps id snap ≡ true → Joins snaps id snap
joins snaps id snap joined =
    let above = snap.parent == 0 || nat_lt id snap.parent in
    let last = and_parts (is_there snaps snap.parent && above && is_there snaps snap.first_child) (is_there snaps snap.second_child) joined in
    let third = and_parts (is_there snaps snap.parent && above) (is_there snaps snap.first_child) last.0 in
    let two = and_parts (is_there snaps snap.parent) above third.0 in
    record { parent = two.0; above = two.1; first = third.1; second = last.1 }

-- an id that is there is so as a number that is named
pub there_from_found : (snaps : Snaps) (id : ℕ) → IsSome (value_at nat_cmp id snaps) → is_there snaps id ≡ true
there_from_found snaps id there = ap (λ b. id == 0 || b) there ∙ last (id == 0)
  where
    last : (b : Bool) → (b || true) ≡ true
    last true = refl
    last false = refl

module _ (old new : Snaps) (more : (x : ℕ) → IsSome (value_at nat_cmp x old) → IsSome (value_at nat_cmp x new)) where
  pub there_more : (id : ℕ) → is_there old id ≡ true → is_there new id ≡ true
  there_more id there = here (id == 0) refl there
    where
      here : (b : Bool) → (id == 0) ≡ b → (b || is_some (value_at nat_cmp id old)) ≡ true → (id == 0 || is_some (value_at nat_cmp id new)) ≡ true
      here true none found = ap (λ b. b || is_some (value_at nat_cmp id new)) none
      here false some found = there_from_found new id (more id found)

  -- a record stays joined where nothing is taken away
  pub joined_more : (id : ℕ) (snap : Snap) → is_joined old id snap ≡ true → is_joined new id snap ≡ true
  joined_more id snap joined =
      let parts = joins old id snap joined in
      joined_from new id snap (there_more snap.parent parts.parent) parts.above (there_more snap.first_child parts.first) (there_more snap.second_child parts.second)

  -- trees with changed and new records are trees where these are joined
  pub trees_more : IsMap nat_cmp new → are_trees old ≡ true → ((x : ℕ) (snap : Snap) → value_at nat_cmp x new ≡ Some snap → (value_at nat_cmp x old ≡ Some snap) ⊎ (is_joined new x snap ≡ true)) → are_trees new ≡ true
  trees_more rises trees each =
      trees_from_found new rises (λ x snap is. ⊎_elim (λ (was : value_at nat_cmp x old ≡ Some snap). joined_more x snap (found_joined old old x snap trees was)) (λ (joined : is_joined new x snap ≡ true). joined) (each x snap is))
