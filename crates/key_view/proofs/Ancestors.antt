-- An ancestor is an id of the tree.
use Rattle.std.proofs.Common.{◌≡◌, ℕ, ◌<◌, Bool, true, false, cond, Option, Some, None, List, [], ◌∷◌, refl, sym, ap, ◌∙◌, subst}
use Rattle.std.specs.Prelude.{◌==◌, ◌||◌, nat_eq, is_some, IsSome}
use Rattle.std.specs.List.{list_any}
use Rattle.std.specs.Ordering.{nat_cmp}
use Rattle.std.proofs.lemmas.Bool.{true≢false, eqb-true, eq-eqb}
use Rattle.snap_tree.specs.ChainLaws.{found_above, first_least, others_rise, same_test}
use Rattle.snap_tree.specs.MapLaws.{value_at-cons}
use Rattle.snap_tree.specs.Snaps.{Snaps, chain_of, is_ancestor_of}
use Rattle.vol_types.specs.Maps.{IsMap, value_at}
use Rattle.vol_types.specs.declared.values.Snap.{Snap}

pub ancestor_there : (snaps : Snaps) (a id : ℕ) → IsMap nat_cmp snaps → is_ancestor_of snaps a id ≡ true → IsSome (value_at nat_cmp a snaps)
ancestor_there [] a id rises among = absurd (true≢false (sym among))
ancestor_there (e ∷ snaps) a id rises among =
    ap is_some (value_at-cons e snaps a) ∙ by (e.0 == id) refl among (ancestor_there snaps a e.1.parent (others_rise e snaps rises)) (ancestor_there snaps a id (others_rise e snaps rises))
  where
    later : is_some (value_at nat_cmp a snaps) ≡ true → (c : Bool) → is_some (cond c (Some e.1) (value_at nat_cmp a snaps)) ≡ true
    later there true = refl
    later there false = there

    first : (c : Bool) → nat_eq a id ≡ c → e.0 ≡ id → (c || list_any (nat_eq a) (chain_of snaps e.1.parent)) ≡ true → (list_any (nat_eq a) (chain_of snaps e.1.parent) ≡ true → is_some (value_at nat_cmp a snaps) ≡ true)
        → is_some (cond (e.0 == a) (Some e.1) (value_at nat_cmp a snaps)) ≡ true
    first true same here among above = ap (λ n. is_some (cond (n == a) (Some e.1) (value_at nat_cmp a snaps))) (here ∙ sym (eqb-true a id same)) ∙ ap (λ b. is_some (cond b (Some e.1) (value_at nat_cmp a snaps))) (self a)
      where
        self : (n : ℕ) → (n == n) ≡ true
        self n = eq-eqb n n refl
    first false other here among above = later (above among) (e.0 == a)

    by : (b : Bool) → (e.0 == id) ≡ b → list_any (nat_eq a) (cond b (id ∷ chain_of snaps e.1.parent) (chain_of snaps id)) ≡ true
        → (list_any (nat_eq a) (chain_of snaps e.1.parent) ≡ true → is_some (value_at nat_cmp a snaps) ≡ true)
        → (list_any (nat_eq a) (chain_of snaps id) ≡ true → is_some (value_at nat_cmp a snaps) ≡ true)
        → is_some (cond (e.0 == a) (Some e.1) (value_at nat_cmp a snaps)) ≡ true
    by true same among above along = first (nat_eq a id) refl (eqb-true e.0 id same) among above
    by false other among above along = later (along among) (e.0 == a)
