-- How many live leaves there are after a new root, a split and a death.
use Rattle.std.proofs.Common.{◌≡◌, ℕ, ◌+◌, ◌-◌, ◌<◌, ◌≤◌, cond, Option, Some, None, refl, ap, ◌∙◌, arith, inl, inr}
use Rattle.std.specs.Prelude.{◌⊎◌, option_map, unwrap_or}
use Rattle.std.specs.Ordering.{nat_cmp}
use Rattle.std.proofs.lemmas.Bool.{ne_eqb}
use Rattle.std.proofs.lemmas.Cmp.{nat_cmp_total}
use Rattle.std.proofs.lemmas.Map.Entries.{sum_by-insert_entry}
use Rattle.id_steps.specs.Ids.{dead, with_dead, with_root}
use Rattle.snap_tree.specs.ChainLaws.{AllAbove, found_above}
use Rattle.snap_tree.specs.MapLaws.{not_above, rises-with, value_at-with}
use Rattle.snap_tree.specs.Snaps.{Snaps, is_live, live_leaves}
use Rattle.snap_tree.specs.Splits.{interior_over, leaf_under, split_snaps}
use Rattle.vol_types.specs.Maps.{IsMap, value_at, with_value}
use Rattle.vol_types.specs.declared.values.Snap.{Snap}
use Rattle.vol_types.specs.declared.values.SnapState.TheVariants.{LiveLeaf}

-- how many live leaves a record is, and one that may be none
abbrev live : Snap → ℕ
live snap = cond {A = ℕ} (is_live snap.state) 1 0

abbrev live_maybe : Option Snap → ℕ
live_maybe snap = unwrap_or (option_map live snap) 0

put_live : (snaps : Snaps) (id : ℕ) (snap : Snap) → IsMap nat_cmp snaps → live_leaves (with_value nat_cmp id snap snaps) + live_maybe (value_at nat_cmp id snaps) ≡ live_leaves snaps + live snap
put_live snaps id snap rises = sum_by-insert_entry live nat_cmp_total snaps id snap rises

-- One more with a new root,
pub root_counted : (snaps : Snaps) (id : ℕ) → IsMap nat_cmp snaps → AllAbove id snaps → live_leaves (with_root id snaps) ≡ live_leaves snaps + 1
root_counted snaps id rises above =
    let sums = put_live snaps id (leaf_under 0) rises in
    let none : live_maybe (value_at nat_cmp id snaps) ≡ 0 = ap live_maybe (not_above id id snaps above (inl refl)) in
    let one : live (leaf_under 0) ≡ 1 = refl in
    omega (arith, sums, none, one)

-- one less where a live leaf dies,
pub dead_counted : (snaps : Snaps) (id : ℕ) (leaf : Snap) → IsMap nat_cmp snaps → value_at nat_cmp id snaps ≡ Some leaf → leaf.state ≡ LiveLeaf → live_leaves (with_dead id leaf snaps) + 1 ≡ live_leaves snaps
dead_counted snaps id leaf rises found is =
    let sums = put_live snaps id (dead leaf) rises in
    let was : live_maybe (value_at nat_cmp id snaps) ≡ 1 = ap live_maybe found ∙ ap (λ s. cond {A = ℕ} (is_live s) 1 0) is in
    let none : live (dead leaf) ≡ 0 = refl in
    omega (arith, sums, was, none)

-- and one more where one is split.
pub split_counted : (snaps : Snaps) (id next : ℕ) (leaf : Snap) → IsMap nat_cmp snaps → value_at nat_cmp id snaps ≡ Some leaf → leaf.state ≡ LiveLeaf → 2 ≤ next → AllAbove next snaps → live_leaves (split_snaps snaps id next leaf) ≡ live_leaves snaps + 1
split_counted snaps id next leaf rises found is left above =
    let lt : next < id = found_above next id snaps leaf above found in
    let first = put_live snaps id (interior_over next (next - 1) leaf) rises in
    let rises_one = rises-with snaps id (interior_over next (next - 1) leaf) rises in
    let second = put_live (with_value nat_cmp id (interior_over next (next - 1) leaf) snaps) next (leaf_under id) rises_one in
    let third = put_live (with_value nat_cmp next (leaf_under id) (with_value nat_cmp id (interior_over next (next - 1) leaf) snaps)) (next - 1) (leaf_under id) (rises-with (with_value nat_cmp id (interior_over next (next - 1) leaf) snaps) next (leaf_under id) rises_one) in
    let was : live_maybe (value_at nat_cmp id snaps) ≡ 1 = ap live_maybe found ∙ ap (λ s. cond {A = ℕ} (is_live s) 1 0) is in
    let none : live_maybe (value_at nat_cmp next (with_value nat_cmp id (interior_over next (next - 1) leaf) snaps)) ≡ 0 = ap live_maybe (other next (λ same. omega (arith, lt, same)) (inl refl)) in
    let also : live_maybe (value_at nat_cmp (next - 1) (with_value nat_cmp next (leaf_under id) (with_value nat_cmp id (interior_over next (next - 1) leaf) snaps))) ≡ 0 =
    ap live_maybe (value_at-with (with_value nat_cmp id (interior_over next (next - 1) leaf) snaps) next (next - 1) (leaf_under id) ∙ ap (λ b. cond b (Some (leaf_under id)) (value_at nat_cmp (next - 1) (with_value nat_cmp id (interior_over next (next - 1) leaf) snaps))) (ne_eqb next (next - 1) (λ same. omega (arith, left, same)))
    ∙ other (next - 1) (λ same. omega (arith, lt, same)) (inr (omega (arith, left)))) in
    let interior : live (interior_over next (next - 1) leaf) ≡ 0 = refl in
    let leaves : live (leaf_under id) ≡ 1 = refl in
    omega (arith, first, second, third, was, none, also, interior, leaves)
  where
    other : (x : ℕ) → (id ≡ x → ⊥) → (x ≡ next) ⊎ (x < next) → value_at nat_cmp x (with_value nat_cmp id (interior_over next (next - 1) leaf) snaps) ≡ None
    other x apart le = value_at-with snaps id x (interior_over next (next - 1) leaf) ∙ ap (λ b. cond b (Some (interior_over next (next - 1) leaf)) (value_at nat_cmp x snaps)) (ne_eqb id x apart) ∙ not_above next x snaps above le
