-- Leaves pin as much as before where more nodes are pinned, and where more is noted of those that are frozen.
use Rattle.std.proofs.Common.{◌≡◌, ℕ, zero, suc, Bool, true, false, cond, min, List, [], ◌∷◌, ◌++◌, length, map, Option, Some, None, refl, sym, ap, subst, arith}
use Rattle.std.proofs.lemmas.Option.{none-some, same_Some}
use Rattle.std.specs.List.{list_any}
use Rattle.std.specs.Ordering.{nat_cmp}
use Rattle.std.specs.Prelude.{◌==◌, slice_get}
use Rattle.crash_safety.specs.CheckpointLeaves.{FreshLeaf}
use Rattle.crash_safety.specs.LeafSteps.{PinsAsMuch, lacking}
use Rattle.dirty_nodes.specs.Dirty.{with_pins}
use Rattle.crash_safety.specs.Contents.{IsPinnedUpTo}
use Rattle.node_writeback.specs.NodeWork.{NodeWork}
use Rattle.node_writeback.specs.declared.node.FrozenNode.{FrozenNode}
use Rattle.node_writeback.specs.declared.node.UnfinishedNode.{UnfinishedNode}
use Rattle.pin_list.specs.Pins.{smaller}
use Rattle.vol_types.specs.Limits.{bucket_blocks}
use Rattle.vol_types.specs.Maps.{value_at}
use Rattle.vol_core.specs.VolumeLeaves.{fresh_leaf, fresh_leaves, leaves_left}
use Rattle.vol_core.specs.CoreLaws.{PinLaws}

-- The one list pins as much as the other of each node.
abbrev pub PinAsMuch : List (ℕ × ℕ) → List (ℕ × ℕ) → Type 0
PinAsMuch old new = (birth : ℕ) → PinsAsMuch (value_at nat_cmp birth old) (value_at nat_cmp birth new)

-- Where nodes are pinned, each pins as much as before.
pub with_pins-as_much : PinLaws → (seq : ℕ) (births : List ℕ) (numbers : List (ℕ × ℕ)) → PinAsMuch numbers (with_pins seq births numbers)
with_pins-as_much pins seq births numbers birth sequence pinned =
    subst (λ (o : Option ℕ). IsPinnedUpTo o sequence) (sym (pins.each seq birth births numbers)) (by (value_at nat_cmp birth numbers) (list_any (λ (b : ℕ). b == birth) births) pinned)
  where
    by : (o : Option ℕ) (there : Bool) → IsPinnedUpTo o sequence → IsPinnedUpTo (cond there (Some (smaller seq o)) o) sequence
    by None there pinned = absurd (none-some pinned.0 pinned.1)
    by (Some p) true pinned = let same = same_Some p pinned.0 pinned.1 in let low = pinned.2 in (min seq p, refl, omega (arith, same, low))
    by (Some p) false pinned = pinned

module _ (old new : List (ℕ × ℕ)) (more : PinAsMuch old new) where
  -- It is the same leaf, of which as much is noted.
  lacks_more : (written : ℕ) (node : FrozenNode) (one other : FreshLeaf) → Some (fresh_leaf old written node) ≡ Some one → Some (fresh_leaf new written node) ≡ Some other → (other ≡ lacking other.later one) × PinsAsMuch one.later other.later
  lacks_more written node one other first second =
      subst (λ (o : FreshLeaf). (o ≡ lacking o.later one) × PinsAsMuch one.later o.later) (same_Some (fresh_leaf new written node) other second)
      (subst (λ (o : FreshLeaf). (fresh_leaf new written node ≡ lacking (fresh_leaf new written node).later o) × PinsAsMuch o.later (fresh_leaf new written node).later) (same_Some (fresh_leaf old written node) one first) (refl, more node.birth))

  each_more : (finished : List FrozenNode) (unfinished : Option UnfinishedNode) (index : ℕ) (one other : FreshLeaf) → slice_get (map (fresh_leaf old bucket_blocks) finished ++ leaves_left old unfinished) index ≡ Some one
      → slice_get (map (fresh_leaf new bucket_blocks) finished ++ leaves_left new unfinished) index ≡ Some other → (other ≡ lacking other.later one) × PinsAsMuch one.later other.later
  each_more [] None index one other first second = absurd (none-some one first)
  each_more [] (Some left) zero one other first second = lacks_more left.written left.node one other first second
  each_more [] (Some left) (suc index) one other first second = absurd (none-some one first)
  each_more (node ∷ finished) unfinished zero one other first second = lacks_more bucket_blocks node one other first second
  each_more (node ∷ finished) unfinished (suc index) one other first second = each_more finished unfinished index one other first second

  same_count : (finished : List FrozenNode) (unfinished : Option UnfinishedNode) → length (map (fresh_leaf new bucket_blocks) finished ++ leaves_left new unfinished) ≡ length (map (fresh_leaf old bucket_blocks) finished ++ leaves_left old unfinished)
  same_count [] None = refl
  same_count [] (Some left) = refl
  same_count (node ∷ finished) unfinished = ap suc (same_count finished unfinished)

  -- There are as many leaves that are frozen, and they are the same, of each of which as much is noted.
  pub fresh_count : (work : NodeWork) → length (fresh_leaves new work) ≡ length (fresh_leaves old work)
  fresh_count work = same_count work.finished work.unfinished

  pub fresh_more : (work : NodeWork) (index : ℕ) (one other : FreshLeaf) → slice_get (fresh_leaves old work) index ≡ Some one → slice_get (fresh_leaves new work) index ≡ Some other → (other ≡ lacking other.later one) × PinsAsMuch one.later other.later
  fresh_more work = each_more work.finished work.unfinished
