-- What lies outside of some stretches, block by block.
use Rattle.std.proofs.Common.{◌≡◌, ℕ, ◌<◌, ◌≤◌, Bool, true, false, cond, zero, suc, List, [], ◌∷◌, ◌++◌, length, take, drop, get_or, refl, sym, ap, ◌∙◌, subst, arith}
use Rattle.std.specs.Prelude.{nat_le, max, All}
use Rattle.std.proofs.lemmas.Bool.{leb-true, leb-false, le-ltb, le-leb}
use Rattle.std.proofs.lemmas.List.Elements.{All-head, All-tail}
use Rattle.std.proofs.lemmas.List.{get_or-take, length-take}
use Rattle.std.specs.List.Sorted.{IsPartitionedBy, IsPartitionPoint}
use Rattle.extent_ops.specs.declared.stretches.Stretch.{Stretch}
use Rattle.extent_ops.specs.Stretches.{RiseFrom, between, outside}

-- Between a block and one that isn't behind it there is nothing.
pub between-none : (first end : ℕ) → end ≤ first → between first end ≡ []
between-none first end le = ap (λ b. cond b (record { first = first; end = end } ∷ []) []) (le-ltb first end le)

-- Nothing is left of no block.
pub outside-none : (first end : ℕ) (stretches : List Stretch) → end ≤ first → outside first end stretches ≡ []
outside-none first end [] le = between-none first end le
outside-none first end (s ∷ ss) le = by (nat_le end s.first) refl (outside-none (max first s.end) end ss (omega (arith, le)))
  where
    by : (b : Bool) → nat_le end s.first ≡ b → outside (max first s.end) end ss ≡ [] → cond b (between first end) (between first s.first ++ outside (max first s.end) end ss) ≡ []
    by true is later = between-none first end le
    by false is later = (λ i. between-none first s.first (omega (arith, le, leb-false end s.first is)) i ++ later i)

-- Stretches that end before the first block take nothing from what lies behind it.
pub outside-drop : (first end : ℕ) (count from : ℕ) (stretches : List Stretch) → RiseFrom from stretches → All (λ (s : Stretch). s.end ≤ first) (take count stretches) → outside first end (drop count stretches) ≡ outside first end stretches
outside-drop first end zero from stretches rise before = refl
outside-drop first end (suc count) from [] rise before = refl
outside-drop first end (suc count) from (s ∷ ss) rise before =
    outside-drop first end count s.end ss rise.2 (All-tail (λ (s : Stretch). s.end ≤ first) s (take count ss) before) ∙ sym (by (nat_le end s.first) refl)
  where
    ended : s.end ≤ first
    ended = All-head (λ (s : Stretch). s.end ≤ first) s (take count ss) before

    same : max first s.end ≡ first
    same = omega (arith, ended)

    by : (b : Bool) → nat_le end s.first ≡ b → cond b (between first end) (between first s.first ++ outside (max first s.end) end ss) ≡ outside first end ss
    by true is = between-none first end (omega (arith, ended, rise.1, leb-true end s.first is)) ∙ sym (outside-none first end ss (omega (arith, ended, rise.1, leb-true end s.first is)))
    by false is = (λ i. between-none first s.first (omega (arith, ended, rise.1)) i ++ outside (same i) end ss)

-- A stretch of some that rise ends at their beginning or later.
ends_from : (from : ℕ) (stretches : List Stretch) → RiseFrom from stretches → (k : ℕ) (d : Stretch) → k < length stretches → from ≤ (get_or stretches k d).end
ends_from from [] rise k d lt = absurd (omega (arith, lt))
ends_from from (s ∷ ss) rise zero d lt = omega (arith, rise.0, rise.1)
ends_from from (s ∷ ss) rise (suc k) d lt = let later = ends_from s.end ss rise.2 k d (omega (arith, lt)) in omega (arith, rise.0, rise.1, later)

-- Those that end at a block or before it come first.
pub are_parted : (block from : ℕ) (stretches : List Stretch) → RiseFrom from stretches → IsPartitionedBy (λ (s : Stretch). nat_le s.end block) stretches
are_parted block from [] rise i j d le lt ends = absurd (omega (arith, lt))
are_parted block from (s ∷ ss) rise zero zero d le lt ends = ends
are_parted block from (s ∷ ss) rise zero (suc j) d le lt ends = le-leb s.end block (let more = ends_from s.end ss rise.2 j d (omega (arith, lt)) in omega (arith, more, leb-true (get_or ss j d).end block ends))
are_parted block from (s ∷ ss) rise (suc i) zero d le lt ends = absurd (omega (arith, le))
are_parted block from (s ∷ ss) rise (suc i) (suc j) d le lt ends = are_parted block s.end ss rise.2 i j d (omega (arith, le)) (omega (arith, lt)) ends

pub all_before : (block : ℕ) (stretches : List Stretch) (count : ℕ) → IsPartitionPoint (λ (s : Stretch). nat_le s.end block ≡ true) (λ (s : Stretch). nat_le s.end block ≡ false) stretches count → All (λ (s : Stretch). s.end ≤ block) (take count stretches)
all_before block stretches count parted k d lt =
    let within : k < count = omega (arith, length-take count stretches, lt) in
    subst (λ (s : Stretch). s.end ≤ block) (sym (get_or-take count stretches k d within)) (leb-true (get_or stretches k d).end block (parted.0 k d (omega arith) within))
