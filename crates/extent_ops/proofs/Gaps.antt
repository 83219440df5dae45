-- What lies outside of some stretches: parts that have none of their blocks, and all others.
use Rattle.std.proofs.Common.{◌≡◌, ⊎_elim, inl, inr, ℕ, ◌<◌, ◌≤◌, Bool, true, false, cond, List, [], ◌∷◌, ◌++◌, refl, sym, ap, ◌∙◌, subst, arith}
use Rattle.std.specs.Prelude.{◌||◌, nat_le, nat_lt, max}
use Rattle.std.proofs.lemmas.Bool.{ltb-true, ltb-false, leb-true, leb-false, lt-ltb, true≢false}
use Rattle.std.proofs.lemmas.Bool.Decides.{nat_tests}
use Rattle.extent_ops.specs.declared.stretches.Stretch.{Stretch}
use Rattle.extent_ops.specs.Stretches.{RiseFrom, between, has_block, is_within, outside}
use Rattle.extent_ops.proofs.Members.{Has, has-append, has-first, has-second}

-- A stretch doesn't have what lies before or behind it, and has what lies between.
pub not_before : (block : ℕ) (s : Stretch) → block < s.first → has_block block s ≡ false
not_before block s lt = grind (arith, nat_tests)

pub not_behind : (block : ℕ) (s : Stretch) → s.end ≤ block → has_block block s ≡ false
not_behind block s le = grind (arith, nat_tests)

pub has_between : (block : ℕ) (s : Stretch) → s.first ≤ block → block < s.end → has_block block s ≡ true
has_between block s le lt = grind (arith, nat_tests)

pub lies_in : (block : ℕ) (s : Stretch) → has_block block s ≡ true → (s.first ≤ block) × (block < s.end)
lies_in block s has = (grind (arith, nat_tests), grind (arith, nat_tests))

-- Rising stretches have nothing before their beginning.
pub none_before : (from block : ℕ) (stretches : List Stretch) → RiseFrom from stretches → block < from → is_within stretches block ≡ false
none_before from block [] rise lt = refl
none_before from block (s ∷ ss) rise lt = λ i. not_before block s (omega (arith, rise.0, lt)) i || none_before s.end block ss rise.2 (omega (arith, rise.0, rise.1, lt)) i

-- The stretch is a part of the blocks from one up to an end that has none of some stretches' blocks.
pub record IsGap (first end : ℕ) (stretches : List Stretch) (part : Stretch) : Type 0 where
  pub low : first ≤ part.first
  pub some : part.first < part.end
  pub high : part.end ≤ end
  pub free : (block : ℕ) → part.first ≤ block → block < part.end → is_within stretches block ≡ false

pub in_between : (first end : ℕ) (part : Stretch) → Has part (between first end) → (part ≡ record { first = first; end = end }) × (first < end)
in_between first end part has = by (nat_lt first end) refl has
  where
    by : (b : Bool) → nat_lt first end ≡ b → Has part (cond b (record { first = first; end = end } ∷ []) []) → (part ≡ record { first = first; end = end }) × (first < end)
    by true is (inl same) = (same, ltb-true first end is)
    by true is (inr more) = elim more [ ]
    by false is none = elim none [ ]

pub between_has : (first end : ℕ) → first < end → Has {X = Stretch} (record { first = first; end = end }) (between first end)
between_has first end lt = subst (λ (b : Bool). Has {X = Stretch} (record { first = first; end = end }) (cond b (record { first = first; end = end } ∷ []) [])) (sym (lt-ltb first end lt)) (inl refl)

-- the part between two blocks
gap_between : (first end all from : ℕ) (stretches : List Stretch) (part : Stretch) → RiseFrom from stretches → Has part (between first end) → end ≤ from → end ≤ all → IsGap first all stretches part
gap_between first end all from stretches part rise has le most = let are = in_between first end part has in
    let low : part.first ≡ first = ap (λ (s : Stretch). s.first) are.0 in
    let high : part.end ≡ end = ap (λ (s : Stretch). s.end) are.0 in
    record { low = omega (arith, low); some = omega (arith, low, high, are.1); high = omega (arith, high, most); free = λ block up lt. none_before from block stretches rise (omega (arith, high, lt, le)) }

-- Each part that is left is such a part.
pub outside-sound : (first end from : ℕ) (stretches : List Stretch) (part : Stretch) → RiseFrom from stretches → Has part (outside first end stretches) → IsGap first end stretches part
outside-sound first end from [] part rise has = gap_between first end end end [] part tt has (omega arith) (omega arith)
outside-sound first end from (s ∷ ss) part rise has = by (nat_le end s.first) refl has (λ there. outside-sound (max first s.end) end s.end ss part rise.2 there)
  where
    rises : RiseFrom s.first (s ∷ ss)
    rises = (omega arith, rise.1, rise.2)

    by : (b : Bool) → nat_le end s.first ≡ b → Has part (cond b (between first end) (between first s.first ++ outside (max first s.end) end ss))
        → (Has part (outside (max first s.end) end ss) → IsGap (max first s.end) end ss part) → IsGap first end (s ∷ ss) part
    by true is has later = gap_between first end end s.first (s ∷ ss) part rises has (leb-true end s.first is) (omega arith)
    by false is has later = ⊎_elim
        (λ (here : Has part (between first s.first)). gap_between first s.first end s.first (s ∷ ss) part rises here (omega arith) (omega (arith, leb-false end s.first is)))
        (λ (there : Has part (outside (max first s.end) end ss)). let gap = later there in record {
          low = omega (arith, gap.low);
          some = gap.some;
          high = gap.high;
          free = λ block up lt. λ i. not_behind block s (omega (arith, gap.low, up)) i || gap.free block up lt i;
        })
        (has-append part (between first s.first) (outside (max first s.end) end ss) has)

-- The block is in a part that is left.
abbrev pub IsLeft : List Stretch → ℕ → Type 0
IsLeft parts block = (part : Stretch) × (Has part parts × (part.first ≤ block) × (block < part.end))

neither : (a b : Bool) → (a || b) ≡ false → (a ≡ false) × (b ≡ false)
neither true b none = absurd (true≢false none)
neither false b none = (refl, none)

-- Each block that no stretch has is left.
pub outside-whole : (first end block : ℕ) (stretches : List Stretch) → first ≤ block → block < end → is_within stretches block ≡ false → IsLeft (outside first end stretches) block
outside-whole first end block [] le lt free = (record { first = first; end = end }, (between_has first end (omega (arith, le, lt)), le, lt))
outside-whole first end block (s ∷ ss) le lt free = by (nat_le end s.first) refl (nat_lt block s.first) refl (λ up. outside-whole (max first s.end) end block ss up lt parts.1)
  where
    parts : (has_block block s ≡ false) × (is_within ss block ≡ false)
    parts = neither (has_block block s) (is_within ss block) free

    behind : s.first ≤ block → s.end ≤ block
    behind up = either (nat_lt block s.end) refl
      where
        either : (b : Bool) → nat_lt block s.end ≡ b → s.end ≤ block
        either true is = absurd (true≢false (sym (has_between block s up (ltb-true block s.end is)) ∙ parts.0))
        either false is = ltb-false block s.end is

    by : (b : Bool) → nat_le end s.first ≡ b → (c : Bool) → nat_lt block s.first ≡ c → (max first s.end ≤ block → IsLeft (outside (max first s.end) end ss) block)
        → IsLeft (cond b (between first end) (between first s.first ++ outside (max first s.end) end ss)) block
    by true is c test later = (record { first = first; end = end }, (between_has first end (omega (arith, le, lt)), le, lt))
    by false is true test later = (record { first = first; end = s.first }, (has-first (record { first = first; end = s.first }) (between first s.first) (outside (max first s.end) end ss) (between_has first s.first (omega (arith, le, ltb-true block s.first test))), le, ltb-true block s.first test))
    by false is false test later =
        let up : max first s.end ≤ block = omega (arith, le, behind (ltb-false block s.first test)) in
        let left = later up in
        (left.0, (has-second left.0 (between first s.first) (outside (max first s.end) end ss) left.1.0, left.1.1, left.1.2))

-- Parts that are left and have a block in common are one.
pub outside-once : (first end from : ℕ) (stretches : List Stretch) (one other : Stretch) (block : ℕ) → RiseFrom from stretches → Has one (outside first end stretches) → Has other (outside first end stretches)
    → one.first ≤ block → block < one.end → other.first ≤ block → block < other.end → one ≡ other
outside-once first end from [] one other block rise has has' a b c d = (in_between first end one has).0 ∙ sym (in_between first end other has').0
outside-once first end from (s ∷ ss) one other block rise has has' a b c d = by (nat_le end s.first) has has' (λ here there. outside-once (max first s.end) end s.end ss one other block rise.2 here there a b c d)
  where
    apart : (x y : Stretch) → x.first ≤ block → block < x.end → y.first ≤ block → block < y.end → Has x (between first s.first) → Has y (outside (max first s.end) end ss) → ⊥
    apart x y a b c d here there =
        let gap = outside-sound (max first s.end) end s.end ss y rise.2 there in
        let high : x.end ≡ s.first = ap (λ (p : Stretch). p.end) (in_between first s.first x here).0 in
        omega (arith, gap.low, high, b, c, rise.1)

    by : (t : Bool) → Has one (cond t (between first end) (between first s.first ++ outside (max first s.end) end ss)) → Has other (cond t (between first end) (between first s.first ++ outside (max first s.end) end ss))
        → (Has one (outside (max first s.end) end ss) → Has other (outside (max first s.end) end ss) → one ≡ other) → one ≡ other
    by true has has' later = (in_between first end one has).0 ∙ sym (in_between first end other has').0
    by false has has' later = ⊎_elim
        (λ (here : Has one (between first s.first)). ⊎_elim
        (λ (here' : Has other (between first s.first)). (in_between first s.first one here).0 ∙ sym (in_between first s.first other here').0)
        (λ (there : Has other (outside (max first s.end) end ss)). absurd (apart one other a b c d here there))
        (has-append other (between first s.first) (outside (max first s.end) end ss) has'))
        (λ (there : Has one (outside (max first s.end) end ss)). ⊎_elim
        (λ (here' : Has other (between first s.first)). absurd (apart other one c d a b here' there))
        (λ (there' : Has other (outside (max first s.end) end ss)). later there there')
        (has-append other (between first s.first) (outside (max first s.end) end ss) has'))
        (has-append one (between first s.first) (outside (max first s.end) end ss) has)
