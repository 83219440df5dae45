-- How often a value uses a place, and that what is left of a value that is cut uses it no oftener than the whole.
use Rattle.std.proofs.Common.{◌≡◌, ℕ, zero, suc, ◌+◌, ◌-◌, ◌<◌, ◌≤◌, Bool, true, false, cond, Option, Some, None, List, [], ◌∷◌, ◌++◌, drop, length, map, max, min, take, refl, sym, ap, ◌∙◌, arith}
use Rattle.std.specs.Prelude.{All, count_by, flat_map, nat_le, nat_lt}
use Rattle.std.specs.List.{range_with_len}
use Rattle.std.proofs.lemmas.Bool.{leb-false, leb-true, ltb-true}
use Rattle.std.proofs.lemmas.List.{length-drop, length-take}
use Rattle.std.proofs.lemmas.List.Elements.{All-head, All-tail}
use Rattle.std.proofs.lemmas.List.Sums.{sum_by-append, sum_by-cons}
use Rattle.vol_types.specs.declared.pointers.Place.{Place}
use Rattle.vol_types.specs.declared.pointers.Pointer.{Pointer}
use Rattle.vol_types.specs.declared.values.Extent.{Extent}
use Rattle.vol_types.specs.declared.values.Value.{Value}
use Rattle.vol_types.specs.declared.values.Value.TheVariants as values
use Rattle.key_meaning.specs.Blocks.{blocks_of, place_at}
use Rattle.key_meaning.specs.Checks.{is_place, places_behind, places_of}
use Rattle.extent_ops.specs.Content.{HavePlaces}
use Rattle.extent_ops.specs.Cutting.{cut_value, does_reach, is_kept, part_of, pointer_behind, put_part, removed}
use Rattle.extent_ops.specs.Stretches.{RiseFrom, between, outside}
use Rattle.extent_ops.specs.declared.cutting.Change.{Change}
use Rattle.extent_ops.specs.declared.stretches.Stretch.{Stretch}
use Rattle.extent_ops.proofs.Outside.{outside-none}

-- one where a test passes
abbrev one_if : Bool → ℕ
one_if b = cond {A = ℕ} b 1 0

module _ (place : Place) where
  -- how often some places are this one
  abbrev pub uses : List Place → ℕ
  uses places = count_by (is_place place) places

  uses-cons : (first : Place) (places : List Place) → uses (first ∷ places) ≡ one_if (is_place place first) + uses places
  uses-cons first places = sum_by-cons (λ (p : Place). one_if (is_place place p)) first places

  pub uses-append : (one other : List Place) → uses (one ++ other) ≡ uses one + uses other
  uses-append one other = sum_by-append (λ (p : Place). one_if (is_place place p)) one other

  -- how often a value uses it, if there is one
  abbrev pub of_maybe : Option Value → ℕ
  of_maybe None = 0
  of_maybe (Some value) = uses (places_of value)

  -- how often changes use it
  abbrev pub of_changes : List Change → ℕ
  of_changes [] = 0
  of_changes (change ∷ changes) = of_maybe change.value + of_changes changes

  pub of_changes-append : (one other : List Change) → of_changes (one ++ other) ≡ of_changes one + of_changes other
  of_changes-append [] other = omega arith
  of_changes-append (change ∷ one) other = let rest = of_changes-append one other in omega (arith, rest)

  -- how often so many blocks behind a pointer are this place, from one of them on
  abbrev from_on : Pointer → ℕ → ℕ → ℕ
  from_on pointer skip count = uses (map (λ index. place_at index pointer) (range_with_len skip count))

  -- It goes block by block,
  from_on-split : (pointer : Pointer) (skip one other : ℕ) → from_on pointer skip (one + other) ≡ from_on pointer skip one + from_on pointer (skip + one) other
  from_on-split pointer skip zero other =
      let same : zero + other ≡ other = omega arith in
      let start : skip ≡ skip + zero = omega arith in
      ap (from_on pointer skip) same ∙ ap (λ n. from_on pointer n other) start ∙ (let all : from_on pointer (skip + zero) other ≡ 0 + from_on pointer (skip + zero) other = omega arith in all)
  from_on-split pointer skip (suc one) other =
      let more : suc one + other ≡ suc (one + other) = omega arith in
      let start : skip + 1 + one ≡ skip + suc one = omega arith in
      let rest = from_on-split pointer (skip + 1) one other in
      let first = uses-cons (place_at skip pointer) (map (λ index. place_at index pointer) (range_with_len (skip + 1) (one + other))) in
      let second = uses-cons (place_at skip pointer) (map (λ index. place_at index pointer) (range_with_len (skip + 1) one)) in
      ap (from_on pointer skip) more ∙ first ∙ ap (λ n. one_if (is_place place (place_at skip pointer)) + n) rest
      ∙ (let joined : one_if (is_place place (place_at skip pointer)) + (from_on pointer (skip + 1) one + from_on pointer (skip + 1 + one) other) ≡ from_on pointer skip (suc one) + from_on pointer (skip + 1 + one) other = omega (arith, second) in joined)
      ∙ ap (λ n. from_on pointer skip (suc one) + from_on pointer n other) start

  -- and two parts that are apart use it no oftener than the whole.
  from_on-parts : (pointer : Pointer) (skip one other_skip other all : ℕ) → one ≤ all → (0 < other → (skip + one ≤ other_skip) × (other_skip + other ≤ skip + all)) → from_on pointer skip one + from_on pointer other_skip other ≤ from_on pointer skip all
  from_on-parts pointer skip one other_skip zero all le lies =
      let whole : all ≡ one + (all - one) = omega (arith, le) in
      let split = from_on-split pointer skip one (all - one) in
      let same = ap (from_on pointer skip) whole in
      omega (arith, split, same)
  from_on-parts pointer skip one other_skip (suc other) all le lies =
      let at = lies (omega arith) in
      let gap : ℕ = other_skip - (skip + one) in
      let tail : ℕ = (skip + all) - (other_skip + suc other) in
      let whole : all ≡ one + (gap + (suc other + tail)) = omega (arith, at.0, at.1) in
      let start : skip + one + gap ≡ other_skip = omega (arith, at.0) in
      let same = ap (from_on pointer skip) whole in
      let first = from_on-split pointer skip one (gap + (suc other + tail)) in
      let second = from_on-split pointer (skip + one) gap (suc other + tail) in
      let third = from_on-split pointer (skip + one + gap) (suc other) tail in
      let moved = ap (λ n. from_on pointer n (suc other)) start in
      omega (arith, same, first, second, third, moved)

  -- how often so many blocks behind some pointers are this place, from one of them on
  abbrev pub behind_all : ℕ → ℕ → List Pointer → ℕ
  behind_all skip count [] = 0
  behind_all skip count (pointer ∷ pointers) = from_on pointer skip count + behind_all skip count pointers

  behind_all-parts : (pointers : List Pointer) (skip one other_skip other all : ℕ) → one ≤ all → (0 < other → (skip + one ≤ other_skip) × (other_skip + other ≤ skip + all)) → behind_all skip one pointers + behind_all other_skip other pointers ≤ behind_all skip all pointers
  behind_all-parts [] skip one other_skip other all le lies = omega arith
  behind_all-parts (pointer ∷ pointers) skip one other_skip other all le lies =
      let first = from_on-parts pointer skip one other_skip other all le lies in
      let rest = behind_all-parts pointers skip one other_skip other all le lies in
      omega (arith, first, rest)

  -- A pointer so many blocks further on leads to the blocks that so many are skipped for.
  moved_on : (pointer : Pointer) (skip index count : ℕ) → pointer.place.block + skip ≤ 4294967295 → uses (map (λ i. place_at i (pointer_behind skip pointer)) (range_with_len index count)) ≡ from_on pointer (skip + index) count
  moved_on pointer skip index zero fit = refl
  moved_on pointer skip index (suc count) fit =
      let block : min (pointer.place.block + skip) 4294967295 + index ≡ pointer.place.block + (skip + index) = omega (arith, fit) in
      let next : skip + (index + 1) ≡ skip + index + 1 = omega arith in
      uses-cons (place_at index (pointer_behind skip pointer)) (map (λ i. place_at i (pointer_behind skip pointer)) (range_with_len (index + 1) count))
      ∙ (λ i. one_if (is_place place (record { dev = pointer.place.dev; block = block i })) + (moved_on pointer skip (index + 1) count fit ∙ ap (λ n. from_on pointer n count) next) i)
      ∙ sym (uses-cons (place_at (skip + index) pointer) (map (λ i. place_at i pointer) (range_with_len (skip + index + 1) count)))

  -- What pointers further on use.
  behind_all-moved : (pointers : List Pointer) (skip count all : ℕ) → (0 < count → skip ≤ all) → All (λ (pointer : Pointer). pointer.place.block + all ≤ 4294967295) pointers → uses (flat_map (places_behind count) (map (pointer_behind skip) pointers)) ≡ behind_all skip count pointers
  behind_all-moved [] skip count all within fit = refl
  behind_all-moved (pointer ∷ pointers) skip count all within fit =
      uses-append (places_behind count (pointer_behind skip pointer)) (flat_map (places_behind count) (map (pointer_behind skip) pointers))
      ∙ (λ i. here count within i + behind_all-moved pointers skip count all within (All-tail (λ (p : Pointer). p.place.block + all ≤ 4294967295) pointer pointers fit) i)
    where
      here : (count : ℕ) → (0 < count → skip ≤ all) → uses (places_behind count (pointer_behind skip pointer)) ≡ from_on pointer skip count
      here zero within = refl
      here (suc count) within =
          let block = All-head (λ (p : Pointer). p.place.block + all ≤ 4294967295) pointer pointers fit in
          let low = within (omega arith) in
          let start : skip + 0 ≡ skip = omega arith in
          moved_on pointer skip 0 (suc count) (omega (arith, block, low)) ∙ ap (λ n. from_on pointer n (suc count)) start

  behind_all-whole : (pointers : List Pointer) (count : ℕ) → uses (flat_map (places_behind count) pointers) ≡ behind_all 0 count pointers
  behind_all-whole [] count = refl
  behind_all-whole (pointer ∷ pointers) count = uses-append (places_behind count pointer) (flat_map (places_behind count) pointers) ∙ ap (λ n. from_on pointer 0 count + n) (behind_all-whole pointers count)

  -- what a part of a value uses, between two blocks, where the value begins at a block
  abbrev within_value : ℕ → Value → ℕ → ℕ → ℕ
  within_value low value first end = uses (places_of (part_of (first - low) (end - first) value))

  -- a number of blocks from one on, of those of an extent
  abbrev long : Extent → ℕ → ℕ → ℕ
  long extent skip count = min count (length extent.digests - skip)

  within-extent : (extent : Extent) (skip count : ℕ) → HavePlaces (values.Extent extent) → uses (places_of (part_of skip count (values.Extent extent))) ≡ behind_all skip (long extent skip count) extent.pointers
  within-extent extent skip count fit =
      let size : length (take count (drop skip extent.digests)) ≡ long extent skip count = length-take count (drop skip extent.digests) ∙ ap (min count) (length-drop skip extent.digests) in
      ap (λ n. uses (flat_map (places_behind n) (map (pointer_behind skip) extent.pointers))) size
      ∙ behind_all-moved extent.pointers skip (long extent skip count) (length extent.digests) (λ some. omega (arith, some)) fit.places

  -- Parts that are apart use a place no oftener than what has both.
  within-parts : (low : ℕ) (value : Value) (a b c d : ℕ) → HavePlaces value → low ≤ a → a ≤ b → b ≤ c → b ≤ d → within_value low value a b + within_value low value c d ≤ within_value low value a d
  within-parts low (values.Extent e) a b c d fit from up over end =
      let first = within-extent e (a - low) (b - a) fit in
      let second = within-extent e (c - low) (d - c) fit in
      let whole = within-extent e (a - low) (d - a) fit in
      let parts = behind_all-parts e.pointers (a - low) (long e (a - low) (b - a)) (c - low) (long e (c - low) (d - c)) (long e (a - low) (d - a)) (omega (arith, up, end)) (λ some. (omega (arith, some, from, up, over, end), omega (arith, some, from, up, over, end))) in
      omega (arith, first, second, whole, parts)
  within-parts low (values.Hole n) a b c d fit from up over end = omega arith
  within-parts low (values.Inode x) a b c d fit from up over end = omega arith
  within-parts low (values.Names x) a b c d fit from up over end = omega arith
  within-parts low values.White a b c d fit from up over end = omega arith
  within-parts low (values.Subs x) a b c d fit from up over end = omega arith
  within-parts low (values.Snap x) a b c d fit from up over end = omega arith
  within-parts low (values.Live x) a b c d fit from up over end = omega arith
  within-parts low (values.Back x) a b c d fit from up over end = omega arith
  within-parts low values.Gone a b c d fit from up over end = omega arith
  within-parts low (values.Counter x) a b c d fit from up over end = omega arith
  within-parts low (values.Node x) a b c d fit from up over end = omega arith

  within-whole : (low end : ℕ) (value : Value) → HavePlaces value → within_value low value low end ≤ uses (places_of value)
  within-whole low end (values.Extent e) fit =
      let part = within-extent e (low - low) (end - low) fit in
      let whole = behind_all-whole e.pointers (length e.digests) in
      let start : low - low ≡ 0 = omega arith in
      let moved = ap (λ n. behind_all n (long e n (end - low)) e.pointers) start in
      let parts = behind_all-parts e.pointers 0 (long e 0 (end - low)) 0 0 (length e.digests) (omega arith) (λ some. absurd (omega (arith, some))) in
      omega (arith, part, whole, moved, parts)
  within-whole low end (values.Hole n) fit = omega arith
  within-whole low end (values.Inode x) fit = omega arith
  within-whole low end (values.Names x) fit = omega arith
  within-whole low end values.White fit = omega arith
  within-whole low end (values.Subs x) fit = omega arith
  within-whole low end (values.Snap x) fit = omega arith
  within-whole low end (values.Live x) fit = omega arith
  within-whole low end (values.Back x) fit = omega arith
  within-whole low end values.Gone fit = omega arith
  within-whole low end (values.Counter x) fit = omega arith
  within-whole low end (values.Node x) fit = omega arith

  module _ (low : ℕ) (value : Value) (fit : HavePlaces value) where
    -- what the parts of it use
    abbrev of_parts : List Stretch → ℕ
    of_parts [] = 0
    of_parts (part ∷ parts) = within_value low value part.first part.end + of_parts parts

    of_parts-append : (one other : List Stretch) → of_parts (one ++ other) ≡ of_parts one + of_parts other
    of_parts-append [] other = omega arith
    of_parts-append (part ∷ one) other = let rest = of_parts-append one other in omega (arith, rest)

    of_between : (first end : ℕ) → of_parts (between first end) ≤ within_value low value first end
    of_between first end = by (nat_lt first end)
      where
        by : (b : Bool) → of_parts (cond b (record { first = first; end = end } ∷ []) []) ≤ within_value low value first end
        by true = omega arith
        by false = omega arith

    -- What lies outside of some stretches uses it no oftener than all.
    of_outside : (first end from : ℕ) (stretches : List Stretch) → RiseFrom from stretches → low ≤ first → of_parts (outside first end stretches) ≤ within_value low value first end
    of_outside first end from [] rise above = of_between first end
    of_outside first end from (s ∷ ss) rise above = by (nat_le end s.first) refl (of_outside (max first s.end) end s.end ss rise.2 (omega (arith, above)))
      where
        cut : s.first < end → of_parts (outside (max first s.end) end ss) ≤ within_value low value (max first s.end) end → (b : Bool) → nat_lt first s.first ≡ b
            → of_parts (cond b (record { first = first; end = s.first } ∷ []) [] ++ outside (max first s.end) end ss) ≤ within_value low value first end
        cut before later true is =
            let lt = ltb-true first s.first is in
            let both = within-parts low value first s.first (max first s.end) end fit above (omega (arith, lt)) (omega (arith, rise.1)) (omega (arith, before)) in
            omega (arith, later, both)
        cut before later false is = by_end (nat_le end first) refl
          where
            by_end : (b : Bool) → nat_le end first ≡ b → of_parts (outside (max first s.end) end ss) ≤ within_value low value first end
            by_end true le =
                let high = leb-true end first le in
                let none = ap of_parts (outside-none (max first s.end) end ss (omega (arith, high))) in
                omega (arith, none)
            by_end false le =
                let lt = leb-false end first le in
                let both = within-parts low value first first (max first s.end) end fit above (omega arith) (omega arith) (omega (arith, lt)) in
                omega (arith, later, both)

        by : (b : Bool) → nat_le end s.first ≡ b → of_parts (outside (max first s.end) end ss) ≤ within_value low value (max first s.end) end
            → of_parts (cond b (between first end) (between first s.first ++ outside (max first s.end) end ss)) ≤ within_value low value first end
        by true is later = of_between first end
        by false is later = cut (leb-false end s.first is) later (nat_lt first s.first) refl

    of_puts : (parts : List Stretch) → of_changes (map (put_part low value) parts) ≡ of_parts parts
    of_puts [] = refl
    of_puts (part ∷ parts) = ap (λ n. within_value low value part.first part.end + n) (of_puts parts)

    of_removed : (end : ℕ) (parts : List Stretch) → of_changes (removed end parts) ≡ 0
    of_removed end parts = by (does_reach end parts)
      where
        by : (b : Bool) → of_changes (cond b [] (record { end = end; value = None } ∷ [])) ≡ 0
        by true = refl
        by false = refl

  -- So what is left of a value that is cut uses a place no oftener than the value.
  pub of_cut : (stretches : List Stretch) (from end : ℕ) (value : Value) → RiseFrom from stretches → HavePlaces value → of_changes (cut_value stretches end (Some value)) ≤ uses (places_of value)
  of_cut stretches from end value rise fit = by (is_kept (end - blocks_of value) end (outside (end - blocks_of value) end stretches))
    where
      by : (b : Bool) → of_changes (cond b [] (map (put_part (end - blocks_of value) value) (outside (end - blocks_of value) end stretches) ++ removed end (outside (end - blocks_of value) end stretches))) ≤ uses (places_of value)
      by true = omega arith
      by false =
          let split = of_changes-append (map (put_part (end - blocks_of value) value) (outside (end - blocks_of value) end stretches)) (removed end (outside (end - blocks_of value) end stretches)) in
          let puts = of_puts (end - blocks_of value) value fit (outside (end - blocks_of value) end stretches) in
          let gone = of_removed (end - blocks_of value) value fit end (outside (end - blocks_of value) end stretches) in
          let left = of_outside (end - blocks_of value) value fit (end - blocks_of value) end from stretches rise (omega arith) in
          let whole = within-whole (end - blocks_of value) end value fit in
          omega (arith, split, puts, gone, left, whole)
