-- What cutting an extent or hole leaves: parts of it that have no block that is cut out, and a removal where its end is cut.
use Rattle.std.proofs.Common.{◌≡◌, ◌⊎◌, ⊎_elim, inl, inr, ℕ, ◌-◌, ◌<◌, ◌≤◌, Bool, true, false, cond, Some, None, List, [], ◌∷◌, ◌++◌, map, refl, sym, ap, ◌∙◌, arith}
use Rattle.std.specs.Prelude.{◌||◌, ◌==◌, nat_le}
use Rattle.std.specs.List.{list_any}
use Rattle.std.proofs.lemmas.Bool.{and_parts, eq-eqb, eqb-true, leb-false, true≢false}
use Rattle.std.proofs.lemmas.Bool.Decides.{nat_tests}
use Rattle.std.proofs.lemmas.Option.{same_Some, none-some as none_some}
use Rattle.vol_types.specs.declared.values.Value.{Value}
use Rattle.key_meaning.specs.Blocks.{blocks_of, covers}
use Rattle.extent_ops.specs.Content.{HavePlaces}
use Rattle.extent_ops.specs.Cutting.{cut_value, is_whole, part_of, put_part, removed}
use Rattle.extent_ops.specs.Stretches.{RiseFrom, is_within, outside}
use Rattle.extent_ops.specs.declared.cutting.Change.{Change}
use Rattle.extent_ops.specs.declared.stretches.Stretch.{Stretch}
use Rattle.extent_ops.proofs.Gaps.{IsGap, IsLeft, outside-once, outside-sound, outside-whole}
use Rattle.extent_ops.proofs.Members.{Has, any-has, has-append, has-first, has-map, has-second, map-has, none-has}
use Rattle.extent_ops.proofs.Pieces.{blocks_of-part_of, covers-range, range-covers, shown_by, shown_by-part_of}

neither : (a b : Bool) → (a || b) ≡ false → (a ≡ false) × (b ≡ false)
neither true b none = absurd (true≢false none)
neither false b none = (refl, none)

le-false : (a b : ℕ) → b < a → nat_le a b ≡ false
le-false a b lt = grind (arith, nat_tests)

-- The change puts a value that covers the block.
pub record PutsOver (block : ℕ) (change : Change) : Type 0 where
  pub value : Value
  pub is : change.value ≡ Some value
  pub over : covers change.end value block ≡ true

module _ (stretches : List Stretch) (from : ℕ) (rise : RiseFrom from stretches) (end : ℕ) (value : Value) where
  -- the changes where something is cut
  abbrev cuts : List Change
  cuts = map (put_part (end - blocks_of value) value) (outside (end - blocks_of value) end stretches) ++ removed end (outside (end - blocks_of value) end stretches)

  -- The change puts a part that is left, or it removes what stands at the end, where no part ends there.
  pub data Origin (change : Change) : Type 0 where
    puts : (part : Stretch) → Has part (outside (end - blocks_of value) end stretches) → change ≡ put_part (end - blocks_of value) value part → Origin change
    removes : list_any (λ (part : Stretch). part.end == end) (outside (end - blocks_of value) end stretches) ≡ false → change ≡ record { end = end; value = None } → end - blocks_of value < end → Origin change

  -- nothing is changed of a value that covers nothing, or of which nothing is cut
  abbrev is_kept : Bool
  is_kept = nat_le end (end - blocks_of value) || list_any (is_whole (end - blocks_of value) end) (outside (end - blocks_of value) end stretches)

  has-removed : (parts : List Stretch) (change : Change) → Has change (removed end parts) → (list_any (λ (part : Stretch). part.end == end) parts ≡ false) × (change ≡ record { end = end; value = None })
  has-removed parts change has = by (list_any (λ (part : Stretch). part.end == end) parts) refl has
    where
      by : (b : Bool) → list_any (λ (part : Stretch). part.end == end) parts ≡ b → Has change (cond b [] (record { end = end; value = None } ∷ [])) → (list_any (λ (part : Stretch). part.end == end) parts ≡ false) × (change ≡ record { end = end; value = None })
      by false is (inl same) = (is, same)
      by false is (inr more) = elim more [ ]
      by true is none = elim none [ ]

  pub origin : (change : Change) → Has change (cut_value stretches end (Some value)) → Origin change
  origin change has = by is_kept refl has
    where
      by : (b : Bool) → is_kept ≡ b → Has change (cond b [] cuts) → Origin change
      by true is none = elim none [ ]
      by false is has = ⊎_elim
          (λ (put : Has change (map (put_part (end - blocks_of value) value) (outside (end - blocks_of value) end stretches))). let from_part = has-map (put_part (end - blocks_of value) value) change (outside (end - blocks_of value) end stretches) put in puts from_part.0 from_part.1.0 from_part.1.1)
          (λ (gone : Has change (removed end (outside (end - blocks_of value) end stretches))). let it = has-removed (outside (end - blocks_of value) end stretches) change gone in
          removes it.0 it.1 (leb-false end (end - blocks_of value) (neither (nat_le end (end - blocks_of value)) (list_any (is_whole (end - blocks_of value) end) (outside (end - blocks_of value) end stretches)) is).0))
          (has-append change (map (put_part (end - blocks_of value) value) (outside (end - blocks_of value) end stretches)) (removed end (outside (end - blocks_of value) end stretches)) has)

  gap_of : (part : Stretch) → Has part (outside (end - blocks_of value) end stretches) → IsGap (end - blocks_of value) end stretches part
  gap_of part has = outside-sound (end - blocks_of value) end from stretches part rise has

  -- A change puts a part that is left, or removes the end.
  pub cut-from : (change : Change) → Has change (cut_value stretches end (Some value)) → ((part : Stretch) × (Has part (outside (end - blocks_of value) end stretches) × IsGap (end - blocks_of value) end stretches part × (change ≡ put_part (end - blocks_of value) value part)))
      ⊎ (change ≡ record { end = end; value = None })
  cut-from change has = by (origin change has)
    where
      by : Origin change → ((part : Stretch) × (Has part (outside (end - blocks_of value) end stretches) × IsGap (end - blocks_of value) end stretches part × (change ≡ put_part (end - blocks_of value) value part))) ⊎ (change ≡ record { end = end; value = None })
      by (puts part there is) = inl (part, (there, gap_of part there, is))
      by (removes none is lt) = inr is

  -- what is put over a part covers the part
  part_over : (part : Stretch) (block : ℕ) → IsGap (end - blocks_of value) end stretches part → part.first ≤ block → block < part.end → covers part.end (part_of (part.first - (end - blocks_of value)) (part.end - part.first) value) block ≡ true
  part_over part block gap low lt =
      let count = blocks_of-part_of (part.first - (end - blocks_of value)) (part.end - part.first) value (omega (arith, gap.low, gap.some, gap.high)) in
      range-covers part.end (part_of (part.first - (end - blocks_of value)) (part.end - part.first) value) block (omega (arith, count, low, gap.some)) lt

  over_part : (part : Stretch) (block : ℕ) → IsGap (end - blocks_of value) end stretches part → covers part.end (part_of (part.first - (end - blocks_of value)) (part.end - part.first) value) block ≡ true → (part.first ≤ block) × (block < part.end)
  over_part part block gap over =
      let count = blocks_of-part_of (part.first - (end - blocks_of value)) (part.end - part.first) value (omega (arith, gap.low, gap.some, gap.high)) in
      let range = covers-range part.end (part_of (part.first - (end - blocks_of value)) (part.end - part.first) value) block over in
      (omega (arith, count, range.0, gap.some), range.1)

  -- Each change stands behind a block of the value.
  pub cut-last : (change : Change) → Has change (cut_value stretches end (Some value)) → (covers end value (change.end - 1) ≡ true) × (0 < change.end)
  cut-last change has = by (origin change has)
    where
      by : Origin change → (covers end value (change.end - 1) ≡ true) × (0 < change.end)
      by (puts part there is) = let gap = gap_of part there in let same : change.end ≡ part.end = ap (λ (c : Change). c.end) is in
          (range-covers end value (change.end - 1) (omega (arith, same, gap.low, gap.some)) (omega (arith, same, gap.some, gap.high)), omega (arith, same, gap.some))
      by (removes none is lt) = let same : change.end ≡ end = ap (λ (c : Change). c.end) is in
          (range-covers end value (change.end - 1) (omega (arith, same, lt)) (omega (arith, same, lt)), omega (arith, same, lt))

  -- what a change of a part covers
  put_over : (change : Change) (put : Value) (part : Stretch) → change ≡ put_part (end - blocks_of value) value part → change.value ≡ Some put → put ≡ part_of (part.first - (end - blocks_of value)) (part.end - part.first) value
  put_over change put part is at = same_Some put (part_of (part.first - (end - blocks_of value)) (part.end - part.first) value) (sym at ∙ ap (λ (c : Change). c.value) is)

  -- What a change puts covers blocks of the value that aren't cut out, and shows of each what the value shows. It covers the block before
  -- its end.
  pub cut-sound : (change : Change) (put : Value) (block : ℕ) → HavePlaces value → Has change (cut_value stretches end (Some value)) → change.value ≡ Some put → covers change.end put block ≡ true
      → (covers end value block ≡ true) × (is_within stretches block ≡ false) × (shown_by block change.end put ≡ shown_by block end value)
  cut-sound change put block fit has at over = by (origin change has)
    where
      by : Origin change → (covers end value block ≡ true) × (is_within stretches block ≡ false) × (shown_by block change.end put ≡ shown_by block end value)
      by (puts part there is) =
          let gap = gap_of part there in
          let at_end : change.end ≡ part.end = ap (λ (c : Change). c.end) is in
          let held = put_over change put part is at in
          let lies = over_part part block gap ((λ i. covers (sym at_end i) (sym held i) block) ∙ over) in (
            range-covers end value block (omega (arith, gap.low, lies.0)) (omega (arith, gap.high, lies.1)),
            gap.free block lies.0 lies.1,
            (λ i. shown_by block (at_end i) (held i)) ∙ shown_by-part_of block (end - blocks_of value) end part.first part.end value fit refl gap.low lies.0 lies.1 gap.high,
          )
      by (removes none is lt) = absurd (none_some put (sym (ap (λ (c : Change). c.value) is) ∙ at))

  pub cut-covers_last : (change : Change) (put : Value) → Has change (cut_value stretches end (Some value)) → change.value ≡ Some put → covers change.end put (change.end - 1) ≡ true
  cut-covers_last change put has at = by (origin change has)
    where
      by : Origin change → covers change.end put (change.end - 1) ≡ true
      by (puts part there is) =
          let gap = gap_of part there in
          let at_end : change.end ≡ part.end = ap (λ (c : Change). c.end) is in
          (λ i. covers (at_end i) (put_over change put part is at i) (at_end i - 1)) ∙ part_over part (part.end - 1) gap (omega (arith, gap.some)) (omega (arith, gap.some))
      by (removes none is lt) = absurd (none_some put (sym (ap (λ (c : Change). c.value) is) ∙ at))

  -- A block of the value that isn't cut out is put, where something is cut.
  pub cut-whole : (block : ℕ) → covers end value block ≡ true → is_within stretches block ≡ false → (cut_value stretches end (Some value) ≡ []) ⊎ ((change : Change) × (Has change (cut_value stretches end (Some value)) × PutsOver block change))
  cut-whole block over free = by is_kept
    where
      range : ((end - blocks_of value) ≤ block) × (block < end) × (0 < blocks_of value)
      range = covers-range end value block over

      left : IsLeft (outside (end - blocks_of value) end stretches) block
      left = outside-whole (end - blocks_of value) end block stretches range.0 range.1 free

      by : (b : Bool) → (cond b [] cuts ≡ []) ⊎ ((change : Change) × (Has change (cond b [] cuts) × PutsOver block change))
      by true = inl refl
      by false = inr (
        put_part (end - blocks_of value) value left.0,
        (
          has-first (put_part (end - blocks_of value) value left.0) (map (put_part (end - blocks_of value) value) (outside (end - blocks_of value) end stretches)) (removed end (outside (end - blocks_of value) end stretches)) (map-has (put_part (end - blocks_of value) value) left.0 (outside (end - blocks_of value) end stretches) left.1.0),
          record { value = part_of (left.0.first - (end - blocks_of value)) (left.0.end - left.0.first) value; is = refl; over = part_over left.0 block (gap_of left.0 left.1.0) left.1.1 left.1.2 },
        ),
      )

  -- where something is cut, the end gets a change
  at_end : (b : Bool) → list_any (λ (part : Stretch). part.end == end) (outside (end - blocks_of value) end stretches) ≡ b → (change : Change) × (Has change (map (put_part (end - blocks_of value) value) (outside (end - blocks_of value) end stretches) ++ cond b [] (record { end = end; value = None } ∷ [])) × (change.end ≡ end))
  at_end true is = let found = any-has (λ (part : Stretch). part.end == end) (outside (end - blocks_of value) end stretches) is in
      (put_part (end - blocks_of value) value found.0, (has-first (put_part (end - blocks_of value) value found.0) (map (put_part (end - blocks_of value) value) (outside (end - blocks_of value) end stretches)) [] (map-has (put_part (end - blocks_of value) value) found.0 (outside (end - blocks_of value) end stretches) found.1.0), eqb-true found.0.end end found.1.1))
  at_end false is = (record { end = end; value = None }, (has-second (record { end = end; value = None }) (map (put_part (end - blocks_of value) value) (outside (end - blocks_of value) end stretches)) (record { end = end; value = None } ∷ []) (inl refl), refl))

  -- Where there is a change, the end gets one.
  pub cut-ended : (change : Change) → Has change (cut_value stretches end (Some value)) → (last : Change) × (Has last (cut_value stretches end (Some value)) × (last.end ≡ end))
  cut-ended change has = by is_kept has
    where
      by : (b : Bool) → Has change (cond b [] cuts) → (last : Change) × (Has last (cond b [] cuts) × (last.end ≡ end))
      by true none = elim none [ ]
      by false has = at_end (list_any (λ (part : Stretch). part.end == end) (outside (end - blocks_of value) end stretches)) refl

  -- Where a block of the value is cut out, its end gets a change.
  pub cut-touched : (block : ℕ) → covers end value block ≡ true → is_within stretches block ≡ true → (change : Change) × (Has change (cut_value stretches end (Some value)) × (change.end ≡ end))
  cut-touched block over cut = by is_kept refl
    where
      range : ((end - blocks_of value) ≤ block) × (block < end) × (0 < blocks_of value)
      range = covers-range end value block over

      not_whole : (b : Bool) → list_any (is_whole (end - blocks_of value) end) (outside (end - blocks_of value) end stretches) ≡ b → b ≡ false
      not_whole true is =
          let found = any-has (is_whole (end - blocks_of value) end) (outside (end - blocks_of value) end stretches) is in
          let tests = and_parts (found.0.first == (end - blocks_of value)) (found.0.end == end) found.1.1 in
          let low = eqb-true found.0.first (end - blocks_of value) tests.0 in let high = eqb-true found.0.end end tests.1 in
          absurd (true≢false (sym cut ∙ (gap_of found.0 found.1.0).free block (omega (arith, low, range.0)) (omega (arith, high, range.1))))
      not_whole false is = refl

      changed : is_kept ≡ false
      changed = λ i. le-false end (end - blocks_of value) (omega (arith, range.0, range.1)) i || not_whole (list_any (is_whole (end - blocks_of value) end) (outside (end - blocks_of value) end stretches)) refl i

      by : (b : Bool) → is_kept ≡ b → (change : Change) × (Has change (cond b [] cuts) × (change.end ≡ end))
      by true is = absurd (true≢false (sym is ∙ changed))
      by false is = at_end (list_any (λ (part : Stretch). part.end == end) (outside (end - blocks_of value) end stretches)) refl

  -- No two changes stand at one end, and no two put a value over one block.
  pub cut-same : (one other : Change) → Has one (cut_value stretches end (Some value)) → Has other (cut_value stretches end (Some value)) → one.end ≡ other.end → one ≡ other
  cut-same one other has has' ends = by (origin one has) (origin other has')
    where
      apart : (x y : Change) (part : Stretch) → Has part (outside (end - blocks_of value) end stretches) → x ≡ put_part (end - blocks_of value) value part → list_any (λ (part : Stretch). part.end == end) (outside (end - blocks_of value) end stretches) ≡ false → y ≡ record { end = end; value = None } → x.end ≡ y.end → ⊥
      apart x y part there is none it same =
          let high : part.end ≡ end = sym (ap (λ (c : Change). c.end) is) ∙ same ∙ ap (λ (c : Change). c.end) it in
          true≢false (sym (eq-eqb part.end end high) ∙ none-has (λ (p : Stretch). p.end == end) part (outside (end - blocks_of value) end stretches) none there)

      by : Origin one → Origin other → one ≡ other
      by (puts part there is) (puts part' there' is') =
          let gap = gap_of part there in let gap' = gap_of part' there' in
          let high : part.end ≡ part'.end = sym (ap (λ (c : Change). c.end) is) ∙ ends ∙ ap (λ (c : Change). c.end) is' in
          is ∙ ap (put_part (end - blocks_of value) value) (outside-once (end - blocks_of value) end from stretches part part' (part.end - 1) rise there there' (omega (arith, gap.some)) (omega (arith, gap.some)) (omega (arith, gap'.some, high)) (omega (arith, gap.some, high))) ∙ sym is'
      by (puts part there is) (removes none is' lt) = absurd (apart one other part there is none is' ends)
      by (removes none is lt) (puts part there is') = absurd (apart other one part there is' none is (sym ends))
      by (removes none is lt) (removes none' is' lt') = is ∙ sym is'

  pub cut-once : (one other : Change) (block : ℕ) → Has one (cut_value stretches end (Some value)) → Has other (cut_value stretches end (Some value)) → PutsOver block one → PutsOver block other → one ≡ other
  cut-once one other block has has' a b = by (origin one has) (origin other has')
    where
      lies : (x : Change) (part : Stretch) → Has part (outside (end - blocks_of value) end stretches) → x ≡ put_part (end - blocks_of value) value part → PutsOver block x → (part.first ≤ block) × (block < part.end)
      lies x part there is over = over_part part block (gap_of part there) ((λ i. covers (sym (ap (λ (c : Change). c.end) is) i) (sym (put_over x over.value part is over.is) i) block) ∙ over.over)

      by : Origin one → Origin other → one ≡ other
      by (puts part there is) (puts part' there' is') =
          let here = lies one part there is a in let here' = lies other part' there' is' b in
          is ∙ ap (put_part (end - blocks_of value) value) (outside-once (end - blocks_of value) end from stretches part part' block rise there there' here.0 here.1 here'.0 here'.1) ∙ sym is'
      by (puts part there is) (removes none is' lt) = absurd (none_some b.value (sym (ap (λ (c : Change). c.value) is') ∙ b.is))
      by (removes none is lt) other_origin = absurd (none_some a.value (sym (ap (λ (c : Change). c.value) is) ∙ a.is))
