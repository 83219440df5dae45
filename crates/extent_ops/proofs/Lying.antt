-- Updates by which blocks are taken over lie near these blocks.
use Rattle.std.proofs.Common.{◌≡◌, ⊎_elim, inl, inr, ℕ, ◌+◌, ◌-◌, ◌<◌, ◌≤◌, Bool, true, false, cond, Option, Some, None, List, [], ◌∷◌, ◌++◌, map, max, refl, sym, ap, ◌∙◌, subst, arith}
use Rattle.std.specs.Prelude.{All, IfSome, ◌&&◌, ◌||◌, nat_le, nat_lt}
use Rattle.std.proofs.lemmas.Bool.{eq-eqb, leb-false, leb-true, le-leb, ltb-false}
use Rattle.snap_tree.specs.Snaps.{Snaps}
use Rattle.vol_types.specs.declared.keys.Key.{Key}
use Rattle.vol_types.specs.declared.values.Value.{Value}
use Rattle.key_meaning.specs.Blocks.{blocks_of}
use Rattle.extent_ops.specs.Above.{hole_of, holes_to_hide, swept}
use Rattle.extent_ops.specs.Content.{AreFreshWithin, IsNear}
use Rattle.extent_ops.specs.Cutting.{change_of, cut_all, cut_value, is_kept, left_parts, put_part, removed, updates_of}
use Rattle.extent_ops.specs.Looking.{IsUpTo}
use Rattle.extent_ops.specs.Stretches.{RiseFrom, between, outside}
use Rattle.extent_ops.specs.declared.cutting.Change.{Change}
use Rattle.extent_ops.specs.declared.stretches.Stretch.{Stretch}
use Rattle.extent_ops.proofs.Cuts.{cut-from}
use Rattle.extent_ops.proofs.Fitting.{updates-all}
use Rattle.extent_ops.proofs.Fresh.{all-member, fresh-has, rise_from}
use Rattle.extent_ops.proofs.Gaps.{IsGap, in_between}
use Rattle.extent_ops.proofs.Hiding.{met_by, parts_above}
use Rattle.extent_ops.proofs.Members.{Has, has-append, has-map}
use Rattle.extent_ops.proofs.Outside.{between-none}
use Rattle.extent_ops.proofs.Pieces.{blocks_of-part_of}
use Rattle.extent_ops.proofs.Taken.{cut_all-has}

-- The change's end lies near the blocks from a first to a last one, and what it puts begins at block 0 or later.
pub record Lies (first last longest : ℕ) (change : Change) : Type 0 where
  pub from : first ≤ change.end
  pub to : change.end ≤ last + max longest 1
  pub room : IfSome change.value (λ value. blocks_of value ≤ change.end)

-- Stretches that begin behind an end, or end before a beginning, take nothing of what lies between.
all_before : (low end from : ℕ) (stretches : List Stretch) → RiseFrom from stretches → end ≤ from → outside low end stretches ≡ between low end
all_before low end from [] rise le = refl
all_before low end from (s ∷ ss) rise le = ap (λ b. cond b (between low end) (between low s.first ++ outside (max low s.end) end ss)) (le-leb end s.first (omega (arith, le, rise.0)))

all_behind : (low end from : ℕ) (stretches : List Stretch) → RiseFrom from stretches → ((s : Stretch) → Has s stretches → s.end ≤ low) → outside low end stretches ≡ between low end
all_behind low end from [] rise ended = refl
all_behind low end from (s ∷ ss) rise ended = by (nat_le end s.first) (all_behind low end s.end ss rise.2 (λ t has. ended t (inr has)))
  where
    here : s.end ≤ low
    here = ended s (inl refl)

    same : max low s.end ≡ low
    same = omega (arith, here)

    by : (b : Bool) → outside low end ss ≡ between low end → cond b (between low end) (between low s.first ++ outside (max low s.end) end ss) ≡ between low end
    by true later = refl
    by false later = (λ i. between-none low s.first (omega (arith, rise.1, here)) i ++ outside (same i) end ss) ∙ later

-- Where all is left nothing changes.
pub whole_kept : (low end : ℕ) → is_kept low end (between low end) ≡ true
whole_kept low end = by (nat_lt low end) refl
  where
    or_true : (b : Bool) → (b || true) ≡ true
    or_true true = refl
    or_true false = refl

    by : (b : Bool) → nat_lt low end ≡ b → is_kept low end (cond b (record { first = low; end = end } ∷ []) []) ≡ true
    by true is = ap (λ b. nat_le end low || (b || false)) (λ i. eq-eqb low low refl i && eq-eqb end end refl i) ∙ or_true (nat_le end low)
    by false is = ap (λ b. b || false) (le-leb end low (ltb-false low end is))

pub kept_none : (low end : ℕ) (value : Value) (parts : List Stretch) (change : Change) → is_kept low end parts ≡ true → Has change (left_parts low end value parts) → ⊥
kept_none low end value parts change kept has = elim (subst (λ (b : Bool). Has change (cond b [] (map (put_part low value) parts ++ removed end parts))) kept has) [ ]

-- Each part of what is left ends where the stretches begin, or behind that.
part_ends : (low end from : ℕ) (stretches : List Stretch) (part : Stretch) → RiseFrom from stretches → from ≤ end → Has part (outside low end stretches) → from ≤ part.end
part_ends low end from [] part rise le has = let high : part.end ≡ end = ap (λ (s : Stretch). s.end) (in_between low end part has).0 in omega (arith, high, le)
part_ends low end from (s ∷ ss) part rise le has = by (nat_le end s.first) has (λ there. part_ends (max low s.end) end from ss part (rise_from from s.end ss (omega (arith, rise.0, rise.1)) rise.2) le there)
  where
    by : (b : Bool) → Has part (cond b (between low end) (between low s.first ++ outside (max low s.end) end ss)) → (Has part (outside (max low s.end) end ss) → from ≤ part.end) → from ≤ part.end
    by true here later = let high : part.end ≡ end = ap (λ (s : Stretch). s.end) (in_between low end part here).0 in omega (arith, high, le)
    by false has later = ⊎_elim
        (λ (here : Has part (between low s.first)). let high : part.end ≡ s.first = ap (λ (s : Stretch). s.end) (in_between low s.first part here).0 in omega (arith, high, rise.0))
        later
        (has-append part (between low s.first) (outside (max low s.end) end ss) has)

module _ (first last : ℕ) (stretches : List Stretch) (rise : RiseFrom first stretches) (ended : (s : Stretch) → Has s stretches → s.end ≤ last + 1) where
  -- What is cut ends behind the first block and begins before the last one.
  touched : (end : ℕ) (value : Value) (change : Change) → Has change (cut_value stretches end (Some value)) → (first < end) × (end - blocks_of value ≤ last)
  touched end value change has = (front (nat_le end first) refl, back (nat_le (end - blocks_of value) last) refl)
    where
      none : outside (end - blocks_of value) end stretches ≡ between (end - blocks_of value) end → ⊥
      none all = kept_none (end - blocks_of value) end value (outside (end - blocks_of value) end stretches) change (ap (is_kept (end - blocks_of value) end) all ∙ whole_kept (end - blocks_of value) end) has

      front : (b : Bool) → nat_le end first ≡ b → first < end
      front true is = absurd (none (all_before (end - blocks_of value) end first stretches rise (leb-true end first is)))
      front false is = leb-false end first is

      back : (b : Bool) → nat_le (end - blocks_of value) last ≡ b → end - blocks_of value ≤ last
      back true is = leb-true (end - blocks_of value) last is
      back false is = absurd (none (all_behind (end - blocks_of value) end first stretches rise (λ s has. let high = ended s has in let low = leb-false (end - blocks_of value) last is in omega (arith, high, low))))

  cut_value-lies : (longest end : ℕ) (value : Value) (change : Change) → blocks_of value ≤ longest → Has change (cut_value stretches end (Some value)) → Lies first last longest change
  cut_value-lies longest end value change few has = ⊎_elim
      (λ (left : (part : Stretch) × (Has part (outside (end - blocks_of value) end stretches) × IsGap (end - blocks_of value) end stretches part × (change ≡ put_part (end - blocks_of value) value part))).
      let part = left.0 in let gap = left.1.1 in
      let at : change.end ≡ part.end = ap (λ (c : Change). c.end) left.1.2 in
      let from = part_ends (end - blocks_of value) end first stretches part rise (omega (arith, near.0)) left.1.0 in
      let count = blocks_of-part_of (part.first - (end - blocks_of value)) (part.end - part.first) value (omega (arith, gap.low, gap.some, gap.high)) in
      record {
        from = omega (arith, at, from);
        to = omega (arith, at, gap.high, near.1, few);
        room = subst (λ (c : Change). IfSome c.value (λ v. blocks_of v ≤ c.end)) (sym left.1.2) (omega (arith, count, gap.some));
      })
      (λ (gone : change ≡ record { end = end; value = None }).
      let at : change.end ≡ end = ap (λ (c : Change). c.end) gone in
      record {
        from = omega (arith, at, near.0);
        to = omega (arith, at, near.1, few);
        room = subst (λ (c : Change). IfSome c.value (λ v. blocks_of v ≤ c.end)) (sym gone) tt;
      })
      (cut-from stretches first rise end value change has)
    where
      near : (first < end) × (end - blocks_of value ≤ last)
      near = touched end value change has

  -- So what is cut of keys lies near,
  pub cut-lies : (longest id : ℕ) (keys : List Key) (change : Change) → All (λ (key : Key). IsUpTo longest key.value) keys → Has change (cut_all id stretches keys) → Lies first last longest change
  cut-lies longest id keys change few has =
      let it = cut_all-has id stretches keys change has in let own = it.1.1.0 in
      cut_value-lies longest it.0 it.1.0 change (subst (IsUpTo longest) own.is (all-member (λ (key : Key). IsUpTo longest key.value) own.key keys few own.has)) it.1.1.1

-- what is fresh,
pub fresh-lies : (file id first last longest : ℕ) (fresh : List Key) (change : Change) → AreFreshWithin file id first last fresh → Has change (map change_of fresh) → Lies first last longest change
fresh-lies file id first last longest fresh change are has =
    let from = has-map change_of change fresh has in let key = from.0 in
    let it = fresh-has file id first fresh key are.fresh from.1.0 in
    let within = all-member (λ (key : Key). key.pos.offset ≤ last + 1) key fresh are.within from.1.0 in
    let at : change.end ≡ key.pos.offset = ap (λ (c : Change). c.end) from.1.1 in
    record {
      from = omega (arith, at, it.1.1, it.1.0.behind);
      to = omega (arith, at, within);
      room = subst (λ (c : Change). IfSome c.value (λ v. blocks_of v ≤ c.end)) (sym from.1.1) (subst (λ o. IfSome o (λ v. blocks_of v ≤ key.pos.offset)) (sym it.1.0.is) (omega (arith, it.1.0.behind)));
    }

-- and a hole over a part of a stretch.
pub holes-lie : (tree : Snaps) (parent : Option ℕ) (w : Stretch) (last longest : ℕ) (keys : List Key) (change : Change) → w.first ≤ w.end → w.end ≤ last + 1 → Has change (holes_to_hide tree parent w keys) → Lies w.first last longest change
holes-lie tree None w last longest keys change forward within has = elim has [ ]
holes-lie tree (Some parent) w last longest keys change forward within has =
    let from = has-map hole_of change (swept tree parent w keys) has in let part = from.0 in
    let it = met_by tree parent w forward keys part from.1.0 in
    let some = (parts_above tree parent w forward keys part from.1.0).1 in
    let low = it.1.1 part.first (omega arith) some in
    let high = it.1.1 (part.end - 1) (omega (arith, some)) (omega (arith, some)) in
    let at : change.end ≡ part.end = ap (λ (c : Change). c.end) from.1.1 in
    record {
      from = omega (arith, at, some, low.1);
      to = omega (arith, at, high.2, within);
      room = subst (λ (c : Change). IfSome c.value (λ v. blocks_of v ≤ c.end)) (sym from.1.1) (omega arith);
    }

-- Updates that make changes near blocks lie near them.
pub updates-near : (file id first last longest : ℕ) (one other : List Change) → ((change : Change) → Has change one → Lies first last longest change) → ((change : Change) → Has change other → Lies first last longest change) → All (IsNear file first last longest) (updates_of file id (one ++ other))
updates-near file id first last longest one other each each' = updates-all (IsNear file first last longest) file id (one ++ other) (λ change has.
    let it = ⊎_elim (each change) (each' change) (has-append change one other has) in
    record { of_file = refl; from = it.from; to = it.to; room = it.room })
