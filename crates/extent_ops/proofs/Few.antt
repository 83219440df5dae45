-- How many updates taking blocks over makes at most: each position that gets a change is one of a short list.
use Rattle.std.proofs.Common.{◌≡◌, ◌⊎◌, ⊎_elim, inl, inr, ℕ, ◌+◌, ◌-◌, ◌*◌, ◌<◌, ◌≤◌, zero, suc, Bool, true, false, cond, Option, Some, None, List, [], ◌∷◌, ◌++◌, length, map, max, refl, sym, ap, ◌∙◌, subst, arith}
use Rattle.std.specs.Prelude.{IsSome, ◌==◌, ◌||◌, nat_eq, nat_le, nat_lt}
use Rattle.std.specs.List.{list_any}
use Rattle.std.specs.List.Sorted.{IsStrictlySortedBy}
use Rattle.std.specs.Map.{keys_of}
use Rattle.std.specs.Ordering.{eq_by_cmp, nat_cmp}
use Rattle.std.specs.Set.{is_member}
use Rattle.std.proofs.lemmas.Bool.{and_parts, eq-eqb, eqb-true, leb-false, leb-true, true≢false}
use Rattle.std.proofs.lemmas.Bool.Decides.{nat_tests}
use Rattle.std.proofs.lemmas.Cmp.{eq_by_cmp_equiv, nat_cmp_total}
use Rattle.std.proofs.lemmas.List.{length-append, length-map}
use Rattle.std.proofs.lemmas.Map.Keys.{IsDistinct-from_sorted}
use Rattle.std.proofs.lemmas.Map.Made.{length-le_from_is_member}
use Rattle.std.proofs.lemmas.Option.{none-some as none_some}
use Rattle.snap_tree.specs.Snaps.{IsSnapTree, Snaps, chain_of_maybe, is_ancestor_of, named_parent, parent_of}
use Rattle.vol_types.specs.KeyMaps.{IsKeyMap, KeyMap}
use Rattle.vol_types.specs.Maps.{IsMap, value_at}
use Rattle.vol_types.specs.declared.keys.Key.{Key}
use Rattle.vol_types.specs.declared.keys.Update.{Update}
use Rattle.vol_types.specs.declared.positions.Pos.{Pos}
use Rattle.vol_types.specs.declared.values.Snap.{Snap}
use Rattle.vol_types.specs.declared.values.Value.{Value}
use Rattle.key_meaning.specs.Blocks.{blocks_of, covers, own_cover}
use Rattle.key_meaning.specs.Checks.{IsCoveredOnce}
use Rattle.key_meaning.specs.CoverLaws.{own_cover-is}
use Rattle.key_meaning.specs.VisibleLaws.{not_above_itself}
use Rattle.extent_ops.specs.Above.{blocks_maybe, hole_of, holes_to_hide, is_counted, is_extent_maybe, lowest, piece_of, swept}
use Rattle.extent_ops.specs.Bounds.{blocks_in_all}
use Rattle.extent_ops.specs.Content.{AreFreshWithin, AreLookedAt}
use Rattle.extent_ops.specs.Cutting.{change_of, collected, cut_all, cut_value, has_whole, is_kept, put_part, stretch_at, stretch_of, update_at, updates_of}
use Rattle.extent_ops.specs.Stretches.{RiseFrom, between, outside}
use Rattle.extent_ops.specs.declared.cutting.Change.{Change}
use Rattle.extent_ops.specs.declared.stretches.Stretch.{Stretch}
use Rattle.extent_ops.proofs.Cuts.{cut-from}
use Rattle.extent_ops.proofs.Fitting.{collected-has}
use Rattle.extent_ops.proofs.Fresh.{fresh-has, fresh_rise}
use Rattle.extent_ops.proofs.Gaps.{IsGap, in_between}
use Rattle.extent_ops.proofs.Hiding.{has-any, met_by, parts_above}
use Rattle.extent_ops.proofs.Keyed.{IsMap-collected}
use Rattle.extent_ops.proofs.Lying.{kept_none, whole_kept}
use Rattle.extent_ops.proofs.Members.{Has, any-has, has-append, has-first, has-map, has-second, map-has}
use Rattle.extent_ops.proofs.Outside.{between-none}
use Rattle.extent_ops.proofs.Pieces.{range-covers}
use Rattle.extent_ops.proofs.Promising.{holes_for, updates_for}
use Rattle.extent_ops.proofs.Taken.{HasOwn, cut_all-has, looked_at}

rises : (changes : List Change) → IsMap nat_cmp (collected [] changes)
unfolding IsStrictlySortedBy
rises changes = IsMap-collected changes [] tt

same_test : (a b : ℕ) → eq_by_cmp nat_cmp a b ≡ (a == b)
same_test a b = grind (arith, nat_tests)

-- Changes whose ends are all among some are collected to no more updates than there are of these.
pub few_ends : (file id : ℕ) (changes : List Change) (ends : List ℕ) → ((change : Change) → Has change changes → Has change.end ends) → length (updates_of file id changes) ≤ length ends
few_ends file id changes ends among =
    let few : length (keys_of (collected [] changes)) ≤ length ends = length-le_from_is_member (eq_by_cmp_equiv nat_cmp_total) (keys_of (collected [] changes)) ends
    (IsDistinct-from_sorted nat_cmp (keys_of (collected [] changes)) (rises changes)) member in
    omega (arith, few, length-map {B = Update} (collected [] changes) (update_at file id), length-map {B = ℕ} (collected [] changes) (λ (e : ℕ × Option Value). e.0))
  where
    member : (end : ℕ) → is_member (eq_by_cmp nat_cmp) (keys_of (collected [] changes)) end ≡ true → is_member (eq_by_cmp nat_cmp) ends end ≡ true
    member end is =
        let found = any-has (eq_by_cmp nat_cmp end) (keys_of (collected [] changes)) is in
        let entry = has-map (λ (e : ℕ × Option Value). e.0) found.0 (collected [] changes) found.1.0 in
        let change = collected-has changes entry.0 entry.1.0 in
        let at : end ≡ change.0.end = eqb-true end found.0 (sym (same_test end found.0) ∙ found.1.1) ∙ entry.1.1 ∙ ap (λ (e : ℕ × Option Value). e.0) change.1.1 in
        has-any (eq_by_cmp nat_cmp end) change.0.end ends (among change.0 change.1.0) (same_test end change.0.end ∙ eq-eqb end change.0.end at)

-- A part that is left ends where the whole does, or where a stretch begins.
part_end : (low end : ℕ) (stretches : List Stretch) (part : Stretch) → Has part (outside low end stretches) → Has part.end (map (λ (s : Stretch). s.first) stretches) ⊎ (part.end ≡ end)
part_end low end [] part has = inr (ap (λ (s : Stretch). s.end) (in_between low end part has).0)
part_end low end (s ∷ ss) part has = by (nat_le end s.first) has (λ there. part_end (max low s.end) end ss part there)
  where
    by : (b : Bool) → Has part (cond b (between low end) (between low s.first ++ outside (max low s.end) end ss)) → (Has part (outside (max low s.end) end ss) → Has part.end (map (λ (s : Stretch). s.first) ss) ⊎ (part.end ≡ end))
        → Has part.end (map (λ (s : Stretch). s.first) (s ∷ ss)) ⊎ (part.end ≡ end)
    by true here later = inr (ap (λ (s : Stretch). s.end) (in_between low end part here).0)
    by false has later = ⊎_elim
        (λ (here : Has part (between low s.first)). inl (inl (ap (λ (s : Stretch). s.end) (in_between low s.first part here).0)))
        (λ (there : Has part (outside (max low s.end) end ss)). ⊎_elim (λ (first : Has part.end (map (λ (s : Stretch). s.first) ss)). inl (inr first)) (λ (same : part.end ≡ end). inr same) (later there))
        (has-append part (between low s.first) (outside (max low s.end) end ss) has)

-- A cut ends where the value does, or where a stretch begins.
cut_end : (stretches : List Stretch) (from end : ℕ) (value : Value) (change : Change) → RiseFrom from stretches → Has change (cut_value stretches end (Some value)) → Has change.end (map (λ (s : Stretch). s.first) stretches) ⊎ (change.end ≡ end)
cut_end stretches from end value change rise has = ⊎_elim
    (λ (left : (part : Stretch) × (Has part (outside (end - blocks_of value) end stretches) × IsGap (end - blocks_of value) end stretches part × (change ≡ put_part (end - blocks_of value) value part))).
    let at : change.end ≡ left.0.end = ap (λ (c : Change). c.end) left.1.2 in
    ⊎_elim
    (λ (first : Has left.0.end (map (λ (s : Stretch). s.first) stretches)). inl (subst (λ (e : ℕ). Has e (map (λ (s : Stretch). s.first) stretches)) (sym at) first))
    (λ (same : left.0.end ≡ end). inr (at ∙ same))
    (part_end (end - blocks_of value) end stretches left.0 left.1.0))
    (λ (gone : change ≡ record { end = end; value = None }). inr (ap (λ (c : Change). c.end) gone))
    (cut-from stretches from rise end value change has)

-- Each key of the id, each stretch and each given change has one position at most.
pub few_by_keys : (file id from : ℕ) (stretches : List Stretch) (keys : List Key) (given : List Change) → RiseFrom from stretches → length (updates_of file id (cut_all id stretches keys ++ given)) ≤ length keys + length stretches + length given
few_by_keys file id from stretches keys given rise =
    let few = few_ends file id (cut_all id stretches keys ++ given) ends among in
    omega (arith, few, length-append ends_of_keys (firsts ++ ends_given), length-append firsts ends_given, length-map {B = ℕ} keys (λ (key : Key). key.pos.offset), length-map {B = ℕ} stretches (λ (s : Stretch). s.first), length-map {B = ℕ} given (λ (c : Change). c.end))
  where
    ends_of_keys : List ℕ
    ends_of_keys = map (λ (key : Key). key.pos.offset) keys

    firsts : List ℕ
    firsts = map (λ (s : Stretch). s.first) stretches

    ends_given : List ℕ
    ends_given = map (λ (c : Change). c.end) given

    ends : List ℕ
    ends = ends_of_keys ++ (firsts ++ ends_given)

    among : (change : Change) → Has change (cut_all id stretches keys ++ given) → Has change.end ends
    among change has = ⊎_elim
        (λ (cut : Has change (cut_all id stretches keys)).
        let it = cut_all-has id stretches keys change cut in let own = it.1.1.0 in
        ⊎_elim
        (λ (first : Has change.end firsts). has-second change.end ends_of_keys (firsts ++ ends_given) (has-first change.end firsts ends_given first))
        (λ (same : change.end ≡ it.0). has-first change.end ends_of_keys (firsts ++ ends_given) (subst (λ (e : ℕ). Has e ends_of_keys) (own.end_is ∙ sym same) (map-has (λ (key : Key). key.pos.offset) own.key keys own.has)))
        (cut_end stretches from it.0 it.1.0 change rise it.1.1.1))
        (λ (put : Has change given). has-second change.end ends_of_keys (firsts ++ ends_given) (has-second change.end firsts ends_given (map-has (λ (c : Change). c.end) change given put)))
        (has-append change (cut_all id stretches keys) given has)

-- So it is where fresh keys are taken over.
pub fresh_few : (file id first last : ℕ) (keys fresh : List Key) (updates : List Update) → updates ≡ updates_for file id keys fresh → AreFreshWithin file id first last fresh → length updates ≤ length keys + 2 * length fresh
fresh_few file id first last keys fresh updates is are =
    let few = few_by_keys file id first (map stretch_of fresh) keys (map change_of fresh) (fresh_rise file id first fresh are.fresh) in
    omega (arith, few, ap length is, length-map {B = Stretch} fresh stretch_of, length-map {B = Change} fresh change_of)

-- What stretches leave of the blocks from one up to an end is all of them, or one of the stretches has one of them.
abbrev Meets : ℕ → ℕ → List Stretch → Type 0
Meets low end stretches = (s : Stretch) × (Has s stretches × (max low s.first < s.end) × (max low s.first < end))

all_or_met : (low end : ℕ) (stretches : List Stretch) → low < end → ((s : Stretch) → Has s stretches → s.first < s.end) → (outside low end stretches ≡ between low end) ⊎ Meets low end stretches
all_or_met low end [] lt some = inl refl
all_or_met low end (s ∷ ss) lt some = by (nat_le end s.first) refl (nat_le s.end low) refl (all_or_met low end ss lt (λ t has. some t (inr has)))
  where
    here : s.first < s.end
    here = some s (inl refl)

    by : (b : Bool) → nat_le end s.first ≡ b → (c : Bool) → nat_le s.end low ≡ c → (outside low end ss ≡ between low end) ⊎ Meets low end ss
        → (cond b (between low end) (between low s.first ++ outside (max low s.end) end ss) ≡ between low end) ⊎ Meets low end (s ∷ ss)
    by true is c test later = inl refl
    by false is true test later = let before : s.end ≤ low = leb-true s.end low test in
        let same : max low s.end ≡ low = omega (arith, before) in
        ⊎_elim
        (λ (all : outside low end ss ≡ between low end). inl ((λ i. between-none low s.first (omega (arith, before, here)) i ++ outside (same i) end ss) ∙ all))
        (λ (met : Meets low end ss). inr (met.0, (inr met.1.0, met.1.1, met.1.2)))
        later
    by false is false test later = let behind = leb-false s.end low test in let before = leb-false end s.first is in
        inr (s, (inl refl, omega (arith, here, behind), omega (arith, before, lt)))

-- The stretch has one of the blocks of a value that is cut.
met_by_cut : (stretches : List Stretch) (end : ℕ) (value : Value) (change : Change) → ((s : Stretch) → Has s stretches → s.first < s.end) → Has change (cut_value stretches end (Some value)) → Meets (end - blocks_of value) end stretches
met_by_cut stretches end value change some has = by (nat_le end (end - blocks_of value)) refl
  where
    kept : outside (end - blocks_of value) end stretches ≡ between (end - blocks_of value) end → ⊥
    kept all = kept_none (end - blocks_of value) end value (outside (end - blocks_of value) end stretches) change (ap (is_kept (end - blocks_of value) end) all ∙ whole_kept (end - blocks_of value) end) has

    by : (b : Bool) → nat_le end (end - blocks_of value) ≡ b → Meets (end - blocks_of value) end stretches
    by true is = absurd (kept_none (end - blocks_of value) end value (outside (end - blocks_of value) end stretches) change (ap (λ b. b || has_whole (end - blocks_of value) end (outside (end - blocks_of value) end stretches)) is) has)
    by false is = ⊎_elim (λ (all : outside (end - blocks_of value) end stretches ≡ between (end - blocks_of value) end). absurd (kept all)) (λ (met : Meets (end - blocks_of value) end stretches). met)
        (all_or_met (end - blocks_of value) end stretches (leb-false end (end - blocks_of value) is) some)

-- so many numbers behind one
abbrev ends_behind : ℕ → ℕ → List ℕ
ends_behind first zero = []
ends_behind first (suc count) = suc first ∷ ends_behind (suc first) count

length-ends_behind : (first count : ℕ) → length (ends_behind first count) ≡ count
length-ends_behind first zero = refl
length-ends_behind first (suc count) = ap suc (length-ends_behind (suc first) count)

has-ends_behind : (end first count : ℕ) → first < end → end ≤ first + count → Has end (ends_behind first count)
has-ends_behind end first zero lt le = absurd (omega (arith, lt, le))
has-ends_behind end first (suc count) lt le = by (nat_le end (suc first)) refl (λ further. has-ends_behind end (suc first) count further (omega (arith, le)))
  where
    by : (b : Bool) → nat_le end (suc first) ≡ b → (suc first < end → Has end (ends_behind (suc first) count)) → Has end (suc first ∷ ends_behind (suc first) count)
    by true is later = let below = leb-true end (suc first) is in inl (omega (arith, below, lt))
    by false is later = inr (later (leb-false end (suc first) is))

module _ (keys_map : KeyMap) (is : IsKeyMap keys_map) (file id first last : ℕ) (keys : List Key) (looked : AreLookedAt keys_map file first last keys) (apart : IsCoveredOnce keys_map file id) where
  -- the end of what covers a block in the id itself
  abbrev end_of : Option (Pos × Value) → ℕ
  end_of None = 0
  end_of (Some entry) = entry.0.offset

  -- where changes may stand for a stretch: where it begins, where what covers its last block ends, and behind each of its blocks
  abbrev ends_for : Stretch → List ℕ
  ends_for s = s.first ∷ end_of (own_cover keys_map file (s.end - 1) id) ∷ ends_behind s.first (s.end - s.first)

  abbrev ends_for_all : List Stretch → List ℕ
  ends_for_all [] = []
  ends_for_all (s ∷ ss) = ends_for s ++ ends_for_all ss

  has-ends_for : (end : ℕ) (s : Stretch) (stretches : List Stretch) → Has s stretches → Has end (ends_for s) → Has end (ends_for_all stretches)
  has-ends_for end s [] has there = elim has [ ]
  has-ends_for end s (t ∷ ts) (inl same) there = has-first end (ends_for t) (ends_for_all ts) (subst (λ (x : Stretch). Has end (ends_for x)) same there)
  has-ends_for end s (t ∷ ts) (inr later) there = has-second end (ends_for t) (ends_for_all ts) (has-ends_for end s ts later there)

  -- A cut of a key stands at one of these.
  cut_among : (from : ℕ) (stretches : List Stretch) (change : Change) → RiseFrom from stretches → ((s : Stretch) → Has s stretches → s.first < s.end) → Has change (cut_all id stretches keys) → Has change.end (ends_for_all stretches)
  cut_among from stretches change rise some has =
      let it = cut_all-has id stretches keys change has in
      ⊎_elim
      (λ (begins : Has change.end (map (λ (s : Stretch). s.first) stretches)). let s = has-map (λ (s : Stretch). s.first) change.end stretches begins in has-ends_for change.end s.0 stretches s.1.0 (inl s.1.1))
      (λ (ends : change.end ≡ it.0). subst (λ (e : ℕ). Has e (ends_for_all stretches)) (sym ends) (key_end it.0 it.1.0 it.1.1.0 (met_by_cut stretches it.0 it.1.0 change some it.1.1.1)))
      (cut_end stretches from it.0 it.1.0 change rise it.1.1.1)
    where
      key_end : (end : ℕ) (value : Value) → HasOwn id keys end value → Meets (end - blocks_of value) end stretches → Has end (ends_for_all stretches)
      key_end end value own met = has-ends_for end met.0 stretches met.1.0 (by (nat_le end met.0.end) refl)
        where
          by : (b : Bool) → nat_le end met.0.end ≡ b → Has end (ends_for met.0)
          by true is_before = let before = leb-true end met.0.end is_before in inr (inr (has-ends_behind end met.0.first (met.0.end - met.0.first) (omega (arith, met.1.2)) (omega (arith, before))))
          by false is_before = let behind = leb-false end met.0.end is_before in
              let at = (looked_at keys_map file first last id keys end value is looked own).0 in
              let over : covers end value (met.0.end - 1) ≡ true = range-covers end value (met.0.end - 1) (omega (arith, met.1.1)) (omega (arith, met.1.1, behind)) in
              inr (inl (sym (ap end_of (own_cover-is keys_map file (met.0.end - 1) id end value is apart at over))))

  -- what is given ends behind a block of a stretch
  abbrev EndsIn : List Stretch → Change → Type 0
  EndsIn stretches change = (s : Stretch) × (Has s stretches × (s.first < change.end) × (change.end ≤ s.end))

  given_among : (stretches : List Stretch) (change : Change) → EndsIn stretches change → Has change.end (ends_for_all stretches)
  given_among stretches change inside = has-ends_for change.end inside.0 stretches inside.1.0 (inr (inr (has-ends_behind change.end inside.0.first (inside.0.end - inside.0.first) inside.1.1 (omega (arith, inside.1.1, inside.1.2)))))

  -- how many these are
  abbrev count_for : List Stretch → ℕ
  count_for [] = 0
  count_for (s ∷ ss) = (s.end - s.first) + 2 + count_for ss

  length-ends_for_all : (stretches : List Stretch) → length (ends_for_all stretches) ≡ count_for stretches
  length-ends_for_all [] = refl
  length-ends_for_all (s ∷ ss) = let later = length-ends_for_all ss in omega (arith, later, length-append (ends_for s) (ends_for_all ss), length-ends_behind s.first (s.end - s.first))

  -- So there are no more changes than blocks of the stretches, and two for each stretch.
  few_by_blocks : (from : ℕ) (stretches : List Stretch) (given : List Change) → RiseFrom from stretches → ((s : Stretch) → Has s stretches → s.first < s.end) → ((change : Change) → Has change given → EndsIn stretches change)
      → length (updates_of file id (cut_all id stretches keys ++ given)) ≤ count_for stretches
  few_by_blocks from stretches given rise some inside =
      let few = few_ends file id (cut_all id stretches keys ++ given) (ends_for_all stretches)
      (λ change has. ⊎_elim (λ (cut : Has change (cut_all id stretches keys)). cut_among from stretches change rise some cut) (λ (put : Has change given). given_among stretches change (inside change put)) (has-append change (cut_all id stretches keys) given has)) in
      omega (arith, few, length-ends_for_all stretches)

  count-fresh : (fresh : List Key) → count_for (map stretch_of fresh) ≤ blocks_in_all fresh + 2 * length fresh
  count-fresh [] = omega arith
  count-fresh (key ∷ keys) = let later = count-fresh keys in by key.value later
    where
      by : (value : Option Value) → count_for (map stretch_of keys) ≤ blocks_in_all keys + 2 * length keys
          → ((stretch_at key.pos.offset value).end - (stretch_at key.pos.offset value).first) + 2 + count_for (map stretch_of keys) ≤ (blocks_maybe value + blocks_in_all keys) + 2 * length (key ∷ keys)
      by None later = omega (arith, later)
      by (Some value) later = omega (arith, later)

  -- So it is where fresh keys are taken over,
  pub fresh_few_blocks : (fresh : List Key) (updates : List Update) → updates ≡ updates_for file id keys fresh → AreFreshWithin file id first last fresh → length updates ≤ blocks_in_all fresh + 2 * length fresh
  fresh_few_blocks fresh updates made are =
      let few = few_by_blocks first (map stretch_of fresh) (map change_of fresh) (fresh_rise file id first fresh are.fresh)
      (λ s has. let k = has-map stretch_of s fresh has in subst (λ (x : Stretch). x.first < x.end) (sym k.1.1) (some k.0 k.1.0))
      (λ change has. let k = has-map change_of change fresh has in subst (EndsIn (map stretch_of fresh)) (sym k.1.1) (stretch_of k.0, (map-has stretch_of k.0 fresh k.1.0, above k.0 k.1.0, within k.0))) in
      omega (arith, few, ap length made, count-fresh fresh)
    where
      ends : (key : Key) → (stretch_of key).end ≡ key.pos.offset
      ends key = by key.value
        where
          by : (value : Option Value) → (stretch_at key.pos.offset value).end ≡ key.pos.offset
          by None = refl
          by (Some value) = refl

      above : (key : Key) → Has key fresh → (stretch_of key).first < key.pos.offset
      above key has = let it = (fresh-has file id first fresh key are.fresh has).1.0 in
          let low : (stretch_of key).first ≡ key.pos.offset - blocks_of it.value = ap (λ v. (stretch_at key.pos.offset v).first) it.is in
          omega (arith, low, it.some, it.behind)

      some : (key : Key) → Has key fresh → (stretch_of key).first < (stretch_of key).end
      some key has = let lt = above key has in omega (arith, lt, ends key)

      within : (key : Key) → key.pos.offset ≤ (stretch_of key).end
      within key = omega (arith, ends key)

  -- and where holes are put over a stretch.
  pub holes_few_blocks : (tree : Snaps) (w : Stretch) (updates : List Update) → updates ≡ holes_for tree file id w keys → w.first < w.end → length updates ≤ (w.end - w.first) + 2
  holes_few_blocks tree w updates made forward =
      let few = few_by_blocks w.first (w ∷ []) (holes_to_hide tree (parent_of tree id) w keys) (omega arith, omega (arith, forward), tt)
      (λ s has. only s has (λ (x : Stretch). x.first < x.end) forward)
      (λ change has. inside (parent_of tree id) change has) in
      omega (arith, few, ap length made)
    where
      only : (s : Stretch) → Has s (w ∷ []) → (P : Stretch → Type 0) → P w → P s
      only s (inl same) P holds = subst P (sym same) holds
      only s (inr none) P holds = elim none [ ]

      inside : (parent : Option ℕ) (change : Change) → Has change (holes_to_hide tree parent w keys) → EndsIn (w ∷ []) change
      inside None change has = elim has [ ]
      inside (Some parent) change has =
          let part = has-map hole_of change (swept tree parent w keys) has in
          let it = met_by tree parent w (omega (arith, forward)) keys part.0 part.1.0 in
          let lt = (parts_above tree parent w (omega (arith, forward)) keys part.0 part.1.0).1 in
          let low = it.1.1 part.0.first (omega arith) lt in
          let high = it.1.1 (part.0.end - 1) (omega (arith, lt)) (omega (arith, lt)) in
          let at : change.end ≡ part.0.end = ap (λ (c : Change). c.end) part.1.1 in
          (w, (inl refl, omega (arith, at, lt, low.1), omega (arith, at, high.2, lt)))

-- where the keys of an id end
abbrev own_ends : ℕ → List Key → List ℕ
own_ends id [] = []
own_ends id (key ∷ keys) = cond (key.pos.snapshot == id) (key.pos.offset ∷ own_ends id keys) (own_ends id keys)

has-own_ends : (id : ℕ) (keys : List Key) (end : ℕ) (value : Value) → HasOwn id keys end value → Has end (own_ends id keys)
has-own_ends id keys end value own = over keys own.has
  where
    over : (keys : List Key) → Has own.key keys → Has end (own_ends id keys)
    over [] none = elim none [ ]
    over (key ∷ keys) (inl same) = subst (λ (b : Bool). Has end (cond b (key.pos.offset ∷ own_ends id keys) (own_ends id keys))) (sym (eq-eqb key.pos.snapshot id (ap (λ (k : Key). k.pos.snapshot) (sym same) ∙ own.id_is))) (inl (sym own.end_is ∙ ap (λ (k : Key). k.pos.offset) same))
    over (key ∷ keys) (inr later) = by (key.pos.snapshot == id) (over keys later)
      where
        by : (b : Bool) → Has end (own_ends id keys) → Has end (cond b (key.pos.offset ∷ own_ends id keys) (own_ends id keys))
        by true there = inr there
        by false there = there

few_between : (first end : ℕ) → length (between first end) ≤ 1
few_between first end = by (nat_lt first end)
  where
    by : (b : Bool) → length {A = Stretch} (cond b (record { first = first; end = end } ∷ []) []) ≤ 1
    by true = omega arith
    by false = omega arith

-- No key is cut and hidden: each is of the id, or of an ancestor.
module _ (tree : Snaps) (trees : IsSnapTree tree) (id parent : ℕ) (above : parent_of tree id ≡ Some parent) (w : Stretch) where
  there : IsSome (value_at nat_cmp id tree)
  there = by (value_at nat_cmp id tree) refl
    where
      by : (o : Option Snap) → value_at nat_cmp id tree ≡ o → IsSome (value_at nat_cmp id tree)
      by None none = absurd (none_some parent (sym (ap named_parent none) ∙ above))
      by (Some snap) some = subst IsSome (sym some) refl

  apart_ids : is_ancestor_of tree id parent ≡ false
  apart_ids = ap (λ o. list_any (nat_eq id) (chain_of_maybe tree o)) (sym above) ∙ not_above_itself tree id trees there

  cut_or_hidden : (keys : List Key) → length (own_ends id keys) + length (swept tree parent w keys) ≤ length keys
  cut_or_hidden [] = omega arith
  cut_or_hidden (key ∷ keys) = by (key.pos.snapshot == id) refl (is_counted tree parent key) refl (cut_or_hidden keys)
    where
      piece : Stretch
      piece = piece_of w (lowest tree parent w keys) key

      by : (b : Bool) → (key.pos.snapshot == id) ≡ b → (d : Bool) → is_counted tree parent key ≡ d → length (own_ends id keys) + length (swept tree parent w keys) ≤ length keys
          → length (cond b (key.pos.offset ∷ own_ends id keys) (own_ends id keys)) + length (cond d (swept tree parent w keys ++ between (piece_of w (lowest tree parent w keys) key).first (piece_of w (lowest tree parent w keys) key).end) (swept tree parent w keys)) ≤ length (key ∷ keys)
      by true own true counted later = absurd (true≢false (sym (and_parts (is_extent_maybe key.value) (is_ancestor_of tree key.pos.snapshot parent) counted).1 ∙ ap (λ n. is_ancestor_of tree n parent) (eqb-true key.pos.snapshot id own) ∙ apart_ids))
      by true own false counted later = omega (arith, later)
      by false own false counted later = omega (arith, later)
      by false own true counted later = omega (arith, later, few_between (piece_of w (lowest tree parent w keys) key).first (piece_of w (lowest tree parent w keys) key).end, length-append (swept tree parent w keys) (between (piece_of w (lowest tree parent w keys) key).first (piece_of w (lowest tree parent w keys) key).end))

own_few : (id : ℕ) (keys : List Key) → length (own_ends id keys) ≤ length keys
own_few id [] = omega arith
own_few id (key ∷ keys) = by (key.pos.snapshot == id) (own_few id keys)
  where
    by : (b : Bool) → length (own_ends id keys) ≤ length keys → length (cond b (key.pos.offset ∷ own_ends id keys) (own_ends id keys)) ≤ length (key ∷ keys)
    by true later = omega (arith, later)
    by false later = omega (arith, later)

-- So holes over a stretch make no more updates than there are keys, and one.
pub holes_few : (tree : Snaps) → IsSnapTree tree → (file id : ℕ) (w : Stretch) (keys : List Key) (updates : List Update) → updates ≡ holes_for tree file id w keys → w.first ≤ w.end → length updates ≤ length keys + 1
holes_few tree trees file id w keys updates made forward =
    let few = few_ends file id (cut_all id (w ∷ []) keys ++ given) (own_ends id keys ++ (w.first ∷ map (λ (c : Change). c.end) given)) among in
    omega (arith, few, ap length made, length-append (own_ends id keys) (w.first ∷ map (λ (c : Change). c.end) given), length-map {B = ℕ} given (λ (c : Change). c.end), holes (parent_of tree id) refl)
  where
    given : List Change
    given = holes_to_hide tree (parent_of tree id) w keys

    holes : (parent : Option ℕ) → parent_of tree id ≡ parent → length (own_ends id keys) + length (holes_to_hide tree parent w keys) ≤ length keys
    holes None above = omega (arith, own_few id keys)
    holes (Some parent) above = omega (arith, cut_or_hidden tree trees id parent above w keys, length-map {B = Change} (swept tree parent w keys) hole_of)

    among : (change : Change) → Has change (cut_all id (w ∷ []) keys ++ given) → Has change.end (own_ends id keys ++ (w.first ∷ map (λ (c : Change). c.end) given))
    among change has = ⊎_elim
        (λ (cut : Has change (cut_all id (w ∷ []) keys)).
        let it = cut_all-has id (w ∷ []) keys change cut in
        ⊎_elim
        (λ (first : Has change.end (w.first ∷ [])). ⊎_elim (λ (same : change.end ≡ w.first). has-second change.end (own_ends id keys) (w.first ∷ map (λ (c : Change). c.end) given) (inl same)) (λ (none : ⊥). absurd none) first)
        (λ (same : change.end ≡ it.0). has-first change.end (own_ends id keys) (w.first ∷ map (λ (c : Change). c.end) given) (subst (λ (e : ℕ). Has e (own_ends id keys)) (sym same) (has-own_ends id keys it.0 it.1.0 it.1.1.0)))
        (cut_end (w ∷ []) w.first it.0 it.1.0 change (omega arith, forward, tt) it.1.1.1))
        (λ (put : Has change given). has-second change.end (own_ends id keys) (w.first ∷ map (λ (c : Change). c.end) given) (inr (map-has (λ (c : Change). c.end) change given put)))
        (has-append change (cut_all id (w ∷ []) keys) given has)
