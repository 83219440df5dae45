-- Which leaf covers a position, and what its entries are, also after a change.
use Rattle.std.proofs.Common.{◌≡◌, ◌+◌, Bool, true, false, cond, ◌&&◌, ◌||◌, Option, Some, None, List, [], ◌∷◌, refl, sym, ap, ◌∙◌, subst, arith}
use Rattle.std.specs.Prelude.{IfSome, is_some, unwrap_or}
use Rattle.std.specs.BTreeMap.{is_at}
use Rattle.std.specs.List.{AllByRecursion, filter}
use Rattle.std.specs.List.Sorted.{IsStrictlySortedBy}
use Rattle.std.specs.Map.{keys_of}
use Rattle.std.specs.Option.{option_and_then, option_or}
use Rattle.std.specs.Ordering.{is_eq, is_le, is_lt, ordering_reverse}
use Rattle.std.specs.declared.cmp.Ordering.{Ordering}
use Rattle.std.specs.declared.cmp.Ordering.TheVariants.{Less, Equal, Greater}
use Rattle.std.proofs.lemmas.Bool.{false≢true, and_left, or_left, or_right}
use Rattle.std.proofs.lemmas.List.Elements.{recursion_from_All}
use Rattle.std.proofs.lemmas.Map.Keys.{sorted_head, sorted_tail}
use Rattle.node_mem.specs.CountLaws.{keys-put_at, length-put_at, values-put_at}
use Rattle.node_mem.specs.Counts.{length_of}
use Rattle.vol_types.specs.FollowerLaws.{after_test, has_follower, not_greatest}
use Rattle.node_mem.specs.RangeLaws.{same_part}
use Rattle.tree_keys.specs.Counts.{leaf_bytes}
use Rattle.tree_keys.specs.Cuts.{AreEnds, Cut, IsCut, end_before, end_of, is_end, leaf_entries, start_of, with_entries}
use Rattle.tree_keys.specs.OrderLaws
use Rattle.tree_keys.specs.PartLaws.{IsMap-part, part-put_at, part-untouched, value_at-part}
use Rattle.vol_types.specs.KeyMaps.{keys_in}
use Rattle.vol_types.specs.MapLaws.{IsMap-put_at}
use Rattle.vol_types.specs.Maps.{put_at, value_at}
use Rattle.vol_types.specs.PositionLaws.{pos_total}
use Rattle.vol_types.specs.Positions.{greatest_pos, is_within, least_pos, next_pos, pos_cmp}
use Rattle.vol_types.specs.Ranges.{IsKeyValue, IsValue}
use Rattle.vol_types.specs.Sets.{set_length_of}
use Rattle.vol_types.specs.Widths.{PosFits}
use Rattle.vol_types.specs.declared.positions.Pos.{Pos}
use Rattle.vol_types.specs.declared.values.Value.{Value}

-- A map with leaves as its keys, or nodes that are such, has an entry where a leaf ends.
pub is_end-keys : {X : Type 0} (pos : Pos) (leaves : List (Pos × X)) → is_end pos (keys_of leaves) ≡ is_some (value_at pos_cmp pos leaves)
is_end-keys pos [] = refl
is_end-keys pos (e ∷ leaves) = by (is_at (pos_cmp pos) e.0) (is_end-keys pos leaves)
  where
    by : (b : Bool) → is_end pos (keys_of leaves) ≡ is_some (value_at pos_cmp pos leaves) → (b || is_end pos (keys_of leaves)) ≡ is_some (cond b (Some e.1) (value_at pos_cmp pos leaves))
    by true later = refl
    by false later = later

-- What holds of all positions of a list holds of each.
pub at_end : (P : Pos → Type 0) (end : Pos) (ends : List Pos) → AllByRecursion P ends → is_end end ends ≡ true → P end
at_end P end [] all has = absurd (false≢true has)
at_end P end (e ∷ ends) all has = by (is_at (pos_cmp end) e) refl has (at_end P end ends all.1)
  where
    by : (b : Bool) → is_at (pos_cmp end) e ≡ b → (b || is_end end ends) ≡ true → (is_end end ends ≡ true → P end) → P end
    by true at has later = subst P (sym (OrderLaws.same_from_at end e at)) all.0
    by false at has later = later has

-- A position isn't after the end of the leaf that covers it.
pub end_of-after : (pos : Pos) (ends : List Pos) → is_le (pos_cmp pos greatest_pos) ≡ true → is_le (pos_cmp pos (end_of pos ends)) ≡ true
end_of-after pos [] low = low
end_of-after pos (e ∷ ends) low = by (is_le (pos_cmp pos e)) refl (end_of-after pos ends low)
  where
    by : (b : Bool) → is_le (pos_cmp pos e) ≡ b → is_le (pos_cmp pos (end_of pos ends)) ≡ true → is_le (pos_cmp pos (cond b e (end_of pos ends))) ≡ true
    by true le later = le
    by false le later = later

-- Each position is covered by a leaf.
pub end_of-end : (pos : Pos) (ends : List Pos) → is_le (pos_cmp pos greatest_pos) ≡ true → is_end greatest_pos ends ≡ true → is_end (end_of pos ends) ends ≡ true
end_of-end pos [] low whole = whole
end_of-end pos (e ∷ ends) low whole = by (is_le (pos_cmp pos e)) refl (end_of-end pos ends low)
  where
    greatest : (b : Bool) → is_at (pos_cmp greatest_pos) e ≡ b → (b || is_end greatest_pos ends) ≡ true → is_le (pos_cmp pos e) ≡ false → is_end greatest_pos ends ≡ true
    greatest true at has less = absurd (false≢true (sym less ∙ (ap (λ p. is_le (pos_cmp pos p)) (sym (OrderLaws.same_from_at greatest_pos e at)) ∙ low)))
    greatest false at has less = has

    by : (b : Bool) → is_le (pos_cmp pos e) ≡ b → (is_end greatest_pos ends ≡ true → is_end (end_of pos ends) ends ≡ true) → (is_at (pos_cmp (cond b e (end_of pos ends))) e || is_end (cond b e (end_of pos ends)) ends) ≡ true
    by true le later = or_left (is_at (pos_cmp e) e) (is_end e ends) (OrderLaws.at_itself e)
    by false le later = or_right (is_at (pos_cmp (end_of pos ends)) e) (is_end (end_of pos ends) ends) (later (greatest (is_at (pos_cmp greatest_pos) e) refl whole le))

-- whether a position is after what may be one
abbrev is_after : Pos → Option Pos → Bool
is_after pos None = true
is_after pos (Some before) = is_lt (pos_cmp before pos)

or_or : (o : Option Pos) (e : Pos) (b : Option Pos) → option_or (option_or o (Some e)) b ≡ option_or o (Some e)
or_or None e b = refl
or_or (Some x) e b = refl

or_none : (o : Option Pos) → option_or o None ≡ o
or_none None = refl
or_none (Some x) = refl

-- Among ends after a position that another isn't after, none is before that one.
pub none_before : (e end : Pos) (ends : List Pos) → AllByRecursion (λ y. pos_cmp e y ≡ Less) ends → is_le (pos_cmp end e) ≡ true → end_before end ends ≡ None
none_before e end [] above le = refl
none_before e end (y ∷ ends) above le =
    let after : pos_cmp end y ≡ Less = OrderLaws.before_from_le_before end e y le above.0 in
    ap (λ o. cond (is_lt o) (option_or (end_before end ends) (Some y)) (end_before end ends)) (pos_total.antisymm y end ∙ ap ordering_reverse after) ∙ none_before e end ends above.1 le

-- the last end before a position is before it
end_before-is : (P : Pos → Type 0) (end : Pos) (ends : List Pos) → AllByRecursion P ends → IfSome (end_before end ends) (λ b. P b × (pos_cmp b end ≡ Less))
end_before-is P end [] all = tt
end_before-is P end (e ∷ ends) all = by (pos_cmp e end) refl (end_before end ends) (end_before-is P end ends all.1)
  where
    by : (r : Ordering) → pos_cmp e end ≡ r → (o : Option Pos) → IfSome o (λ b. P b × (pos_cmp b end ≡ Less)) → IfSome (cond (is_lt r) (option_or o (Some e)) o) (λ b. P b × (pos_cmp b end ≡ Less))
    by Less is None later = (all.0, is)
    by Less is (Some b) later = later
    by Equal is o later = later
    by Greater is o later = later

module _ (pos end : Pos) (low : is_le (pos_cmp pos greatest_pos) ≡ true) where
  -- what isn't after the first of rising ends isn't after a later one
  not_after_later : (e : Pos) (o : Option Pos) → is_le (pos_cmp pos e) ≡ true → IfSome o (λ b. (pos_cmp e b ≡ Less) × (pos_cmp b end ≡ Less)) → is_after pos (option_or o (Some e)) ≡ false
  not_after_later e None le later = not_less e le
    where
      not_less : (x : Pos) → is_le (pos_cmp pos x) ≡ true → is_lt (pos_cmp x pos) ≡ false
      not_less x le = ap is_lt (pos_total.antisymm x pos) ∙ turned (pos_cmp pos x) le
        where
          turned : (o : Ordering) → is_le o ≡ true → is_lt (ordering_reverse o) ≡ false
          turned Less is = refl
          turned Equal is = refl
          turned Greater is = absurd (false≢true is)
  not_after_later e (Some b) le later = ap is_lt (pos_total.antisymm b pos ∙ ap ordering_reverse (OrderLaws.before_from_le_before pos e b le later.0))

  -- whether a position is in the range of a leaf, as whether its leaf is that one
  abbrev IsTested : Option Pos → List Pos → Type 0
  IsTested b ends = (is_after pos (option_or (end_before end ends) b) && is_le (pos_cmp pos end)) ≡ is_at (pos_cmp end) (end_of pos ends)

  module _ (e : Pos) (ends : List Pos) (rise : IsStrictlySortedBy pos_cmp (e ∷ ends)) (b : Option Pos) (after : is_after pos b ≡ true) where
    later_end : is_at (pos_cmp end) e ≡ false → (is_at (pos_cmp end) e || is_end end ends) ≡ true → is_end end ends ≡ true
    later_end other has = subst (λ t. (t || is_end end ends) ≡ true) other has

    tested_before : pos_cmp e end ≡ Less → is_end end (e ∷ ends) ≡ true → ((b' : Option Pos) → is_end end ends ≡ true → is_after pos b' ≡ true → IsTested b' ends) → IsTested b (e ∷ ends)
    tested_before is has later =
        ap (λ o. is_after pos (option_or (cond (is_lt o) (option_or (end_before end ends) (Some e)) (end_before end ends)) b) && is_le (pos_cmp pos end)) is
        ∙ ap (λ o. is_after pos o && is_le (pos_cmp pos end)) (or_or (end_before end ends) e b)
        ∙ by (is_le (pos_cmp pos e)) refl
      where
        by : (t : Bool) → is_le (pos_cmp pos e) ≡ t → (is_after pos (option_or (end_before end ends) (Some e)) && is_le (pos_cmp pos end)) ≡ is_at (pos_cmp end) (cond t e (end_of pos ends))
        by true le =
            and_left (is_after pos (option_or (end_before end ends) (Some e))) (is_le (pos_cmp pos end)) (not_after_later e (end_before end ends) le (end_before-is (λ y. pos_cmp e y ≡ Less) end ends (sorted_head pos_cmp e ends rise)))
            ∙ sym (OrderLaws.not_at_from_after e end is)
        by false le = later (Some e) (later_end (OrderLaws.not_at_from_after e end is) has) (ap is_lt (OrderLaws.before_from_not_le pos e le))

    tested_here : pos_cmp e end ≡ Equal → IsTested b (e ∷ ends)
    tested_here is =
        ap (λ o. is_after pos (option_or (cond (is_lt o) (option_or (end_before end ends) (Some e)) (end_before end ends)) b) && is_le (pos_cmp pos end)) is
        ∙ ap (λ o. is_after pos (option_or o b) && is_le (pos_cmp pos end)) (none_before e end ends (sorted_head pos_cmp e ends rise) (ap is_le (pos_total.antisymm end e ∙ ap ordering_reverse is)))
        ∙ ap (λ t. t && is_le (pos_cmp pos end)) after
        ∙ by (is_le (pos_cmp pos e)) refl
      where
        same : e ≡ end
        same = OrderLaws.same_from_at e end (ap is_eq is)

        by : (t : Bool) → is_le (pos_cmp pos e) ≡ t → is_le (pos_cmp pos end) ≡ is_at (pos_cmp end) (cond t e (end_of pos ends))
        by true le = ap (λ p. is_le (pos_cmp pos p)) (sym same) ∙ le ∙ sym (ap (is_at (pos_cmp end)) same ∙ OrderLaws.at_itself end)
        by false le =
            ap (λ p. is_le (pos_cmp pos p)) (sym same) ∙ le
            ∙ sym (OrderLaws.not_at_from_before end (end_of pos ends) (subst (λ p. pos_cmp p (end_of pos ends) ≡ Less) same (OrderLaws.before_from_before_le e pos (end_of pos ends) (OrderLaws.before_from_not_le pos e le) (end_of-after pos ends low))))

    tested_after : pos_cmp e end ≡ Greater → is_end end (e ∷ ends) ≡ true → IsTested b (e ∷ ends)
    tested_after is has =
        let before : pos_cmp end e ≡ Less = pos_total.antisymm end e ∙ ap ordering_reverse is in
        let above : pos_cmp e end ≡ Less = at_end (λ y. pos_cmp e y ≡ Less) end ends (sorted_head pos_cmp e ends rise) (later_end (OrderLaws.not_at_from_before end e before) has) in
        absurd (false≢true (sym (ap is_lt is) ∙ ap is_lt above))

  tested : (b : Option Pos) (ends : List Pos) → IsStrictlySortedBy pos_cmp ends → is_end end ends ≡ true → is_after pos b ≡ true → IsTested b ends
  tested b [] rise has after = absurd (false≢true has)
  tested b (e ∷ ends) rise has after = by (pos_cmp e end) refl (λ b' has' after'. tested b' ends (sorted_tail pos_cmp e ends rise) has' after')
    where
      by : (r : Ordering) → pos_cmp e end ≡ r → ((b' : Option Pos) → is_end end ends ≡ true → is_after pos b' ≡ true → IsTested b' ends) → IsTested b (e ∷ ends)
      by Less is later = tested_before e ends rise b after is has later
      by Equal is later = tested_here e ends rise b after is
      by Greater is later = tested_after e ends rise b after is has

-- a leaf begins after the end before it
start_test : (pos end : Pos) (o : Option Pos) → PosFits pos → PosFits end → IfSome o (λ b. PosFits b × (pos_cmp b end ≡ Less)) → is_le (pos_cmp (unwrap_or (option_and_then next_pos o) least_pos) pos) ≡ is_after pos o
start_test pos end None fits ends before = OrderLaws.least_le pos fits
start_test pos end (Some b) fits ends before = by (next_pos b) refl
  where
    by : (o : Option Pos) → next_pos b ≡ o → is_le (pos_cmp (unwrap_or o least_pos) pos) ≡ is_lt (pos_cmp b pos)
    by None is = absurd (has_follower b before.0 (not_greatest b end before.0 ends before.1) is)
    by (Some next) is = after_test b next before.0 is pos fits

-- A position is in the range of a leaf exactly where that leaf covers it.
pub leaf_test : (pos end : Pos) (ends : List Pos) → AreEnds ends → PosFits pos → is_end end ends ≡ true → is_within (start_of end ends) end pos ≡ is_at (pos_cmp end) (end_of pos ends)
leaf_test pos end ends are fits has =
    let all = recursion_from_All PosFits ends are.fit in
    ap (λ t. t && is_le (pos_cmp pos end)) (start_test pos end (end_before end ends) fits (at_end PosFits end ends all has) (end_before-is PosFits end ends all))
    ∙ ap (λ o. is_after pos o && is_le (pos_cmp pos end)) (sym (or_none (end_before end ends)))
    ∙ tested pos end (OrderLaws.le_greatest pos fits) None ends are.rise has refl

-- The entries of a leaf are those whose positions it covers.
pub leaf_entries-covered : (end : Pos) (cut : Cut) → IsCut cut → is_end end cut.ends ≡ true → leaf_entries end cut ≡ filter (λ entry. is_at (pos_cmp end) (end_of entry.0 cut.ends)) cut.entries
leaf_entries-covered end cut is has = same_part (is_within (start_of end cut.ends) end) (λ p. is_at (pos_cmp end) (end_of p cut.ends)) (λ p fits. leaf_test p end cut.ends is.ends fits has) cut.entries is.fit

module _ (cut : Cut) (is : IsCut cut) (pos : Pos) (fits : PosFits pos) (value : Option Value) (end : Pos) (has : is_end end cut.ends ≡ true) where
  -- A change at a position changes the entries of the leaf that covers it.
  pub leaf_entries-put_at : end_of pos cut.ends ≡ end → leaf_entries end (with_entries cut (put_at pos_cmp pos value cut.entries)) ≡ put_at pos_cmp pos value (leaf_entries end cut)
  leaf_entries-put_at covers =
      part-put_at (is_within (start_of end cut.ends) end) pos value cut.entries is.rises (leaf_test pos end cut.ends is.ends fits has ∙ ap (is_at (pos_cmp end)) covers ∙ OrderLaws.at_itself end)

  -- And it leaves those of each other leaf.
  pub leaf_entries-untouched : is_at (pos_cmp end) (end_of pos cut.ends) ≡ false → leaf_entries end (with_entries cut (put_at pos_cmp pos value cut.entries)) ≡ leaf_entries end cut
  leaf_entries-untouched other = part-untouched (is_within (start_of end cut.ends) end) pos value cut.entries is.rises (leaf_test pos end cut.ends is.ends fits has ∙ other)

  -- The bytes of the leaf that covers it change by those of the key that is put and of the one that was there.
  pub leaf_bytes-put_at : end_of pos cut.ends ≡ end → leaf_bytes end (with_entries cut (put_at pos_cmp pos value cut.entries)) + length_of (value_at pos_cmp pos cut.entries) ≡ leaf_bytes end cut + length_of value
  leaf_bytes-put_at covers =
      let here : is_within (start_of end cut.ends) end pos ≡ true = leaf_test pos end cut.ends is.ends fits has ∙ ap (is_at (pos_cmp end)) covers ∙ OrderLaws.at_itself end in
      let was : value_at pos_cmp pos (leaf_entries end cut) ≡ value_at pos_cmp pos cut.entries =
      value_at-part (is_within (start_of end cut.ends) end) pos cut.entries ∙ ap (λ b. cond b (value_at pos_cmp pos cut.entries) None) here in
      omega (
        arith,
        ap (λ es. set_length_of (keys_in es)) (leaf_entries-put_at covers),
        ap length_of was,
        length-put_at pos (leaf_entries end cut) (IsMap-part (is_within (start_of end cut.ends) end) cut.entries is.rises) value,
      )

  -- And those of each other leaf stay.
  pub leaf_bytes-untouched : is_at (pos_cmp end) (end_of pos cut.ends) ≡ false → leaf_bytes end (with_entries cut (put_at pos_cmp pos value cut.entries)) ≡ leaf_bytes end cut
  leaf_bytes-untouched other = ap (λ es. set_length_of (keys_in es)) (leaf_entries-untouched other)

in_range : (value : Option Value) → IsKeyValue value → IfSome value IsValue
in_range None is = tt
in_range (Some value) is = is

-- Keys with a value put or taken away are cut into leaves as before.
pub IsCut-put_at : (cut : Cut) → IsCut cut → (pos : Pos) → PosFits pos → (value : Option Value) → IsKeyValue value → IsCut (with_entries cut (put_at pos_cmp pos value cut.entries))
IsCut-put_at cut is pos fits value range = record {
  rises = IsMap-put_at pos_total pos value cut.entries is.rises;
  fit = keys-put_at PosFits pos value cut.entries is.fit fits;
  in_range = values-put_at IsValue pos value cut.entries is.in_range (in_range value range);
  ends = is.ends;
}
