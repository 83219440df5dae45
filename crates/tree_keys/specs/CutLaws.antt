-- Which leaf covers a position after one was cut in two, and what the entries of the leaves are then.
use Rattle.std.proofs.Common.{◌≡◌, ◌+◌, Bool, true, false, cond, not, ◌&&◌, ◌||◌, Some, List, [], ◌∷◌, refl, sym, ap, ◌∙◌, subst, arith}
use Rattle.std.specs.BTreeMap.{is_at}
use Rattle.std.specs.BTreeSet.{insert_key}
use Rattle.std.specs.List.{AllByRecursion, filter}
use Rattle.std.specs.List.Sorted.{IsStrictlySortedBy}
use Rattle.std.specs.Map.{values_of}
use Rattle.std.specs.Ordering.{is_eq, is_le, is_lt, match_ordering, ordering_reverse}
use Rattle.std.specs.declared.cmp.Ordering.{Ordering}
use Rattle.std.specs.declared.cmp.Ordering.TheVariants.{Less, Equal, Greater}
use Rattle.std.proofs.lemmas.Bool.{false≢true, or_right}
use Rattle.std.proofs.lemmas.List.Sums.{sum_by-cons}
use Rattle.std.proofs.lemmas.Map.Views.{All-insert_key}
use Rattle.node_mem.specs.Counts.{lengths_of}
use Rattle.node_mem.specs.Nodes.{entries_after, entries_up_to}
use Rattle.node_mem.specs.RangeLaws.{same_part}
use Rattle.tree_keys.specs.Cuts.{AreEnds, Cut, IsCut, cut_at, end_of, is_end, leaf_entries}
use Rattle.tree_keys.specs.LeafLaws.{end_of-after, end_of-end, leaf_entries-covered}
use Rattle.tree_keys.specs.OrderLaws
use Rattle.vol_types.specs.KeyMaps.{Entries}
use Rattle.vol_types.specs.Lengths.{key_length_of}
use Rattle.vol_types.specs.PositionLaws.{pos_total}
use Rattle.vol_types.specs.Positions.{greatest_pos, pos_cmp}
use Rattle.vol_types.specs.Widths.{PosFits}
use Rattle.vol_types.specs.declared.positions.Pos.{Pos}

module _ (at : Pos) where
  all-insert : (P : Pos → Type 0) (ends : List Pos) → AllByRecursion P ends → P at → AllByRecursion P (insert_key pos_cmp ends at)
  all-insert P [] all here = (here, tt)
  all-insert P (e ∷ ends) all here = by (pos_cmp at e) (all-insert P ends all.1 here)
    where
      by : (r : Ordering) → AllByRecursion P (insert_key pos_cmp ends at) → AllByRecursion P (match_ordering r (at ∷ e ∷ ends) (e ∷ ends) (e ∷ insert_key pos_cmp ends at))
      by Less later = (here, all)
      by Equal later = all
      by Greater later = (all.0, later)

  above_lower : (e : Pos) (ends : List Pos) → pos_cmp at e ≡ Less → AllByRecursion (λ y. pos_cmp e y ≡ Less) ends → AllByRecursion (λ y. pos_cmp at y ≡ Less) ends
  above_lower e [] less all = tt
  above_lower e (y ∷ ends) less all = (pos_total.trans at e y less all.0, above_lower e ends less all.1)

  sorted-insert : (ends : List Pos) → IsStrictlySortedBy pos_cmp ends → IsStrictlySortedBy pos_cmp (insert_key pos_cmp ends at)
  unfolding IsStrictlySortedBy
  sorted-insert [] rise = (tt, tt)
  sorted-insert (e ∷ ends) rise = by (pos_cmp at e) refl (sorted-insert ends rise.1)
    where
      by : (r : Ordering) → pos_cmp at e ≡ r → IsStrictlySortedBy pos_cmp (insert_key pos_cmp ends at) → IsStrictlySortedBy pos_cmp (match_ordering r (at ∷ e ∷ ends) (e ∷ ends) (e ∷ insert_key pos_cmp ends at))
      by Less is later = ((is, above_lower e ends is rise.0), rise)
      by Equal is later = rise
      by Greater is later = (all-insert (λ y. pos_cmp e y ≡ Less) ends rise.0 (pos_total.antisymm e at ∙ ap ordering_reverse is), later)

  or_swapped : (a b c : Bool) → (a || (b || c)) ≡ (b || (a || c))
  or_swapped true true c = refl
  or_swapped true false c = refl
  or_swapped false true c = refl
  or_swapped false false c = refl

  or_twice : (a c : Bool) → (a || c) ≡ (a || (a || c))
  or_twice true c = refl
  or_twice false c = refl

  -- After a cut a leaf ends at the position of the cut, and where one ended before.
  pub is_end-cut : (p : Pos) (ends : List Pos) → is_end p (insert_key pos_cmp ends at) ≡ (is_at (pos_cmp p) at || is_end p ends)
  is_end-cut p [] = refl
  is_end-cut p (e ∷ ends) = by (pos_cmp at e) refl (is_end-cut p ends)
    where
      by : (r : Ordering) → pos_cmp at e ≡ r → is_end p (insert_key pos_cmp ends at) ≡ (is_at (pos_cmp p) at || is_end p ends)
          → is_end p (match_ordering r (at ∷ e ∷ ends) (e ∷ ends) (e ∷ insert_key pos_cmp ends at)) ≡ (is_at (pos_cmp p) at || (is_at (pos_cmp p) e || is_end p ends))
      by Less is later = refl
      by Equal is later = or_twice (is_at (pos_cmp p) e) (is_end p ends) ∙ ap (λ q. is_at (pos_cmp p) q || (is_at (pos_cmp p) e || is_end p ends)) (sym (OrderLaws.same_from_at at e (ap is_eq is)))
      by Greater is later = ap (λ b. is_at (pos_cmp p) e || b) later ∙ or_swapped (is_at (pos_cmp p) e) (is_at (pos_cmp p) at) (is_end p ends)

  -- After a cut the ends are those of leaves still.
  pub AreEnds-cut : (ends : List Pos) → AreEnds ends → PosFits at → AreEnds (insert_key pos_cmp ends at)
  AreEnds-cut ends are fits = record {
    rise = sorted-insert ends are.rise;
    fit = All-insert_key pos_cmp at PosFits ends are.fit fits;
    whole = is_end-cut greatest_pos ends ∙ or_right (is_at (pos_cmp greatest_pos) at) (is_end greatest_pos ends) are.whole;
  }

  -- After a cut at a position that isn't an end, it is the end of those up to it that its leaf covered, and nothing else changes.
  pub end_of-cut : (p : Pos) (ends : List Pos) → is_le (pos_cmp at greatest_pos) ≡ true → is_end at ends ≡ false → end_of p (insert_key pos_cmp ends at) ≡ cond (is_at (pos_cmp (end_of at ends)) (end_of p ends) && is_le (pos_cmp p at)) at (end_of p ends)
  end_of-cut p [] low isnt = ap (λ b. cond (b && is_le (pos_cmp p at)) at greatest_pos) (sym (OrderLaws.at_itself greatest_pos))
  end_of-cut p (e ∷ ends) low isnt = by (pos_cmp at e) refl isnt (end_of-cut p ends low)
    where
      passed : (l m : Bool) → is_le (pos_cmp p at) ≡ l → is_le (pos_cmp p e) ≡ m → pos_cmp at e ≡ Less → cond l at (cond m e (end_of p ends)) ≡ cond (is_at (pos_cmp e) (cond m e (end_of p ends)) && l) at (cond m e (end_of p ends))
      passed true true le up is = ap (λ b. cond (b && true) at e) (sym (OrderLaws.at_itself e))
      passed true false le up is = absurd (false≢true (sym up ∙ ap is_le (OrderLaws.before_from_le_before p at e le is)))
      passed false m le up is = sym (and_no (is_at (pos_cmp e) (cond m e (end_of p ends))) at (cond m e (end_of p ends)))
        where
          and_no : (b : Bool) (x y : Pos) → cond (b && false) x y ≡ y
          and_no true x y = refl
          and_no false x y = refl

      up_to : (m : Bool) → is_le (pos_cmp p e) ≡ m → pos_cmp e at ≡ Less → end_of p (insert_key pos_cmp ends at) ≡ cond (is_at (pos_cmp (end_of at ends)) (end_of p ends) && is_le (pos_cmp p at)) at (end_of p ends)
          → cond m e (end_of p (insert_key pos_cmp ends at)) ≡ cond (is_at (pos_cmp (end_of at ends)) (cond m e (end_of p ends)) && is_le (pos_cmp p at)) at (cond m e (end_of p ends))
      up_to true up is later =
          let above : is_at (pos_cmp (end_of at ends)) e ≡ false = OrderLaws.not_at_from_after e (end_of at ends) (OrderLaws.before_from_before_le e at (end_of at ends) is (end_of-after at ends low)) in
          ap (λ b. cond (b && is_le (pos_cmp p at)) at e) (sym above)
      up_to false up is later = later

      by : (r : Ordering) → pos_cmp at e ≡ r → (is_eq (pos_cmp at e) || is_end at ends) ≡ false → (is_end at ends ≡ false → end_of p (insert_key pos_cmp ends at) ≡ cond (is_at (pos_cmp (end_of at ends)) (end_of p ends) && is_le (pos_cmp p at)) at (end_of p ends))
          → end_of p (match_ordering r (at ∷ e ∷ ends) (e ∷ ends) (e ∷ insert_key pos_cmp ends at)) ≡ cond (is_at (pos_cmp (cond (is_le (pos_cmp at e)) e (end_of at ends))) (cond (is_le (pos_cmp p e)) e (end_of p ends)) && is_le (pos_cmp p at)) at (cond (is_le (pos_cmp p e)) e (end_of p ends))
      by Less is isnt later =
          passed (is_le (pos_cmp p at)) (is_le (pos_cmp p e)) refl refl is
          ∙ ap (λ o. cond (is_at (pos_cmp (cond (is_le o) e (end_of at ends))) (cond (is_le (pos_cmp p e)) e (end_of p ends)) && is_le (pos_cmp p at)) at (cond (is_le (pos_cmp p e)) e (end_of p ends))) (sym is)
      by Equal is isnt later = absurd (false≢true (sym isnt ∙ ap (λ o. is_eq o || is_end at ends) is))
      by Greater is isnt later =
          up_to (is_le (pos_cmp p e)) refl (pos_total.antisymm e at ∙ ap ordering_reverse is) (later (subst (λ o. (is_eq o || is_end at ends) ≡ false) is isnt))
          ∙ ap (λ o. cond (is_at (pos_cmp (cond (is_le o) e (end_of at ends))) (cond (is_le (pos_cmp p e)) e (end_of p ends)) && is_le (pos_cmp p at)) at (cond (is_le (pos_cmp p e)) e (end_of p ends))) (sym is)

-- The part of a part is of those that pass both tests.
pub filter_filter : (p q : Pos → Bool) (entries : Entries) → filter (λ e. q e.0) (filter (λ e. p e.0) entries) ≡ filter (λ e. p e.0 && q e.0) entries
filter_filter p q [] = refl
filter_filter p q (e ∷ entries) = by (p e.0) (filter_filter p q entries)
  where
    by : (b : Bool) → filter (λ e. q e.0) (filter (λ e. p e.0) entries) ≡ filter (λ e. p e.0 && q e.0) entries
        → filter (λ e. q e.0) (cond b (e ∷ filter (λ e. p e.0) entries) (filter (λ e. p e.0) entries)) ≡ cond (b && q e.0) (e ∷ filter (λ e. p e.0 && q e.0) entries) (filter (λ e. p e.0 && q e.0) entries)
    by true later = ap (λ es. cond (q e.0) (e ∷ es) es) later
    by false later = later

-- A position isn't at most another exactly where that is before it.
pub after_test : (p at : Pos) → not (is_le (pos_cmp p at)) ≡ is_lt (pos_cmp at p)
after_test p at = turned (pos_cmp p at) ∙ ap is_lt (sym (pos_total.antisymm at p))
  where
    turned : (o : Ordering) → not (is_le o) ≡ is_lt (ordering_reverse o)
    turned Less = refl
    turned Equal = refl
    turned Greater = refl

-- The bytes of what stands up to a position and of what stands after it add.
pub lengths-parts : (at : Pos) (entries : Entries) → lengths_of (entries_up_to at entries) + lengths_of (entries_after at entries) ≡ lengths_of entries
lengths-parts at [] = refl
lengths-parts at (e ∷ entries) = ap (λ b. lengths_of (entries_up_to at (e ∷ entries)) + lengths_of (cond b (e ∷ entries_after at entries) (entries_after at entries))) (sym (after_test e.0 at)) ∙ by (is_le (pos_cmp e.0 at)) (lengths-parts at entries)
  where
    by : (b : Bool) → lengths_of (entries_up_to at entries) + lengths_of (entries_after at entries) ≡ lengths_of entries
        → lengths_of (cond b (e ∷ entries_up_to at entries) (entries_up_to at entries)) + lengths_of (cond (not b) (e ∷ entries_after at entries) (entries_after at entries)) ≡ lengths_of (e ∷ entries)
    by true later = omega (arith, later, sum_by-cons (λ value. key_length_of (Some value)) e.1 (values_of entries), sum_by-cons (λ value. key_length_of (Some value)) e.1 (values_of (entries_up_to at entries)))
    by false later = omega (arith, later, sum_by-cons (λ value. key_length_of (Some value)) e.1 (values_of entries), sum_by-cons (λ value. key_length_of (Some value)) e.1 (values_of (entries_after at entries)))

module _ (cut : Cut) (is : IsCut cut) (at : Pos) (fits : PosFits at) (isnt : is_end at cut.ends ≡ false) where
  -- A cut leaves keys that are cut into leaves.
  pub IsCut-cut : IsCut (cut_at at cut)
  IsCut-cut = record { rises = is.rises; fit = is.fit; in_range = is.in_range; ends = AreEnds-cut at cut.ends is.ends fits }

  low : is_le (pos_cmp at greatest_pos) ≡ true
  low = OrderLaws.le_greatest at fits

  -- the end of the leaf that is cut
  abbrev whole : Pos
  whole = end_of at cut.ends

  whole_end : is_end whole cut.ends ≡ true
  whole_end = end_of-end at cut.ends low is.ends.whole

  not_there : (e : Pos) → is_end e cut.ends ≡ true → is_at (pos_cmp e) at ≡ false
  not_there e has = by (is_at (pos_cmp e) at) refl
    where
      by : (b : Bool) → is_at (pos_cmp e) at ≡ b → b ≡ false
      by true same = absurd (false≢true (sym isnt ∙ ap (λ p. is_end p cut.ends) (sym (OrderLaws.same_from_at e at same)) ∙ has))
      by false same = refl

  covers : (p : Pos) → end_of p (cut_at at cut).ends ≡ cond (is_at (pos_cmp whole) (end_of p cut.ends) && is_le (pos_cmp p at)) at (end_of p cut.ends)
  covers p = end_of-cut at p cut.ends low isnt

  first_test : (p : Pos) → PosFits p → is_at (pos_cmp at) (end_of p (cut_at at cut).ends) ≡ (is_at (pos_cmp whole) (end_of p cut.ends) && is_le (pos_cmp p at))
  first_test p wide = ap (is_at (pos_cmp at)) (covers p) ∙ by (is_at (pos_cmp whole) (end_of p cut.ends) && is_le (pos_cmp p at))
    where
      by : (b : Bool) → is_at (pos_cmp at) (cond b at (end_of p cut.ends)) ≡ b
      by true = OrderLaws.at_itself at
      by false = OrderLaws.at_turned at (end_of p cut.ends) ∙ not_there (end_of p cut.ends) (end_of-end p cut.ends (OrderLaws.le_greatest p wide) is.ends.whole)

  second_test : (p : Pos) → PosFits p → is_at (pos_cmp whole) (end_of p (cut_at at cut).ends) ≡ (is_at (pos_cmp whole) (end_of p cut.ends) && is_lt (pos_cmp at p))
  second_test p wide = ap (is_at (pos_cmp whole)) (covers p) ∙ by (is_at (pos_cmp whole) (end_of p cut.ends)) (is_le (pos_cmp p at)) refl ∙ ap (λ b. is_at (pos_cmp whole) (end_of p cut.ends) && b) (after_test p at)
    where
      by : (a l : Bool) → is_at (pos_cmp whole) (end_of p cut.ends) ≡ a → is_at (pos_cmp whole) (cond (a && l) at (end_of p cut.ends)) ≡ (a && not l)
      by true true same = not_there whole whole_end
      by true false same = same
      by false l same = same

  other_test : (e : Pos) → is_at (pos_cmp e) at ≡ false → is_at (pos_cmp e) whole ≡ false → (p : Pos) → PosFits p → is_at (pos_cmp e) (end_of p (cut_at at cut).ends) ≡ is_at (pos_cmp e) (end_of p cut.ends)
  other_test e not_at not_whole p wide = ap (is_at (pos_cmp e)) (covers p) ∙ by (is_at (pos_cmp whole) (end_of p cut.ends)) (is_le (pos_cmp p at)) refl
    where
      by : (a l : Bool) → is_at (pos_cmp whole) (end_of p cut.ends) ≡ a → is_at (pos_cmp e) (cond (a && l) at (end_of p cut.ends)) ≡ is_at (pos_cmp e) (end_of p cut.ends)
      by true true same = not_at ∙ sym (ap (is_at (pos_cmp e)) (sym (OrderLaws.same_from_at whole (end_of p cut.ends) same)) ∙ not_whole)
      by true false same = refl
      by false l same = refl

  first_end : is_end at (cut_at at cut).ends ≡ true
  first_end = is_end-cut at at cut.ends ∙ ap (λ b. b || is_end at cut.ends) (OrderLaws.at_itself at)

  still_end : (e : Pos) → is_end e cut.ends ≡ true → is_end e (cut_at at cut).ends ≡ true
  still_end e has = is_end-cut at e cut.ends ∙ or_right (is_at (pos_cmp e) at) (is_end e cut.ends) has

  -- The first leaf of a cut has what the leaf had up to the position.
  pub leaf_entries-first : leaf_entries at (cut_at at cut) ≡ entries_up_to at (leaf_entries (end_of at cut.ends) cut)
  leaf_entries-first =
      leaf_entries-covered at (cut_at at cut) IsCut-cut first_end
      ∙ same_part (λ p. is_at (pos_cmp at) (end_of p (cut_at at cut).ends)) (λ p. is_at (pos_cmp whole) (end_of p cut.ends) && is_le (pos_cmp p at)) first_test cut.entries is.fit
      ∙ sym (filter_filter (λ p. is_at (pos_cmp whole) (end_of p cut.ends)) (λ p. is_le (pos_cmp p at)) cut.entries)
      ∙ ap (entries_up_to at) (sym (leaf_entries-covered whole cut is whole_end))

  -- The second one has what it had after that.
  pub leaf_entries-second : leaf_entries (end_of at cut.ends) (cut_at at cut) ≡ entries_after at (leaf_entries (end_of at cut.ends) cut)
  leaf_entries-second =
      leaf_entries-covered whole (cut_at at cut) IsCut-cut (still_end whole whole_end)
      ∙ same_part (λ p. is_at (pos_cmp whole) (end_of p (cut_at at cut).ends)) (λ p. is_at (pos_cmp whole) (end_of p cut.ends) && is_lt (pos_cmp at p)) second_test cut.entries is.fit
      ∙ sym (filter_filter (λ p. is_at (pos_cmp whole) (end_of p cut.ends)) (λ p. is_lt (pos_cmp at p)) cut.entries)
      ∙ ap (entries_after at) (sym (leaf_entries-covered whole cut is whole_end))

  -- And each other leaf has what it had.
  pub leaf_entries-other : (e : Pos) → is_end e cut.ends ≡ true → is_at (pos_cmp e) (end_of at cut.ends) ≡ false → leaf_entries e (cut_at at cut) ≡ leaf_entries e cut
  leaf_entries-other e has other =
      leaf_entries-covered e (cut_at at cut) IsCut-cut (still_end e has)
      ∙ same_part (λ p. is_at (pos_cmp e) (end_of p (cut_at at cut).ends)) (λ p. is_at (pos_cmp e) (end_of p cut.ends)) (other_test e (not_there e has) other) cut.entries is.fit
      ∙ sym (leaf_entries-covered e cut is has)
