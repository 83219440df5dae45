-- Keys that are made from a map and the ends of leaves: which are, and that their leaves are counted one by one.
use Rattle.std.proofs.Common.{◌≡◌, ℕ, ◌+◌, ◌^◌, ◌<◌, Bool, true, false, cond, Option, Some, List, [], ◌∷◌, ◌++◌, length, refl, sym, ap, ◌∙◌, subst, arith}
use Rattle.std.specs.Prelude.{◌↔◌, All, unwrap_or}
use Rattle.std.specs.BTreeMap.{is_at}
use Rattle.std.specs.List.Sorted.{IsStrictlySortedBy}
use Rattle.std.specs.Map.{keys_of, values_of}
use Rattle.std.specs.Option.{option_and_then, option_or}
use Rattle.std.specs.Ordering.{is_lt}
use Rattle.std.proofs.lemmas.Cmp.{tied_itself}
use Rattle.std.proofs.lemmas.List.{append-nil}
use Rattle.std.proofs.lemmas.List.Elements.{All-cons, All-head, All-tail}
use Rattle.std.proofs.lemmas.Map.Keys.{sorted_head, sorted_tail}
use Rattle.std.proofs.lemmas.Option.{none-some as none_some, same_Some}
use Rattle.node_mem.specs.CountLaws.{set_length-le, sum_keys}
use Rattle.node_mem.specs.Counts.{lengths_of}
use Rattle.node_mem.specs.MergeLaws.{keys_of-insert_entry}
use Rattle.tree_keys.specs.Counts.{AreCounted, leaf_bytes}
use Rattle.tree_keys.specs.Cuts.{AreEnds, Cut, IsCut, end_before, is_end, leaf_entries, start_of}
use Rattle.tree_keys.specs.LeafLaws.{none_before}
use Rattle.tree_keys.specs.OrderLaws.{le_itself, same_from_at}
use Rattle.tree_keys.proofs.Copying.{part_few, part_in_range}
use Rattle.vol_types.specs.CopyLaws.{copy_key_more}
use Rattle.vol_types.specs.KeyMaps.{Entries, entries_within}
use Rattle.vol_types.specs.MapLaws.{value_at-with_value}
use Rattle.vol_types.specs.Maps.{value_at, with_value}
use Rattle.vol_types.specs.PositionLaws.{pos_total}
use Rattle.vol_types.specs.Positions.{greatest_pos, least_pos, next_pos, pos_cmp}
use Rattle.vol_types.specs.Ranges.{IsValue, Rise}
use Rattle.vol_types.specs.Rising.{Rise-from_sorted, sorted-from_Rise}
use Rattle.vol_types.specs.Widths.{PosFits}
use Rattle.vol_types.specs.declared.positions.Pos.{Pos}
use Rattle.vol_types.specs.declared.values.Value.{Value}

-- All values are in range exactly where those that are left are, and all positions fit where those that are left do.
pub record IsTesting (all rest : Entries) : Type 0 where
  pub good : All IsValue (values_of rest) ↔ All IsValue (values_of all)
  pub fit : All PosFits (keys_of rest) → All PosFits (keys_of all)

-- before the first
pub testing_none : (all rest : Entries) → rest ≡ all → IsTesting all rest
testing_none all rest same = subst (IsTesting all) (sym same) (record { good = (λ a. a, λ a. a); fit = λ a. a })

module _ (all rest later : Entries) (pos : Pos) (value : Value) (testing : IsTesting all rest) (next : rest ≡ (pos, value) ∷ later) where
  -- one that is in range
  pub testing_more : PosFits pos → IsValue value → IsTesting all later
  testing_more fits good = record {
    good = (
      λ left. testing.good.0 (subst (λ (es : Entries). All IsValue (values_of es)) (sym next) (All-cons IsValue value (values_of later) good left)),
      λ whole. All-tail IsValue value (values_of later) (subst (λ (es : Entries). All IsValue (values_of es)) next (testing.good.1 whole)),
    );
    fit = λ left. testing.fit (subst (λ (es : Entries). All PosFits (keys_of es)) (sym next) (All-cons PosFits pos (keys_of later) fits left));
  }

  -- and one that isn't
  pub testing_ends : (IsValue value → ⊥) → All IsValue (values_of all) → ⊥
  testing_ends bad whole = bad (All-head IsValue value (values_of later) (subst (λ (es : Entries). All IsValue (values_of es)) next (testing.good.1 whole)))

-- positions that rise to the greatest one are ends of leaves
pub ends_from : (ends : List Pos) → All PosFits ends → Rise pos_cmp ends → is_end greatest_pos ends ≡ true → AreEnds ends
ends_from ends fit rise whole = record { rise = sorted-from_Rise pos_cmp pos_total ends rise; fit = fit; whole = whole }

-- and ends of leaves do
pub rise_from : (ends : List Pos) → AreEnds ends → Rise pos_cmp ends
rise_from ends are = Rise-from_sorted pos_cmp ends are.rise

-- the last end before one is among those before it
before_among : (end : Pos) (done later : List Pos) → IsStrictlySortedBy pos_cmp (done ++ end ∷ later) → end_before end (done ++ end ∷ later) ≡ end_before end done
before_among end [] later rise =
    ap (λ o. cond (is_lt o) (option_or (end_before end later) (Some end)) (end_before end later)) (tied_itself pos_total end)
    ∙ none_before end end later (sorted_head pos_cmp end later rise) (le_itself end)
before_among end (e ∷ done) later rise =
    ap (λ o. cond (is_lt (pos_cmp e end)) (option_or o (Some e)) o) (before_among end done later (sorted_tail pos_cmp e (done ++ end ∷ later) rise))

-- The first leaves are counted, and the rest is left.
pub record IsCounting (cut : Cut) (leaves : List (Pos × ℕ)) (rest : List Pos) : Type 0 where
  pub ends : keys_of leaves ++ rest ≡ cut.ends
  pub each : (end : Pos) (bytes : ℕ) → value_at pos_cmp end leaves ≡ Some bytes → bytes ≡ leaf_bytes end cut

-- before the first leaf
pub counting_none : (cut : Cut) (leaves : List (Pos × ℕ)) (rest : List Pos) → leaves ≡ [] → rest ≡ cut.ends → IsCounting cut leaves rest
counting_none cut leaves rest empty same = record {
  ends = ap (λ (es : List (Pos × ℕ)). keys_of es ++ rest) empty ∙ same;
  each = λ end bytes found. absurd (none_some bytes (sym (ap (value_at pos_cmp end) empty) ∙ found));
}

-- with none left all are counted
pub counting_all : (cut : Cut) (leaves : List (Pos × ℕ)) (rest : List Pos) → IsCounting cut leaves rest → rest ≡ [] → (keys_of leaves ≡ cut.ends) × AreCounted cut leaves
counting_all cut leaves rest counting none = (sym (append-nil (keys_of leaves)) ∙ ap (λ es. keys_of leaves ++ es) (sym none) ∙ counting.ends, record { each = counting.each })

module _ (cut : Cut) (is : IsCut cut) (leaves : List (Pos × ℕ)) (rest later : List Pos) (counting : IsCounting cut leaves rest) (end : Pos) (next : rest ≡ end ∷ later)
    (start : Pos) (starts : start ≡ start_of end (keys_of leaves)) (part : Entries) (part_is : part ≡ entries_within start end cut.entries) where
  whole : keys_of leaves ++ end ∷ later ≡ cut.ends
  whole = ap (λ es. keys_of leaves ++ es) (sym next) ∙ counting.ends

  same_before : end_before end cut.ends ≡ end_before end (keys_of leaves)
  same_before = ap (end_before end) (sym whole) ∙ before_among end (keys_of leaves) later (subst (IsStrictlySortedBy pos_cmp) (sym whole) is.ends.rise)

  -- the part of the next leaf
  leaf_is : part ≡ leaf_entries end cut
  leaf_is = part_is ∙ ap (λ s. entries_within s end cut.entries) (starts ∙ ap start_from (sym same_before))
    where
      start_from : Option Pos → Pos
      start_from o = unwrap_or (option_and_then next_pos o) least_pos

  module _ (bytes : ℕ) (sum : bytes ≡ lengths_of part) where
    -- its bytes fit
    pub part_fits : length cut.entries < 2 ^ 63 → bytes < 2 ^ 96
    part_fits few = omega (arith, few, sum, sum_keys part, set_length-le part (part_in_range start end cut.entries part part_is is.in_range), part_few start end cut.entries part part_is)

    -- once it is counted, the others are left
    pub counting_more : (new : List (Pos × ℕ)) → new ≡ with_value pos_cmp end (56 + bytes) leaves → IsCounting cut new later
    counting_more new put = record {
      ends = copy_key_more pos_total end later (keys_of leaves) (keys_of new) rest cut.ends counting.ends next is.ends.rise (ap (keys_of {K = Pos} {X = ℕ}) put ∙ keys_of-insert_entry pos_cmp end (56 + bytes) leaves);
      each = λ e n found. by e n (is_at (pos_cmp end) e) refl (sym (ap (value_at pos_cmp e) put ∙ value_at-with_value pos_total end (56 + bytes) e leaves) ∙ found);
    }
      where
        by : (e : Pos) (n : ℕ) (b : Bool) → is_at (pos_cmp end) e ≡ b → cond b (Some (56 + bytes)) (value_at pos_cmp e leaves) ≡ Some n → n ≡ leaf_bytes e cut
        by e n true at found = omega (arith, same_Some (56 + bytes) n found, sum, ap lengths_of leaf_is, sum_keys (leaf_entries end cut)) ∙ ap (λ p. leaf_bytes p cut) (same_from_at end e at)
        by e n false at found = counting.each e n found
