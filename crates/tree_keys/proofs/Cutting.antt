-- What stays true of the keys and the counted leaves when a leaf is cut in two.
use Rattle.std.proofs.Common.{◌≡◌, ℕ, ◌+◌, ◌-◌, ◌^◌, ◌<◌, ◌≤◌, Bool, true, false, cond, ◌&&◌, Some, List, length, refl, sym, ap, ◌∙◌, subst, arith}
use Rattle.std.specs.Prelude.{All, IsSome}
use Rattle.std.specs.BTreeMap.{is_at}
use Rattle.std.specs.BTreeSet.{insert_key}
use Rattle.std.specs.Map.{keys_of, values_of}
use Rattle.std.specs.Ordering.{is_le}
use Rattle.std.proofs.lemmas.Bool.{false≢true}
use Rattle.std.proofs.lemmas.List.Elements.{filter_agree}
use Rattle.std.proofs.lemmas.Option.{same_Some}
use Rattle.node_mem.specs.CountLaws.{set_length-le, sum_keys}
use Rattle.node_mem.specs.Counts.{lengths_of}
use Rattle.node_mem.specs.MergeLaws.{keys_of-insert_entry}
use Rattle.node_mem.specs.Nodes.{entries_after, entries_up_to}
use Rattle.node_mem.specs.RangeLaws.{All-part}
use Rattle.tree_keys.specs.Counts.{leaf_bytes}
use Rattle.tree_keys.specs.CutLaws.{IsCut-cut, filter_filter, leaf_entries-first, leaf_entries-other, leaf_entries-second, lengths-parts}
use Rattle.tree_keys.specs.Cuts.{IsCut, cut_at, end_of, is_end, leaf_entries, start_of}
use Rattle.tree_keys.specs.LeafLaws.{end_of-after}
use Rattle.tree_keys.specs.OrderLaws.{at_turned, le_from_le_le, le_greatest, same_from_at}
use Rattle.tree_keys.proofs.Counted.{IsKept, counted_end, cut_of, length-filter-le}
use Rattle.vol_types.specs.KeyMaps.{Entries, entries_within, keys_in}
use Rattle.vol_types.specs.MapLaws.{value_at-with_value}
use Rattle.vol_types.specs.Maps.{value_at, with_value}
use Rattle.vol_types.specs.PositionLaws.{pos_total}
use Rattle.vol_types.specs.Positions.{is_within, pos_cmp}
use Rattle.vol_types.specs.Ranges.{IsValue}
use Rattle.vol_types.specs.Sets.{set_length_of}
use Rattle.vol_types.specs.Widths.{PosFits}
use Rattle.vol_types.specs.declared.positions.Pos.{Pos}
use Rattle.vol_types.specs.declared.values.Value.{Value}

module _ (entries : Entries) (leaves : List (Pos × ℕ)) (kept : IsKept entries leaves) (at : Pos) (fits : PosFits at) (isnt : is_end at (keys_of leaves) ≡ false)
    (end : Pos) (bytes : ℕ) (found : value_at pos_cmp end leaves ≡ Some bytes) (covers : end ≡ end_of at (keys_of leaves))
    (part : Entries) (is : part ≡ entries_within (start_of end (keys_of leaves)) at entries) where
  -- the part that is cut off is short
  pub part_few : length part ≤ length entries
  part_few = omega (arith, ap (length {A = Pos × Value}) is, length-filter-le (λ (e : Pos × Value). is_within (start_of end (keys_of leaves)) at e.0) entries)

  -- and its values are in range
  pub part_in_range : All IsValue (values_of part)
  part_in_range = subst (λ (es : Entries). All IsValue (values_of es)) (sym is) (All-part (λ (e : Pos × Value). e.1) IsValue IsValue (λ e. is_within (start_of end (keys_of leaves)) at e.0) (λ e test value. value) entries kept.0.in_range)

  up_to_test : (p : Pos) → is_within (start_of end (keys_of leaves)) at p ≡ (is_within (start_of end (keys_of leaves)) end p && is_le (pos_cmp p at))
  up_to_test p = by (is_le (pos_cmp (start_of end (keys_of leaves)) p)) (is_le (pos_cmp p at)) (is_le (pos_cmp p end)) refl refl
    where
      by : (s a e : Bool) → is_le (pos_cmp p at) ≡ a → is_le (pos_cmp p end) ≡ e → (s && a) ≡ ((s && e) && a)
      by false a e up_at up_end = refl
      by true true true up_at up_end = refl
      by true false true up_at up_end = refl
      by true false false up_at up_end = refl
      by true true false up_at up_end =
          absurd (false≢true (sym up_end ∙ le_from_le_le p at end up_at (ap (λ q. is_le (pos_cmp at q)) covers ∙ end_of-after at (keys_of leaves) (le_greatest at fits))))

  -- it is what the leaf has up to the position
  part_is : part ≡ entries_up_to at (leaf_entries (end_of at (keys_of leaves)) (cut_of entries leaves))
  part_is =
      is
      ∙ filter_agree (λ (e : Pos × Value). is_within (start_of end (keys_of leaves)) at e.0) (λ e. is_within (start_of end (keys_of leaves)) end e.0 && is_le (pos_cmp e.0 at)) (λ e. up_to_test e.0) entries
      ∙ sym (filter_filter (is_within (start_of end (keys_of leaves)) end) (λ p. is_le (pos_cmp p at)) entries)
      ∙ ap (λ p. entries_up_to at (leaf_entries p (cut_of entries leaves))) covers

  module _ (first : ℕ) (sum : first ≡ lengths_of part) where
    both : bytes ≡ 56 + first + lengths_of (entries_after at (leaf_entries (end_of at (keys_of leaves)) (cut_of entries leaves)))
    both =
        omega (
          arith,
          kept.1.each end bytes found,
          ap (λ p. leaf_bytes p (cut_of entries leaves)) covers,
          sum_keys (leaf_entries (end_of at (keys_of leaves)) (cut_of entries leaves)),
          sum,
          ap lengths_of part_is,
          lengths-parts at (leaf_entries (end_of at (keys_of leaves)) (cut_of entries leaves)),
        )

    -- the part weighs no more than the leaf
    pub first-le : first ≤ bytes
    first-le = omega (arith, both)

    -- and its bytes fit
    pub first-fits : length entries < 2 ^ 63 → first < 2 ^ 96
    first-fits few = omega (arith, few, sum, sum_keys part, set_length-le part part_in_range, part_few)

    module _ (with_first : List (Pos × ℕ)) (inserted : with_first ≡ with_value pos_cmp at (56 + first) leaves) where
      -- the leaf that is cut is there still
      pub still_counted : IsSome (value_at pos_cmp end with_first)
      still_counted = subst IsSome (sym (ap (value_at pos_cmp end) inserted ∙ value_at-with_value pos_total at (56 + first) end leaves)) (by (is_at (pos_cmp at) end))
        where
          by : (b : Bool) → IsSome (cond b (Some (56 + first)) (value_at pos_cmp end leaves))
          by true = refl
          by false = subst IsSome (sym found) refl

      module _ (new : List (Pos × ℕ)) (counts : new ≡ with_value pos_cmp end (bytes - first) with_first) (stay : keys_of new ≡ keys_of with_first) where
        -- the ends are as before, with the position of the cut
        pub new_ends : keys_of new ≡ insert_key pos_cmp (keys_of leaves) at
        new_ends = stay ∙ ap (keys_of {K = Pos} {X = ℕ}) inserted ∙ keys_of-insert_entry pos_cmp at (56 + first) leaves

        same_cut : cut_of entries new ≡ cut_at at (cut_of entries leaves)
        same_cut = λ i. record { entries = entries; ends = new_ends i }

        at_first : 56 + first ≡ leaf_bytes at (cut_at at (cut_of entries leaves))
        at_first =
            let leaf = leaf_entries-first (cut_of entries leaves) kept.0 at fits isnt in
            omega (arith, sum, ap lengths_of (part_is ∙ sym leaf), sum_keys (leaf_entries at (cut_at at (cut_of entries leaves))))

        at_second : bytes - first ≡ leaf_bytes (end_of at (keys_of leaves)) (cut_at at (cut_of entries leaves))
        at_second =
            let leaf = leaf_entries-second (cut_of entries leaves) kept.0 at fits isnt in
            omega (arith, both, ap lengths_of leaf, sum_keys (leaf_entries (end_of at (keys_of leaves)) (cut_at at (cut_of entries leaves))))

        by_end : (e : Pos) (n : ℕ) (second here : Bool) → is_at (pos_cmp end) e ≡ second → is_at (pos_cmp at) e ≡ here
            → cond second (Some (bytes - first)) (cond here (Some (56 + first)) (value_at pos_cmp e leaves)) ≡ Some n → n ≡ leaf_bytes e (cut_at at (cut_of entries leaves))
        by_end e n true here at_end at_cut is = sym (same_Some (bytes - first) n is) ∙ at_second ∙ ap (λ p. leaf_bytes p (cut_at at (cut_of entries leaves))) (sym covers ∙ same_from_at end e at_end)
        by_end e n false true at_end at_cut is = sym (same_Some (56 + first) n is) ∙ at_first ∙ ap (λ p. leaf_bytes p (cut_at at (cut_of entries leaves))) (same_from_at at e at_cut)
        by_end e n false false at_end at_cut is =
            let other : is_at (pos_cmp e) (end_of at (keys_of leaves)) ≡ false = ap (is_at (pos_cmp e)) (sym covers) ∙ at_turned e end ∙ at_end in
            kept.1.each e n is ∙ ap (λ es. set_length_of (keys_in es)) (sym (leaf_entries-other (cut_of entries leaves) kept.0 at fits isnt e (counted_end e n leaves is) other))

        -- the keys are cut into leaves that are counted
        pub kept-cut : IsKept entries new
        kept-cut = (
          subst IsCut (sym same_cut) (IsCut-cut (cut_of entries leaves) kept.0 at fits isnt),
          record {
            each = λ e n is.
                by_end e n (is_at (pos_cmp end) e) (is_at (pos_cmp at) e) refl refl
                (sym
                (ap (value_at pos_cmp e) counts ∙ value_at-with_value pos_total end (bytes - first) e with_first
                ∙ ap (cond (is_at (pos_cmp end) e) (Some (bytes - first))) (ap (value_at pos_cmp e) inserted ∙ value_at-with_value pos_total at (56 + first) e leaves))
                ∙ is)
                ∙ ap (leaf_bytes e) (sym same_cut);
          },
        )
