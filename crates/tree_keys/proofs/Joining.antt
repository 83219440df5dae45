-- What stays true of the keys and the counted leaves when a leaf is joined with the next one.
use Rattle.std.proofs.Common.{◌≡◌, ℕ, ◌+◌, ◌-◌, ◌^◌, ◌<◌, ◌≤◌, Bool, true, false, cond, None, Some, List, length, sym, ap, ◌∙◌, subst, arith, refl}
use Rattle.std.specs.Prelude.{is_some}
use Rattle.std.specs.BTreeMap.{is_at}
use Rattle.std.specs.Map.{keys_of}
use Rattle.std.specs.Set.{remove_key}
use Rattle.std.proofs.lemmas.Bool.{false≢true}
use Rattle.std.proofs.lemmas.Option.{same_Some}
use Rattle.node_mem.specs.CountLaws.{lengths-append, sum_keys}
use Rattle.node_mem.specs.Counts.{lengths_of}
use Rattle.node_mem.specs.MergeLaws.{keys_of-remove_entry}
use Rattle.tree_keys.specs.Counts.{leaf_bytes}
use Rattle.tree_keys.specs.Cuts.{AreEnds, Cut, IsCut, end_of, is_end, joined_at, leaf_entries}
use Rattle.tree_keys.specs.JoinAtLaws.{IsCut-joined, leaf_entries-apart, leaf_entries-joined}
use Rattle.tree_keys.specs.OrderLaws.{at_turned, same_from_at}
use Rattle.tree_keys.proofs.Counted.{IsKept, bytes-fit, counted_end, cut_of}
use Rattle.vol_types.specs.KeyMaps.{Entries, keys_in}
use Rattle.vol_types.specs.MapLaws.{value_at-with_value, value_at-without}
use Rattle.vol_types.specs.Maps.{value_at, with_value, without}
use Rattle.vol_types.specs.PositionLaws.{pos_total}
use Rattle.vol_types.specs.Positions.{IsBefore, greatest_pos, pos_cmp}
use Rattle.vol_types.specs.Sets.{set_length_of}
use Rattle.vol_types.specs.declared.positions.Pos.{Pos}

module _ (entries : Entries) (leaves : List (Pos × ℕ)) (kept : IsKept entries leaves) (at : Pos) (has : is_end at (keys_of leaves) ≡ true) (inner : IsBefore at greatest_pos)
    (first : ℕ) (found : value_at pos_cmp at leaves ≡ Some first) (rest : List (Pos × ℕ)) (removed : rest ≡ without pos_cmp at leaves) where
  -- the keys with the leaf joined with the next one
  abbrev joined : Cut
  joined = joined_at at (cut_of entries leaves)

  -- the other ends are left
  ends_left : keys_of rest ≡ remove_key (is_at (pos_cmp at)) (keys_of leaves)
  ends_left = ap (keys_of {K = Pos} {X = ℕ}) removed ∙ keys_of-remove_entry pos_cmp at leaves

  -- and are those of leaves
  pub are_left : AreEnds (keys_of rest)
  are_left = subst AreEnds (sym ends_left) (IsCut-joined (cut_of entries leaves) kept.0 at has inner).ends

  module _ (end : Pos) (bytes : ℕ) (counted : value_at pos_cmp end rest ≡ Some bytes) (covers : end ≡ end_of at (keys_of rest)) where
    was_counted : (e : Pos) (n : ℕ) → value_at pos_cmp e rest ≡ Some n → value_at pos_cmp e leaves ≡ Some n
    was_counted e n is = by (is_at (pos_cmp at) e) (sym (ap (value_at pos_cmp e) removed ∙ value_at-without pos_total at e leaves kept.0.ends.rise) ∙ is)
      where
        by : (b : Bool) → cond b None (value_at pos_cmp e leaves) ≡ Some n → value_at pos_cmp e leaves ≡ Some n
        by true none = absurd (false≢true (ap is_some none))
        by false some = some

    next_is : end ≡ end_of at (remove_key (is_at (pos_cmp at)) (keys_of leaves))
    next_is = covers ∙ ap (end_of at) ends_left

    both : bytes + first ≡ 56 + leaf_bytes end joined
    both =
        let parts = ap (λ p. leaf_entries p joined) next_is ∙ leaf_entries-joined (cut_of entries leaves) kept.0 at has inner in
        let second = ap (λ p. leaf_entries p (cut_of entries leaves)) next_is in
        omega (
          arith,
          kept.1.each at first found,
          kept.1.each end bytes (was_counted end bytes counted),
          sum_keys (leaf_entries at (cut_of entries leaves)),
          sum_keys (leaf_entries end (cut_of entries leaves)),
          sum_keys (leaf_entries end joined),
          ap lengths_of parts,
          ap lengths_of second,
          lengths-append (leaf_entries at (cut_of entries leaves)) (leaf_entries (end_of at joined.ends) (cut_of entries leaves)),
        )

    -- the bytes of both fit
    pub both-fit : length entries < 2 ^ 63 → bytes + first < 2 ^ 97
    both-fit few = omega (arith, bytes-fit entries leaves kept end bytes (was_counted end bytes counted) few, bytes-fit entries leaves kept at first found few)

    -- and have the head that one of them loses
    pub head-le : 56 ≤ bytes + first
    head-le = omega (arith, both)

    module _ (new : List (Pos × ℕ)) (counts : new ≡ with_value pos_cmp end (bytes + first - 56) rest) (stay : keys_of new ≡ keys_of rest) where
      -- the ends are the others
      pub joined_ends : keys_of new ≡ remove_key (is_at (pos_cmp at)) (keys_of leaves)
      joined_ends = stay ∙ ends_left

      same_cut : cut_of entries new ≡ joined
      same_cut = λ i. record { entries = entries; ends = joined_ends i }

      by_end : (e : Pos) (n : ℕ) (b : Bool) → is_at (pos_cmp end) e ≡ b → cond b (Some (bytes + first - 56)) (value_at pos_cmp e rest) ≡ Some n → n ≡ leaf_bytes e joined
      by_end e n true at_end is =
          let here : bytes + first - 56 ≡ leaf_bytes end joined = omega (arith, both) in
          sym (same_Some (bytes + first - 56) n is) ∙ here ∙ ap (λ p. leaf_bytes p joined) (same_from_at end e at_end)
      by_end e n false at_end is =
          let there : is_end e joined.ends ≡ true = ap (is_end e) (sym ends_left) ∙ counted_end e n rest is in
          let other : is_at (pos_cmp e) (end_of at joined.ends) ≡ false = ap (is_at (pos_cmp e)) (sym next_is) ∙ at_turned e end ∙ at_end in
          kept.1.each e n (was_counted e n is) ∙ ap (λ es. set_length_of (keys_in es)) (sym (leaf_entries-apart (cut_of entries leaves) kept.0 at has inner e there other))

      -- the keys are cut into leaves that are counted
      pub kept-joined : IsKept entries new
      kept-joined = (
        subst IsCut (sym same_cut) (IsCut-joined (cut_of entries leaves) kept.0 at has inner),
        record {
          each = λ e n is.
              by_end e n (is_at (pos_cmp end) e) refl (sym (ap (value_at pos_cmp e) counts ∙ value_at-with_value pos_total end (bytes + first - 56) e rest) ∙ is)
              ∙ ap (leaf_bytes e) (sym same_cut);
        },
      )
