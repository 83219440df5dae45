-- What a split gives: the entries up to a position, and those from the next one on.
use Rattle.std.proofs.Common.{◌≡◌, ◌≢◌, ℕ, ◌+◌, ◌-◌, true, Some, ◌++◌, sym, ap, ◌∙◌, subst, arith}
use Rattle.std.specs.Prelude.{All}
use Rattle.std.specs.List.{filter}
use Rattle.std.specs.Map.{keys_of, values_of}
use Rattle.std.specs.Ordering.{is_le, is_lt, is_gt}
use Rattle.std.specs.declared.cmp.Ordering.{Ordering}
use Rattle.std.specs.declared.cmp.Ordering.TheVariants.{Greater}
use Rattle.std.proofs.lemmas.Bool.{true≢false}
use Rattle.vol_types.specs.KeyMaps.{Entries}
use Rattle.vol_types.specs.Maps.{IsMap}
use Rattle.vol_types.specs.Positions.{pos_cmp, IsWithin, next_pos}
use Rattle.vol_types.specs.Ranges.{IsValue}
use Rattle.vol_types.specs.Widths.{PosFits}
use Rattle.vol_types.specs.declared.positions.Pos.{Pos}
use Rattle.vol_types.specs.declared.values.Value.{Value}
use Rattle.node_mem.specs.Counts.{IsCounted, lengths_of}
use Rattle.node_mem.specs.Nodes.{Node, IsNode, entries_after, entries_up_to}
use Rattle.node_mem.specs.CountLaws.{sum_keys, lengths-append}
use Rattle.vol_types.specs.FollowerLaws.{up_to_test, after_test}
use Rattle.node_mem.specs.RangeLaws.{same_part, All-part}

module _ (at next : Pos) (fits : PosFits at) (follows : next_pos at ≡ Some next) where
  -- the entries below the next position are those up to this one
  pub up_to-below : (entries : Entries) → All PosFits (keys_of entries) → filter (λ e. is_gt (pos_cmp next e.0)) entries ≡ entries_up_to at entries
  up_to-below entries wide = same_part (λ p. is_gt (pos_cmp next p)) (λ p. is_le (pos_cmp p at)) (up_to_test at next fits follows) entries wide

  -- and those from the next position on are those after this one
  pub after-from : (entries : Entries) → All PosFits (keys_of entries) → filter (λ e. is_le (pos_cmp next e.0)) entries ≡ entries_after at entries
  after-from entries wide = same_part (λ p. is_le (pos_cmp next p)) (λ p. is_lt (pos_cmp at p)) (after_test at next fits follows) entries wide

not_after : (o : Ordering) → is_le o ≡ true → o ≢ Greater
not_after o le is = true≢false (sym le ∙ ap is_le is)

-- what a node keeps beside its values, as its `impl Model` says
abbrev pub IsKept : Node → ℕ → Type 0
IsKept node bytes = IsNode node × IsCounted node.entries bytes × All PosFits (keys_of node.entries)

module _ (node : Node) (bytes moved : ℕ) (at next : Pos) (first second : Entries) (kept : IsKept node bytes) (fits : PosFits at) (follows : next_pos at ≡ Some next)
    (below : first ≡ filter (λ e. is_gt (pos_cmp next e.0)) node.entries) (from : second ≡ filter (λ e. is_le (pos_cmp next e.0)) node.entries) (whole : node.entries ≡ first ++ second) where
  -- the entries that stay
  pub first_is : first ≡ entries_up_to at node.entries
  first_is = below ∙ up_to-below at next fits follows node.entries kept.2

  -- the entries that leave
  pub second_is : second ≡ entries_after at node.entries
  second_is = from ∙ after-from at next fits follows node.entries kept.2

  -- their values are in range
  pub second_in_range : All IsValue (values_of second)
  second_in_range = subst (λ es. All IsValue (values_of es)) (sym from) (All-part (λ (e : Pos × Value). e.1) IsValue IsValue (λ e. is_le (pos_cmp next e.0)) (λ e test is. is) node.entries kept.0.in_range)

  module _ (counts : moved ≡ lengths_of second) where
    -- all bytes are those that stay and those that leave
    pub bytes_split : bytes ≡ 56 + lengths_of first + moved
    bytes_split = omega (arith, kept.1.total, sum_keys node.entries, ap lengths_of whole, lengths-append first second, counts)

    -- the second part is a node
    pub second_kept : IsMap pos_cmp second → IsKept (record { least = next; greatest = node.greatest; entries = second }) (56 + moved)
    second_kept rises = (
      record {
        rises = rises;
        covered = subst (λ es. All (IsWithin next node.greatest) (keys_of es)) (sym from)
            (All-part (λ (e : Pos × Value). e.0) (IsWithin node.least node.greatest) (IsWithin next node.greatest) (λ e. is_le (pos_cmp next e.0)) (λ e le w. (not_after (pos_cmp next e.0) le, w.1)) node.entries kept.0.covered);
        in_range = second_in_range;
      },
      record {
        total = omega (arith, counts, sum_keys second);
      },
      subst (λ es. All PosFits (keys_of es)) (sym from) (All-part (λ (e : Pos × Value). e.0) PosFits PosFits (λ e. is_le (pos_cmp next e.0)) (λ e test is. is) node.entries kept.2),
    )

    -- and so is the first one
    pub first_kept : IsMap pos_cmp first → IsKept (record { least = node.least; greatest = at; entries = first }) (bytes - moved)
    first_kept rises = (
      record {
        rises = rises;
        covered = subst (λ es. All (IsWithin node.least at) (keys_of es)) (sym first_is)
            (All-part (λ (e : Pos × Value). e.0) (IsWithin node.least node.greatest) (IsWithin node.least at) (λ e. is_le (pos_cmp e.0 at)) (λ e le w. (w.0, not_after (pos_cmp e.0 at) le)) node.entries kept.0.covered);
        in_range = subst (λ es. All IsValue (values_of es)) (sym below) (All-part (λ (e : Pos × Value). e.1) IsValue IsValue (λ e. is_gt (pos_cmp next e.0)) (λ e test is. is) node.entries kept.0.in_range);
      },
      record {
        total = omega (arith, bytes_split, sum_keys first);
      },
      subst (λ es. All PosFits (keys_of es)) (sym below) (All-part (λ (e : Pos × Value). e.0) PosFits PosFits (λ e. is_gt (pos_cmp next e.0)) (λ e test is. is) node.entries kept.2),
    )
