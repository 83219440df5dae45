-- A node that gets copies of values one by one.
use Rattle.std.proofs.Common.{◌≡◌, ◌≤◌, Some, [], ◌∷◌, ◌++◌, length, sym, ap, ◌∙◌, subst, arith}
use Rattle.std.specs.Prelude.{All}
use Rattle.std.specs.Map.{keys_of, values_of}
use Rattle.std.proofs.lemmas.List.{append-nil}
use Rattle.std.proofs.lemmas.List.Elements.{All-head, All-tail}
use Rattle.node_mem.specs.Nodes.{Node}
use Rattle.node_mem.specs.RangeLaws.{All-part}
use Rattle.tree_keys.specs.PartLaws.{IsMap-part}
use Rattle.tree_keys.proofs.Counted.{length-filter-le}
use Rattle.vol_types.specs.CopyLaws.{copy_more}
use Rattle.vol_types.specs.KeyMaps.{Entries, entries_within}
use Rattle.vol_types.specs.Maps.{IsMap, put_at}
use Rattle.vol_types.specs.PositionLaws.{is_within-iff, pos_total}
use Rattle.vol_types.specs.Positions.{IsWithin, is_within, pos_cmp}
use Rattle.vol_types.specs.Ranges.{IsValue}
use Rattle.vol_types.specs.Widths.{PosFits}
use Rattle.vol_types.specs.declared.positions.Pos.{Pos}
use Rattle.vol_types.specs.declared.values.Value.{Value}

-- The node has the first of the values, and the rest may still be put.
pub record IsCopying (least greatest : Pos) (all : Entries) (node : Node) (rest : Entries) : Type 0 where
  pub whole : node.entries ++ rest ≡ all
  pub starts : node.least ≡ least
  pub ends : node.greatest ≡ greatest
  pub rises : IsMap pos_cmp all
  pub covered : All (IsWithin least greatest) (keys_of rest)
  pub in_range : All IsValue (values_of rest)

module _ (least greatest : Pos) (all : Entries) (node new : Node) (rest later : Entries) (pos : Pos) (value : Value) (copying : IsCopying least greatest all node rest) (next : rest ≡ (pos, value) ∷ later) where
  -- the next one is covered
  pub next_covered : IsWithin node.least node.greatest pos
  next_covered =
      let covered = All-head (IsWithin least greatest) pos (keys_of later) (subst (λ (es : Entries). All (IsWithin least greatest) (keys_of es)) next copying.covered) in
      subst (λ p. IsWithin p node.greatest pos) (sym copying.starts) (subst (λ p. IsWithin least p pos) (sym copying.ends) covered)

  -- and in range
  pub next_in_range : IsValue value
  next_in_range = All-head IsValue value (values_of later) (subst (λ (es : Entries). All IsValue (values_of es)) next copying.in_range)

  -- once it is put, the others are left
  pub copying_more : new ≡ record { least = node.least; greatest = node.greatest; entries = put_at pos_cmp pos (Some value) node.entries } → IsCopying least greatest all new later
  copying_more put = record {
    whole = copy_more pos_total pos value later node.entries new.entries rest all copying.whole next copying.rises (ap (λ (n : Node). n.entries) put);
    starts = ap (λ (n : Node). n.least) put ∙ copying.starts;
    ends = ap (λ (n : Node). n.greatest) put ∙ copying.ends;
    rises = copying.rises;
    covered = All-tail (IsWithin least greatest) pos (keys_of later) (subst (λ (es : Entries). All (IsWithin least greatest) (keys_of es)) next copying.covered);
    in_range = All-tail IsValue value (values_of later) (subst (λ (es : Entries). All IsValue (values_of es)) next copying.in_range);
  }

-- with none left the node has them all
pub copying_all : (least greatest : Pos) (all : Entries) (node : Node) (rest : Entries) → IsCopying least greatest all node rest → rest ≡ [] → node ≡ record { least = least; greatest = greatest; entries = all }
copying_all least greatest all node rest copying none = λ i. record {
  least = copying.starts i;
  greatest = copying.ends i;
  entries = (sym (append-nil node.entries) ∙ ap (λ es. node.entries ++ es) (sym none) ∙ copying.whole) i;
}

module _ (first last : Pos) (entries part : Entries) (is : part ≡ entries_within first last entries) where
  -- a part is a map
  pub part_rises : IsMap pos_cmp entries → IsMap pos_cmp part
  part_rises rises = subst (IsMap pos_cmp) (sym is) (IsMap-part (is_within first last) entries rises)

  -- of positions within the range
  pub part_covered : All PosFits (keys_of entries) → All (IsWithin first last) (keys_of part)
  part_covered fit =
      subst (λ (es : Entries). All (IsWithin first last) (keys_of es)) (sym is)
      (All-part (λ (e : Pos × Value). e.0) PosFits (IsWithin first last) (λ e. is_within first last e.0) (λ e test fits. (is_within-iff first last e.0).0 test) entries fit)

  -- and of values in range
  pub part_in_range : All IsValue (values_of entries) → All IsValue (values_of part)
  part_in_range all = subst (λ (es : Entries). All IsValue (values_of es)) (sym is) (All-part (λ (e : Pos × Value). e.1) IsValue IsValue (λ e. is_within first last e.0) (λ e test value. value) entries all)

  -- which are no more than all
  pub part_few : length part ≤ length entries
  part_few = omega (arith, ap (length {A = Pos × Value}) is, length-filter-le (λ (e : Pos × Value). is_within first last e.0) entries)
