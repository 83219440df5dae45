-- Ranges of a level, by what `BTreeMap` says of its ranges.
use Rattle.std.proofs.Common.{◌≡◌, ◌-◌, true, false, not, ◌&&◌, Option, Some, None, List, [], ◌∷◌, ◌++◌, length, refl, sym, ap, ◌∙◌, arith}
use Rattle.std.specs.Prelude.{option_map, slice_get}
use Rattle.std.specs.List.{filter}
use Rattle.std.specs.Map.Iter.{TakesLast}
use Rattle.std.specs.Ordering.{is_le, is_lt, is_gt, ordering_reverse}
use Rattle.std.specs.declared.cmp.Ordering.{Ordering}
use Rattle.std.specs.declared.cmp.Ordering.TheVariants.{Less, Equal, Greater}
use Rattle.std.proofs.Math.Seq.{get_or-append_seam}
use Rattle.std.proofs.lemmas.List.{length-append}
use Rattle.std.proofs.lemmas.Option.{slice_get_read}
use Rattle.std.proofs.lemmas.List.Elements.{filter_agree}
use Rattle.vol_types.specs.Positions.{pos_cmp, is_within}
use Rattle.vol_types.specs.PositionLaws.{pos_total}
use Rattle.vol_types.specs.declared.positions.Pos.{Pos}
use Rattle.tree_nodes.specs.Levels.{Level, nodes_before}

turned_le : (o : Ordering) → not (is_lt (ordering_reverse o)) ≡ is_le o
turned_le Less = refl
turned_le Equal = refl
turned_le Greater = refl

turned_lt : (o : Ordering) → not (is_le (ordering_reverse o)) ≡ is_lt o
turned_lt Less = refl
turned_lt Equal = refl
turned_lt Greater = refl

turned_gt : (o : Ordering) → is_le o ≡ true → is_gt o ≡ false
turned_gt Less le = refl
turned_gt Equal le = refl
turned_gt Greater le = sym le

-- a bound that isn't passed
pub not_passed : (p q : Pos) → is_le (pos_cmp p q) ≡ true → is_gt (pos_cmp p q) ≡ false
not_passed p q le = turned_gt (pos_cmp p q) le

-- the nodes that a range up to a position leaves out are those that don't end before it
pub before-range : (at : Pos) (nodes : Level) → filter (λ node. not (is_le (pos_cmp at node.0))) nodes ≡ nodes_before at nodes
before-range at nodes =
    filter_agree (λ node. not (is_le (pos_cmp at node.0))) (λ node. is_lt (pos_cmp node.0 at)) (λ node. ap (λ o. not (is_le o)) (pos_total.antisymm at node.0) ∙ turned_lt (pos_cmp node.0 at)) nodes

-- the nodes between two positions
pub within-range : (first last : Pos) (nodes : Level) → filter (λ node. is_le (pos_cmp first node.0) && not (is_lt (pos_cmp last node.0))) nodes ≡ filter (λ node. is_within first last node.0) nodes
within-range first last nodes =
    filter_agree (λ node. is_le (pos_cmp first node.0) && not (is_lt (pos_cmp last node.0))) (λ node. is_within first last node.0)
    (λ node. ap (λ b. is_le (pos_cmp first node.0) && b) (ap (λ o. not (is_lt o)) (pos_total.antisymm last node.0) ∙ turned_le (pos_cmp node.0 last))) nodes
