use Rattle.std.proofs.Common.{◌≡◌, ◌<◌, ◌^◌, ◌∷◌, length, Some, ap, subst, sym, arith}
use Rattle.std.specs.Prelude.{All}
use Rattle.std.specs.Map.{values_of}
use Rattle.std.specs.Map.Iter.{deref_pair}
use Rattle.std.proofs.lemmas.List.Elements.{All-tail}
use Rattle.std.proofs.lemmas.List.Sums.{sum_by-cons}
use Rattle.std.proofs.lemmas.Map.Iter.{rest_more}
use Rattle.node_mem.specs.Counts.{lengths_of}
use Rattle.vol_types.specs.KeyMaps.{Entries}
use Rattle.vol_types.specs.Lengths.{key_length_of}
use Rattle.vol_types.specs.Ranges.{IsValue}
use Rattle.vol_types.specs.declared.positions.Pos.{Pos}
use Rattle.vol_types.specs.declared.values.Value.{Value}
use Rattle.tree_keys.proofs.leaves.total.Goals as goal

pub loop-value-init : goal.loop-value-init
loop-value-init c =
    let same = c.into_iter-value-iterator.ensures.into_iter_gives in
    record {
      sum = omega (arith, ap lengths_of same);
      bound = omega (arith, ap (length {A = Pos × Value}) same);
      few = c.requires.few;
      in_range = subst (λ (es : Entries). All IsValue (values_of es)) (sym same) c.requires.in_range;
    }

pub loop-value-preserved : goal.loop-value-preserved
loop-value-preserved c =
    let next : c.loop-value.value-iterator ≡ (c.in-Some.field-0-0.now, c.in-Some.value.now) ∷ c.next.new.self = rest_more (deref_pair {K = Pos} {X = Value}) _ _ _ _ c.in-Some.is c.next.ensures.steps in
    let fits : c.key_length.result < 2 ^ 32 = omega (arith, c.key_length.type_inv) in
    record {
      sum = omega (arith, c.loop-value.invariant.sum, c.key_length.ensures, ap lengths_of next, sum_by-cons (λ value. key_length_of (Some value)) c.in-Some.value.now (values_of c.next.new.self));
      bound = omega (arith, c.loop-value.invariant.bound, fits, ap (length {A = Pos × Value}) next);
      few = c.loop-value.invariant.few;
      in_range = All-tail IsValue c.in-Some.value.now (values_of c.next.new.self) (subst (λ (es : Entries). All IsValue (values_of es)) next c.loop-value.invariant.in_range);
    }
