use Rattle.std.proofs.Common.{◌≡◌, ◌<◌, ◌^◌, ◌∷◌, length, ap, subst, arith}
use Rattle.std.specs.Prelude.{All, Some, sum_by}
use Rattle.std.proofs.lemmas.List.Elements.{All-tail}
use Rattle.std.proofs.lemmas.List.Sums.{sum_by-cons}
use Rattle.std.proofs.lemmas.Map.Iter.{rest_more}
use Rattle.std.specs.Map.Iter.{deref}
use Rattle.vol_types.specs.Lengths.{key_length_of}
use Rattle.vol_types.specs.Ranges.{IsValue}
use Rattle.vol_types.specs.declared.values.Value.{Value}
use Rattle.node_mem.proofs.lengths.total.Goals as goal

pub loop-value-preserved : goal.loop-value-preserved
loop-value-preserved c =
    let next : c.loop-value.value-iterator ≡ c.in-Some.value.now ∷ c.next.new.self = rest_more (deref {X = Value}) _ _ _ _ c.in-Some.is c.next.ensures.steps in
    let fits : c.key_length.result < 2 ^ 32 = omega (arith, c.key_length.type_inv) in
    record {
      sum = omega (arith, c.loop-value.invariant.sum, c.key_length.ensures, ap (sum_by (λ value. key_length_of (Some value))) next, sum_by-cons (λ value. key_length_of (Some value)) c.in-Some.value.now c.next.new.self);
      bound = omega (arith, c.loop-value.invariant.bound, fits, ap length next);
      in_range = All-tail IsValue c.in-Some.value.now c.next.new.self (subst (All IsValue) next c.loop-value.invariant.in_range);
    }
