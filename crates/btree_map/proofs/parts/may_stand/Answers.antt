use Rattle.std.proofs.Common.{refl, sym, ◌∙◌}
use Rattle.std.specs.Map.Iter.{deref_pair}
use Rattle.std.proofs.lemmas.Bool.{false≢true}
use Rattle.std.proofs.lemmas.Map.Iter.{rest_all, rest_more}
use Rattle.btree_map.proofs.Meeting.{tried_all, tried_ends, tried_more}
use Rattle.vol_types.specs.declared.positions.Pos.{Pos}
use Rattle.vol_types.specs.declared.values.Value.{Value}
use Rattle.btree_map.proofs.parts.may_stand.Goals as goal

pub returns-then-not-may_stand : goal.returns-then-not-may_stand
returns-then-not-may_stand c = (
  λ yes. absurd (false≢true yes),
  λ whole. absurd (tried_ends c.args.btree c.args.keys.now.entries c.loop-value.value-iterator c.next.new.self c.in-Some.field-0-0.now c.in-Some.value.now c.loop-value.invariant
      (rest_more (deref_pair {K = Pos} {X = Value}) _ _ _ _ c.in-Some.is c.next.ensures.steps) (λ may. false≢true (sym c.if-not-may_stand.true ∙ c.may_stand.ensures.1 may)) whole),
)

pub loop-value-preserved : goal.loop-value-preserved
loop-value-preserved c =
    tried_more c.args.btree c.args.keys.now.entries c.loop-value.value-iterator c.next.new.self c.in-Some.field-0-0.now c.in-Some.value.now c.loop-value.invariant
    (rest_more (deref_pair {K = Pos} {X = Value}) _ _ _ _ c.in-Some.is c.next.ensures.steps) (c.may_stand.ensures.0 c.if-not-may_stand.false)

pub returns : goal.returns
returns c = (
  λ yes. tried_all c.args.btree c.args.keys.now.entries c.loop-value.value-iterator c.loop-value.invariant (rest_all (deref_pair {K = Pos} {X = Value}) _ _ _ c.in-None.is c.next.ensures.steps),
  λ whole. refl,
)
