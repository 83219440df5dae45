use Rattle.std.proofs.Common.{◌≡◌, ◌∷◌, ◌∙◌, Option}
use Rattle.std.specs.Map.Iter.{deref_pair}
use Rattle.std.proofs.lemmas.Map.Iter.{rest_more}
use Rattle.vol_types.specs.declared.positions.Pos.{Pos}
use Rattle.vol_types.specs.declared.values.Value.{Value}
use Rattle.image_reader.specs.Changes.{changes_within}
use Rattle.image_reader.proofs.Making.{making_more, making_none, next_covered}
use Rattle.image_reader.proofs.changes.with_changes.Goals as goal

pub loop-pos-init : goal.loop-pos-init
loop-pos-init c =
    making_none c.args.node c.args.changes.now.entries _ c.requires.in_range
    (c.into_iter-pos-iterator.ensures.into_iter_gives ∙ c.changes_within-pos-items.ensures ∙ (λ i. changes_within (c.least.ensures i) (c.greatest.ensures i) c.args.changes.now.entries))

pub make_change-requires-clause-covered : goal.make_change-requires-clause-covered
make_change-requires-clause-covered c =
    let next : c.loop-pos.pos-iterator ≡ (c.in-Some.pos.now, c.in-Some.value.now) ∷ c.next.new.self = rest_more (deref_pair {K = Pos} {X = Option Value}) _ _ _ _ c.in-Some.is c.next.ensures.steps in
    next_covered c.args.node c.args.changes.now.entries c.loop-pos.node c.loop-pos.pos-iterator c.loop-pos.invariant c.in-Some.pos.now c.in-Some.value.now c.next.new.self next

pub loop-pos-preserved : goal.loop-pos-preserved
loop-pos-preserved c =
    let next : c.loop-pos.pos-iterator ≡ (c.in-Some.pos.now, c.in-Some.value.now) ∷ c.next.new.self = rest_more (deref_pair {K = Pos} {X = Option Value}) _ _ _ _ c.in-Some.is c.next.ensures.steps in
    making_more c.args.node c.args.changes.now.entries c.loop-pos.node c.loop-pos.pos-iterator c.loop-pos.invariant c.in-Some.pos.now c.in-Some.value.now c.next.new.self next c.make_change.new.node c.in_ok-make_change.ensures
