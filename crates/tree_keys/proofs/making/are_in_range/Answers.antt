use Rattle.std.specs.Map.Iter.{deref_pair}
use Rattle.std.proofs.lemmas.Map.Iter.{rest_more}
use Rattle.tree_keys.proofs.Made.{testing_more}
use Rattle.vol_types.specs.declared.positions.Pos.{Pos}
use Rattle.vol_types.specs.declared.values.Value.{Value}
use Rattle.tree_keys.proofs.making.are_in_range.Goals as goal

pub loop-pos-preserved : goal.loop-pos-preserved
loop-pos-preserved c =
    testing_more c.args.keys.now.entries c.loop-pos.pos-iterator c.next.new.self c.in-Some.pos.now c.in-Some.value.now c.loop-pos.invariant
    (rest_more (deref_pair {K = Pos} {X = Value}) _ _ _ _ c.in-Some.is c.next.ensures.steps) c.wide.ensures.fits (c.is_in_range.ensures.0 c.if-not-is_in_range.false)
