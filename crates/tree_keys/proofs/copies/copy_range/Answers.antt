use Rattle.std.specs.Map.Iter.{deref_pair}
use Rattle.std.proofs.lemmas.Map.Iter.{rest_more}
use Rattle.tree_keys.proofs.Copying.{copying_more, next_covered}
use Rattle.vol_types.specs.declared.positions.Pos.{Pos}
use Rattle.vol_types.specs.declared.values.Value.{Value}
use Rattle.tree_keys.proofs.copies.copy_range.Goals as goal

pub put_copy-requires-clause-covered : goal.put_copy-requires-clause-covered
put_copy-requires-clause-covered c =
    next_covered c.args.least.now c.args.greatest.now c.args.values c.loop-pos.node c.loop-pos.node c.loop-pos.pos-iterator c.next.new.self c.in-Some.pos.now c.in-Some.value.now c.loop-pos.invariant
    (rest_more (deref_pair {K = Pos} {X = Value}) _ _ _ _ c.in-Some.is c.next.ensures.steps)

pub loop-pos-preserved : goal.loop-pos-preserved
loop-pos-preserved c =
    copying_more c.args.least.now c.args.greatest.now c.args.values c.loop-pos.node c.put_copy.new.node c.loop-pos.pos-iterator c.next.new.self c.in-Some.pos.now c.in-Some.value.now c.loop-pos.invariant
    (rest_more (deref_pair {K = Pos} {X = Value}) _ _ _ _ c.in-Some.is c.next.ensures.steps) c.in_ok-put_copy.ensures
