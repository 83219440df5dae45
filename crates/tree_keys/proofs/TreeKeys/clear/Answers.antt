use Rattle.std.proofs.Common.{None}
use Rattle.std.proofs.lemmas.List.{get_or_default}
use Rattle.tree_keys.specs.PlanLaws.{keys_with_more}
use Rattle.vol_types.specs.Positions.{least_pos}
use Rattle.tree_keys.proofs.TreeKeys.clear.Goals as goal

pub loop-pos-preserved : goal.loop-pos-preserved
loop-pos-preserved c =
    keys_with_more None c.args.self.now c.loop-pos.self c.clear_one.new.self c.args.positions.now c.loop-pos.pos-index _ c.loop-pos-test.true
    (get_or_default c.args.positions.now c.loop-pos.pos-index least_pos _ c.loop-pos-test.true) c.loop-pos.invariant c.clear_one.ensures
