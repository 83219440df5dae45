use Rattle.tree_keys.specs.PlanLaws.{filling_more, next_placed}
use Rattle.tree_keys.proofs.TreeKeys.fill.Goals as goal

pub fill_one-requires-clause-placed : goal.fill_one-requires-clause-placed
fill_one-requires-clause-placed c = next_placed c.args.self.now c.args.last.entries c.loop-pos.self c.loop-pos.pos-iterator c.next.new.self c.in-Some.pos c.in-Some.value c.loop-pos.invariant c.in-Some.ensures.steps

pub loop-pos-preserved : goal.loop-pos-preserved
loop-pos-preserved c = filling_more c.args.self.now c.args.last.entries c.loop-pos.self c.loop-pos.pos-iterator c.next.new.self c.in-Some.pos c.in-Some.value c.loop-pos.invariant c.in-Some.ensures.steps c.fill_one.new.self c.fill_one.ensures
