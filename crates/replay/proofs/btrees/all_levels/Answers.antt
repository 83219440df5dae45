use Rattle.std.proofs.Common.{[], ◌∷◌, ◌++◌, ap, ◌∙◌}
use Rattle.std.specs.Vec.Iter.{into_iter_items}
use Rattle.tree_nodes.specs.Levels.{Level}
use Rattle.replay.proofs.Making.{raising_more}
use Rattle.replay.proofs.btrees.all_levels.Goals as goal

pub loop-level-preserved : goal.loop-level-preserved
loop-level-preserved c =
    raising_more c.args.levels c.loop-level.all (into_iter_items c.loop-level.level-iterator) (into_iter_items c.next.new.self) c.in-Some.level c.loop-level.invariant c.in-Some.ensures.steps.0 c.push.new.self
    (c.in_ok-push.ensures.ok ∙ ap (λ (nodes : Level). c.loop-level.all ++ nodes ∷ []) c.in_ok-level_nodes.ensures.made)
