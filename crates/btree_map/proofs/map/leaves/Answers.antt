use Rattle.std.proofs.Common.{[], ◌∷◌, ◌++◌, ap, ◌∙◌}
use Rattle.std.specs.Vec.Iter.{into_iter_items}
use Rattle.btree_map.proofs.Fresh.{planting_more}
use Rattle.btree_map.proofs.map.leaves.Goals as goal

pub loop-root-preserved : goal.loop-root-preserved
loop-root-preserved c =
    planting_more c.args.roots c.loop-root.nodes.items (into_iter_items c.loop-root.root-iterator) (into_iter_items c.next.new.self) c.in-Some.root c.loop-root.invariant c.in-Some.ensures.steps.0 c.push.new.self.items
    (c.in_ok-push.ensures.items ∙ ap (λ t. c.loop-root.nodes.items ++ t ∷ []) c.in_ok-leaf.ensures)
