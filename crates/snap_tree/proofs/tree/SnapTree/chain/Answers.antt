use Rattle.std.proofs.Common.{subst}
use Rattle.snap_tree.specs.Snaps.{Snaps}
use Rattle.snap_tree.specs.TreeLaws.{HasParent, falls}
use Rattle.snap_tree.proofs.tree.SnapTree.chain.Goals as goal

pub loop-above-smaller : goal.loop-above-smaller
loop-above-smaller c =
    let parent = c.parent_or_zero-above-in-loop-above in
    falls c.args.self.now c.loop-above.above parent.result c.loop-above-test.true (subst (λ (s : Snaps). HasParent s c.loop-above.above parent.result) c.self.view_is parent.ensures.above) parent.type_inv
