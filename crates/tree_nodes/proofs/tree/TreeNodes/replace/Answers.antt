use Rattle.std.proofs.Common.{subst, sym}
use Rattle.tree_nodes.specs.Levels.{Levels, EndsAt, IsTree, level_of}
use Rattle.tree_nodes.specs.TreeLaws.{tree-with_node}
use Rattle.tree_nodes.proofs.tree.TreeNodes.replace.Goals as goal

pub invariant_of-self : goal.invariant_of-self
invariant_of-self c =
    let there = subst (λ (levels : Levels). EndsAt (level_of levels c.args.level) c.args.greatest.now) (sym c.self.view_is) c.requires.there in
    subst IsTree (sym c.replace_node.ensures.after) (tree-with_node c.self.inside.levels.items c.args.level c.args.greatest.now c.self.invariant there c.args.fresh c.requires.node)
