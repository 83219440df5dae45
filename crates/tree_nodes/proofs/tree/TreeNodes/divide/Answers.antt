use Rattle.std.proofs.Common.{◌-◌, ◌+◌, ◌<◌, subst, sym, length}
use Rattle.vol_types.specs.Widths.{PosFits}
use Rattle.tree_nodes.specs.Levels.{Levels, EndsAt, divided, level_of}
use Rattle.tree_nodes.specs.TreeLaws.{tree-divided}
use Rattle.tree_nodes.proofs.Looks.{tree_either}
use Rattle.tree_nodes.proofs.tree.TreeNodes.divide.Goals as goal

pub invariant_of-self : goal.invariant_of-self
invariant_of-self c =
    let levels = c.self.inside.levels.items in
    let there = subst (λ (levels : Levels). EndsAt (level_of levels c.args.level) c.args.greatest.now) (sym c.self.view_is) c.requires.covered.there in
    let low = subst (λ (levels : Levels). c.args.level + 1 < length levels) (sym c.self.view_is) c.requires.below in
    let child = subst (λ (levels : Levels). 0 < c.args.level → EndsAt (level_of levels (c.args.level - 1)) c.wide-at.result) (sym c.self.view_is)
    (λ up. subst (λ p. EndsAt (level_of c.args.self.now (c.args.level - 1)) p) (sym c.wide-at.ensures.same) (c.requires.child up)) in
    tree_either c.divide_node.result levels (divided c.args.level c.args.greatest.now c.wide-at.result c.args.first c.args.second levels) c.divide_node.new.levels.items c.divide_node.ensures.ok c.divide_node.ensures.err c.self.invariant
    (tree-divided levels c.args.level c.args.greatest.now c.self.invariant there c.wide-at.result c.args.first c.args.second (subst PosFits (sym c.wide-at.ensures.same) c.wide-at.ensures.fits) child c.requires.first c.requires.second low)
