use Rattle.std.proofs.Common.{◌≡◌, ◌-◌, ◌<◌, subst, sym, length, [], ◌∷◌}
use Rattle.vol_types.specs.Positions.{greatest_pos}
use Rattle.vol_types.specs.Widths.{PosFits}
use Rattle.tree_nodes.specs.Levels.{Levels, EndsAt, IsNodeOf, divided, level_of, under_root}
use Rattle.tree_nodes.specs.RowLaws.{single}
use Rattle.tree_nodes.specs.TreeLaws.{tree-grown}
use Rattle.std.proofs.lemmas.Result.{IfOk-weaker}
use Rattle.tree_nodes.proofs.Looks.{tree_either}
use Rattle.tree_nodes.proofs.tree.TreeNodes.divide_root.Goals as goal

pub invariant_of-self : goal.invariant_of-self
invariant_of-self c =
    let levels = c.self.inside.levels.items in
    let child = subst (λ (levels : Levels). 1 < length levels → EndsAt (level_of levels (length levels - 2)) c.wide-at.result) (sym c.self.view_is)
    (λ up. subst (λ p. EndsAt (level_of c.args.self.now (length c.args.self.now - 2)) p) (sym c.wide-at.ensures.same) (c.requires.child up)) in
    let first = subst (λ (levels : Levels). IsNodeOf (length levels - 1) c.args.first) (sym c.self.view_is) c.requires.first in
    let second = subst (λ (levels : Levels). IsNodeOf (length levels - 1) c.args.second) (sym c.self.view_is) c.requires.second in
    let root = subst (λ (levels : Levels). IsNodeOf (length levels) c.args.root) (sym c.self.view_is) c.requires.root in
    tree_either c.divide_top.result levels (under_root c.args.root (divided (length levels - 1) greatest_pos c.wide-at.result c.args.first c.args.second levels)) c.divide_top.new.levels.items c.divide_top.ensures.ok c.divide_top.ensures.err c.self.invariant
    (tree-grown levels c.wide-at.result c.args.first c.args.second c.args.root c.self.invariant (subst PosFits (sym c.wide-at.ensures.same) c.wide-at.ensures.fits) child first second root)

pub returns-clause-before : goal.returns-clause-before
returns-clause-before c =
    rw (← c.self.view_is)
    (IfOk-weaker c.divide_top.result _ (λ before. level_of c.self.inside.levels.items (length c.self.inside.levels.items - 1) ≡ (greatest_pos, before) ∷ []) (λ before is. single greatest_pos before (level_of c.self.inside.levels.items (length c.self.inside.levels.items - 1)) c.self.invariant.root is) c.divide_top.ensures.before)
