use Rattle.std.proofs.Common.{◌-◌, ap, sym, ◌∙◌, arith}
use Rattle.tree_nodes.specs.Levels.{Level, children_of, level_of}
use Rattle.tree_nodes.proofs.Looks.{found, none_past}
use Rattle.tree_nodes.proofs.tree.TreeNodes.children.Goals as goal

pub unreachable-requires : goal.unreachable-requires
unreachable-requires c = none_past c.args.self.now c.args.level (sym c.in_default.ensures.found) c.requires.there

pub unreachable-requires-in_default-level : goal.unreachable-requires-in_default-level
unreachable-requires-in_default-level c = none_past c.args.self.now (c.args.level - 1) (sym c.in_default-level.ensures.found) (omega (arith, c.requires.there))

pub returns : goal.returns
returns c =
    c.children_in.ensures
    ∙ ap (λ (nodes : Level). children_of c.args.greatest.now nodes c.in-Some-level.below.now) (sym (found c.args.self.now c.args.level c.in-Some.nodes.now (sym c.in-Some.ensures.found)))
    ∙ ap (children_of c.args.greatest.now (level_of c.args.self.now c.args.level)) (sym (found c.args.self.now (c.args.level - 1) c.in-Some-level.below.now (sym c.in-Some-level.ensures.found)))
