use Rattle.std.proofs.Common.{ap, sym, ◌∙◌}
use Rattle.vol_types.specs.Maps.{value_at}
use Rattle.vol_types.specs.Positions.{pos_cmp}
use Rattle.tree_nodes.proofs.Looks.{found, missing}
use Rattle.tree_nodes.proofs.tree.TreeNodes.get.Goals as goal

pub returns-in-None : goal.returns-in-None
returns-in-None c = sym (ap (value_at pos_cmp c.args.greatest.now) (missing c.args.self.now c.args.level (sym c.in-None.ensures.found)))

pub returns-in-Some : goal.returns-in-Some
returns-in-Some c = c.get.ensures ∙ ap (value_at pos_cmp c.args.greatest.now) (sym (found c.args.self.now c.args.level c.in-Some.nodes.now (sym c.in-Some.ensures.found)))
