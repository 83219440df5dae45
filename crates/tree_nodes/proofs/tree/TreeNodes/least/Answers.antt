use Rattle.std.proofs.Common.{ap, sym, ◌∙◌}
use Rattle.tree_nodes.specs.Levels.{least_of}
use Rattle.tree_nodes.proofs.Looks.{found, missing}
use Rattle.tree_nodes.proofs.tree.TreeNodes.least.Goals as goal

pub returns-in-None-clause-exact : goal.returns-in-None-clause-exact
returns-in-None-clause-exact c = c.first_up_to.ensures.exact ∙ sym (ap (least_of c.args.greatest.now) (missing c.args.self.now c.args.level (sym c.in-None.ensures.found)))

pub returns-in-Some-clause-exact : goal.returns-in-Some-clause-exact
returns-in-Some-clause-exact c = c.least.ensures.exact ∙ ap (least_of c.args.greatest.now) (sym (found c.args.self.now c.args.level c.in-Some.nodes.now (sym c.in-Some.ensures.found)))
