use Rattle.std.proofs.Common.{◌∙◌}
use Rattle.tree_nodes.proofs.Ranges.{within-range}
use Rattle.tree_nodes.proofs.level.nodes_within.Goals as goal

pub returns : goal.returns
returns c = c.range.ensures.between tt ∙ within-range c.args.first.now c.args.last.now c.args.nodes.now.entries
