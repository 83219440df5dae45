use Rattle.std.proofs.Common.{sym}
use Rattle.vol_types.specs.Positions.{greatest_pos}
use Rattle.tree_nodes.specs.RowLaws.{single}
use Rattle.tree_nodes.proofs.tree.only_node.Goals as goal

pub returns : goal.returns
returns c = single greatest_pos c.in-Some.root.now c.args.top.now c.requires.one (sym c.in-Some.ensures)
