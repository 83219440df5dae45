use Rattle.tree_nodes.specs.ChildLaws.{children-tile, node_at-within, parent-covers}
use Rattle.tree_nodes.specs.Levels.{least_of}
use Rattle.tree_nodes.proofs.laws.children_tile.Goals as goal

pub returns : goal.returns
returns c = record {
  tile = λ above below at above_row below_row nested there. children-tile above below above_row below_row nested at there;
  parent = λ above below parent at pos above_row below_row nested fits outer inner. parent-covers above below above_row below_row nested parent at pos fits outer inner;
  found = λ above below at pos row there within. node_at-within (least_of at above) at pos within below row.rises there;
}
