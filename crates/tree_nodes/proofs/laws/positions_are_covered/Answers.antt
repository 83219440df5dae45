use Rattle.std.specs.Ordering.{is_le}
use Rattle.vol_types.specs.Positions.{pos_cmp}
use Rattle.tree_nodes.specs.CoverLaws.{covered-once, first-value, node_at-covers, node_at-some}
use Rattle.tree_nodes.proofs.laws.positions_are_covered.Goals as goal

pub returns : goal.returns
returns c = record {
  some = λ nodes pos. node_at-some pos nodes;
  covers = λ nodes pos node row fits is. (node_at-covers pos nodes node row fits is, first-value (λ n. is_le (pos_cmp pos n.0)) nodes node row.rises is);
  once = λ nodes pos at node row fits is covers. covered-once pos at node nodes row fits is covers.within;
}
