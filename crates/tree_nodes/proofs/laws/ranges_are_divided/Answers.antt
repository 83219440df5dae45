use Rattle.tree_nodes.specs.RangeLaws.{least-first_half, least-other, least-replaced, least-second_half}
use Rattle.tree_nodes.proofs.laws.ranges_are_divided.Goals as goal

pub returns : goal.returns
returns c = record {
  replaced = λ nodes other at fresh row ends. least-replaced other at fresh nodes row.rises ends;
  first = λ nodes greatest at first second. least-first_half greatest at first second nodes;
  second = λ nodes greatest at first second. least-second_half greatest at first second nodes;
  others = λ nodes greatest at other first second row fits covers before. least-other greatest at first second nodes row fits covers before other;
}
