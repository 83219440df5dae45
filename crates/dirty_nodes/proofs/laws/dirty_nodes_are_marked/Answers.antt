use Rattle.dirty_nodes.proofs.Marking.{marked-after, marked-none}
use Rattle.dirty_nodes.proofs.laws.dirty_nodes_are_marked.Goals as goal

pub returns : goal.returns
returns c = record {
  more = λ nodes pins marks updates seq differ trees fits marked. marked-after nodes seq updates pins marks trees fits differ marked;
  none = marked-none;
}
