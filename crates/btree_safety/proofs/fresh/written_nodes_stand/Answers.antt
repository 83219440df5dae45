use Rattle.std.proofs.Common.{arith}
use Rattle.btree_safety.proofs.WrittenNodes.{PartLaws, node_comes, node_written, written_more, written_stay}
use Rattle.btree_safety.proofs.fresh.written_nodes_stand.Goals as goal

pub returns : goal.returns
returns c =
    let laws : PartLaws = record { next = c.node_parts_stand.ensures.next; failed = c.node_parts_stand.ensures.failed } in
    record {
      begins = λ layout session wanted set blocked state planned. record { planned = planned; few = omega arith; stand = c.node_parts_stand.ensures.none blocked state };
      writes = written_more laws;
      stays = written_stay;
      comes = node_comes;
      stands = node_written;
    }
