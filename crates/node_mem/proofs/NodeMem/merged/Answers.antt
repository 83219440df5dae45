use Rattle.std.specs.Vec.Iter.{into_iter_items}
use Rattle.node_mem.proofs.Merging.{merging_more}
use Rattle.node_mem.proofs.NodeMem.merged.Goals as goal

pub loop-key-preserved : goal.loop-key-preserved
loop-key-preserved c =
    merging_more c.args.self c.args.keys c.loop-key.self c.put_key.new.self c.in-Some.key (into_iter_items c.loop-key.key-iterator) (into_iter_items c.next.new.self) c.loop-key.invariant c.in-Some.ensures.steps.0 c.in_ok-put_key.ensures
