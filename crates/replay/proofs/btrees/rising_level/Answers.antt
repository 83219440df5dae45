use Rattle.std.specs.Vec.Iter.{into_iter_items}
use Rattle.vol_types.specs.CopyLaws.{copy_more}
use Rattle.vol_types.specs.PositionLaws.{pos_total}
use Rattle.replay.proofs.btrees.rising_level.Goals as goal

pub loop-greatest-preserved : goal.loop-greatest-preserved
loop-greatest-preserved c =
    copy_more pos_total c.in-Some.greatest c.in-Some.node (into_iter_items c.next.new.self) c.loop-greatest.nodes c.add_node.new.nodes (into_iter_items c.loop-greatest.greatest-iterator) c.args.level c.loop-greatest.invariant
    c.in-Some.ensures.steps.0 c.requires c.in_ok-add_node.ensures
