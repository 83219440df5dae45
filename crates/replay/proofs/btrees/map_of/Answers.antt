use Rattle.std.specs.Vec.Iter.{into_iter_items}
use Rattle.vol_types.specs.CopyLaws.{copy_more}
use Rattle.vol_types.specs.PositionLaws.{pos_total}
use Rattle.replay.proofs.btrees.map_of.Goals as goal

pub loop-pos-preserved : goal.loop-pos-preserved
loop-pos-preserved c =
    copy_more pos_total c.in-Some.pos c.in-Some.value (into_iter_items c.next.new.self) c.loop-pos.map.entries c.add_value.new.map.entries (into_iter_items c.loop-pos.pos-iterator) c.args.entries c.loop-pos.invariant
    c.in-Some.ensures.steps.0 c.requires c.in_ok-add_value.ensures
