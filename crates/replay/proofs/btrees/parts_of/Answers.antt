use Rattle.std.specs.Vec.Iter.{into_iter_items}
use Rattle.replay.proofs.Making.{making_more}
use Rattle.replay.proofs.btrees.parts_of.Goals as goal

pub loop-btree-preserved : goal.loop-btree-preserved
loop-btree-preserved c =
    let parts = c.loop-btree.parts in
    let new = c.add.new.self in
    let made = c.in_ok-add.ensures in
    making_more c.args.btrees parts.keys parts.nodes parts.ends parts.ragged (into_iter_items c.loop-btree.btree-iterator) (into_iter_items c.next.new.self) c.in-Some.btree c.loop-btree.invariant c.in-Some.ensures.steps.0
    new.keys new.nodes new.ends new.ragged made.keys made.nodes made.ends made.ragged
