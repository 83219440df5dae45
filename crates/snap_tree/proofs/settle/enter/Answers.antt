use Rattle.snap_tree.proofs.Settling.{entered_then, room_down}
use Rattle.snap_tree.proofs.settle.enter.Goals as goal

pub loop-next-preserved : goal.loop-next-preserved
loop-next-preserved c =
    let changes = c.args.changes.now.entries in (
      entered_then changes c.args.snaps.now.entries c.loop-next.snaps.entries c.enter_one.new.snaps.entries c.args.pairs.now.keys c.loop-next.pairs.keys c.enter_one.new.pairs.keys c.args.links.now.entries c.loop-next.links.entries c.enter_one.new.links.entries c.loop-next.invariant.0 c.enter_one.ensures.entered,
      room_down changes c.loop-next.snaps.entries c.enter_one.new.snaps.entries c.loop-next.pairs.keys c.enter_one.new.pairs.keys c.loop-next.links.entries c.enter_one.new.links.entries c.loop-next.next c.last_below-next.result c.in-Some.id c.in-Some.is c.enter_one.ensures.entered c.loop-next.invariant.1 c.in_ok-enter_one.ensures.room c.last_below-next.ensures.greatest,
      c.enter_one.ensures.live,
    )
