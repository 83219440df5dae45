use Rattle.std.proofs.Common.{map, take}
use Rattle.node_mem.specs.Nodes.{with_keys}
use Rattle.node_mem.proofs.Places.{positions_more}
use Rattle.node_mem.proofs.positions.middle_after.Goals as goal

pub loop-change-preserved : goal.loop-change-preserved
loop-change-preserved g c =
    positions_more g.C.Change.key c.args.changes.now c.loop-change.change-index c.change-item.result c.args.entries.now.entries c.change_one.new.positions.keys c.loop-change-test.true c.change-item.is
    (c.in_ok-change_one.ensures (with_keys (map g.C.Change.key (take c.loop-change.change-index c.args.changes.now)) c.args.entries.now.entries) c.loop-change.invariant)
