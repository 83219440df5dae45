use Rattle.std.proofs.Common.{◌+◌}
use Rattle.node_store.specs.Mending.{KeepsRest}
use Rattle.node_store.proofs.MendedFrames.{ok_map, rest_read, rest_then}
use Rattle.node_store.proofs.MendedSteps.{copy_writes}
use Rattle.node_store.proofs.mending.mend_copy.Goals as goal

pub returns-clause-writes : goal.returns-clause-writes
returns-clause-writes g c tells =
    let D = g.D.Devices in
    let place = c.args.place.now in
    copy_writes c.args.layout.now.id c.args.birth place.dev (place.block + c.args.n) c.block_of-block.result c.args.shown.now.dev c.args.shown.now.bytes c.as_slice.result.now (D.state c.args.devices.now) (D.state c.is_to_mend.new.devices) (D.state c.settle_block.new.devices)
    c.block_of-block.ensures c.as_slice.ensures c.if-place-shown.false (c.in_ok-is_to_mend.ensures.lacks tells c.if-not-branch.false) (c.is_to_mend.ensures.read.disks tells) c.settle_block.ensures.goes_on.calls (c.settle_block.ensures.writes tells)

pub returns-clause-rest : goal.returns-clause-rest
returns-clause-rest g c tells =
    let D = g.D.Devices in
    let old = D.state c.args.devices.now in
    let mid = D.state c.is_to_mend.new.devices in
    let new = D.state c.settle_block.new.devices in
    ok_map c.settle_block.result (KeepsRest mid new) (KeepsRest old new) (rest_then old mid new (rest_read old mid (c.is_to_mend.ensures.read.disks tells))) (c.settle_block.ensures.rest tells)
