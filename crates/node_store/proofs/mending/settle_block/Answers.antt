use Rattle.std.proofs.Common.{◌≡◌, ◌<◌, List, Option, ℕ, get_or, ap, subst, sym, ◌∙◌}
use Rattle.std.specs.Prelude.{Some}
use Rattle.dev_model.specs.Devices.{Is, MayBeWritten, now}
use Rattle.dev_model.specs.Disk.{as_read, block_at, changed, flushed, sizes_of, written}
use Rattle.dev_model.specs.FrameLaws.{go_on_by_write, go_on_then}
use Rattle.geometry.specs.FaultLaws.{handed_device}
use Rattle.geometry.specs.Faults.{fault_device}
use Rattle.node_store.specs.Mending.{KeepsRest, AtMostOneWriteFailed}
use Rattle.node_store.proofs.MendedFrames.{call_failed, ok_then, on_ok, reads_settled, rest_settled, write_failed, writes_by_write, writes_settled}
use Rattle.node_store.proofs.mending.settle_block.Goals as goal

pub returns-in_err-write_device-clause-writes : goal.returns-in_err-write_device-clause-writes
returns-in_err-write_device-clause-writes g c tells =
    let D = g.D.Devices in
    writes_by_write c.write_device.result c.args.dev c.args.block c.args.bytes.now (D.state c.args.devices.now) (D.state c.write_device.new.devices) (g.met.D.Devices.sound tells c.args.devices.now) (c.write_device.ensures.call.disks tells)

pub returns-in_err-write_device-clause-goes_on : goal.returns-in_err-write_device-clause-goes_on
returns-in_err-write_device-clause-goes_on g c =
    let D = g.D.Devices in
    let old = D.state c.args.devices.now in
    go_on_by_write D.tells c.args.dev c.write_device.result (MayBeWritten c.args.dev c.args.block c.args.bytes.now (now old)) (Is (changed c.args.dev (written c.args.block c.args.bytes.now) (now old))) old (D.state c.write_device.new.devices)
    c.write_device.ensures.call c.write_device.ensures.sizes

pub returns-clause-writes : goal.returns-clause-writes
returns-clause-writes g c tells =
    let D = g.D.Devices in
    writes_settled c.write_device.result c.flush_device.result c.args.dev c.args.block c.args.bytes.now (D.state c.args.devices.now) (D.state c.write_device.new.devices) (D.state c.flush_device.new.devices)
    (g.met.D.Devices.sound tells c.args.devices.now) (g.met.D.Devices.sound tells c.write_device.new.devices) (c.write_device.ensures.call.disks tells) (c.flush_device.ensures.call.disks tells)

pub returns-clause-written : goal.returns-clause-written
returns-clause-written g c tells =
    let D = g.D.Devices in
    let old = D.state c.args.devices.now in
    let mid = D.state c.write_device.new.devices in
    let new = D.state c.flush_device.new.devices in
    let within : c.args.block < get_or (sizes_of (now old)) c.args.dev 0 = subst (λ (sizes : List ℕ). c.args.block < get_or sizes c.args.dev 0) (g.met.D.Devices.agree tells c.args.devices.now) c.requires.place in
    on_ok c.flush_device.result (block_at (as_read (now new)) c.args.dev c.args.block ≡ Some c.args.bytes.now)
    (reads_settled c.flush_device.result c.args.dev c.args.block c.args.bytes.now old mid new (g.met.D.Devices.sound tells c.write_device.new.devices) within (c.in_ok-write_device.ensures.call.disks tells).after (c.flush_device.ensures.call.disks tells))

pub returns-clause-rest : goal.returns-clause-rest
returns-clause-rest g c tells =
    let D = g.D.Devices in
    let old = D.state c.args.devices.now in
    let mid = D.state c.write_device.new.devices in
    let new = D.state c.flush_device.new.devices in
    ok_then c.flush_device.result (now new ≡ changed c.args.dev flushed (now mid)) (now new ≡ now mid) (KeepsRest old new) (c.flush_device.ensures.call.disks tells).after
    (rest_settled c.args.dev c.args.block c.args.bytes.now old mid new (g.met.D.Devices.sound tells c.args.devices.now) (c.in_ok-write_device.ensures.call.disks tells).after)

pub returns-clause-goes_on : goal.returns-clause-goes_on
returns-clause-goes_on g c =
    let D = g.D.Devices in
    let old = D.state c.args.devices.now in
    let mid = D.state c.write_device.new.devices in
    let new = D.state c.flush_device.new.devices in
    go_on_then old mid new
    (go_on_by_write D.tells c.args.dev c.write_device.result (MayBeWritten c.args.dev c.args.block c.args.bytes.now (now old)) (Is (changed c.args.dev (written c.args.block c.args.bytes.now) (now old))) old mid c.write_device.ensures.call c.write_device.ensures.sizes)
    (go_on_by_write D.tells c.args.dev c.flush_device.result (Is (now mid)) (Is (changed c.args.dev flushed (now mid))) mid new c.flush_device.ensures.call c.flush_device.ensures.sizes)

pub returns-in_err-write_device-clause-cause : goal.returns-in_err-write_device-clause-cause
returns-in_err-write_device-clause-cause g c =
    let D = g.D.Devices in
    let old = D.state c.args.devices.now in
    let new = D.state c.write_device.new.devices in
    subst (λ (failed : Option ℕ). AtMostOneWriteFailed failed old.faults new.faults)
    (sym (handed_device c.from_residual.result c.in_err-write_device.field-0.0 c.from_residual.ensures.1 ∙ ap fault_device c.in_err-write_device.ensures.device))
    (write_failed c.args.dev old.faults new.faults c.requires.device (g.met.D.Devices.counted c.args.devices.now) c.in_err-write_device.ensures.call.faults)

pub returns-clause-cause : goal.returns-clause-cause
returns-clause-cause g c =
    let D = g.D.Devices in
    call_failed c.flush_device.result c.args.dev (D.state c.args.devices.now).faults (D.state c.write_device.new.devices).faults (D.state c.flush_device.new.devices).faults c.requires.device (g.met.D.Devices.counted c.args.devices.now)
    c.in_ok-write_device.ensures.call.faults c.flush_device.ensures.call.faults c.flush_device.ensures.device
