use Rattle.dev_model.specs.Devices.{now}
use Rattle.dev_model.specs.FrameLaws.{go_on_then}
use Rattle.geometry.specs.Mirrors.{IsMirror, IsMirrorBlock}
use Rattle.geometry.proofs.Mirroring.{flushed_after, hold_then_flushes}
use Rattle.geometry.proofs.mirrors.settle_mirrors.Goals as goal

pub returns-clause-crashes : goal.returns-clause-crashes
returns-clause-crashes g c tells =
    let D = g.D.Devices in
    let old = D.state c.args.devices.now in
    let mid = D.state c.write_mirrors.new.devices in
    flushed_after (IsMirror c.args.mirrors c.args.block) (now old) old mid (D.state c.flush_devices.new.devices) (c.write_mirrors.ensures.crashes tells) (c.flush_devices.ensures.crashes tells)

pub returns-clause-asks : goal.returns-clause-asks
returns-clause-asks g c tells opens =
    let D = g.D.Devices in
    hold_then_flushes opens (IsMirrorBlock c.args.mirrors c.args.block c.args.bytes.now) (D.state c.args.devices.now) (D.state c.write_mirrors.new.devices) (D.state c.flush_devices.new.devices)
    (c.write_mirrors.ensures.goes_on).later (c.flush_devices.ensures.crashes tells).past (c.write_mirrors.ensures.asks tells opens) (c.flush_devices.ensures.asks tells opens)

pub returns-clause-goes_on : goal.returns-clause-goes_on
returns-clause-goes_on g c =
    let D = g.D.Devices in
    go_on_then (D.state c.args.devices.now) (D.state c.write_mirrors.new.devices) (D.state c.flush_devices.new.devices) c.write_mirrors.ensures.goes_on c.flush_devices.ensures.goes_on
