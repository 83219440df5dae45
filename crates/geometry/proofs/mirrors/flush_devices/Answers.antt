use Rattle.std.proofs.Common.{◌<◌, ◌∙◌, length, ap, arith, refl}
use Rattle.dev_model.specs.Devices.{now, Is}
use Rattle.dev_model.specs.Disk.{changed, flushed}
use Rattle.dev_model.specs.FrameLaws.{go_on_here, go_on_by_write, go_on_then}
use Rattle.dev_model.specs.HeldLaws.{hold_here, hold_by_flush}
use Rattle.geometry.specs.Mirrors.{NoBlock}
use Rattle.geometry.proofs.Mirroring.{disk_count, flushes_none, flushes_more, reads_as_before, rests_more, settles_more}
use Rattle.geometry.proofs.mirrors.flush_devices.Goals as goal

pub loop-dev-init : goal.loop-dev-init
loop-dev-init g c =
    let state = g.D.Devices.state c.args.devices.now in
    record {
      crashes = λ tells. flushes_none state;
      reads = λ tells dev block. refl;
      settled = λ tells dev le. absurd (omega (arith, le));
      rest = λ tells dev disk le there. absurd (omega (arith, le));
      asks = λ tells opens. hold_here opens NoBlock state;
      goes_on = go_on_here state;
      faults = refl;
    }

pub loop-dev-preserved : goal.loop-dev-preserved
loop-dev-preserved g c =
    let D = g.D.Devices in
    let old = D.state c.args.devices.now in
    let mid = D.state c.loop-dev.devices in
    let new = D.state c.flush_device.new.devices in
    let so_far = c.loop-dev.invariant in
    let call = c.flush_device.ensures.call in
    record {
      crashes = λ tells. flushes_more c.flush_device.result c.loop-dev.dev old mid new (g.met.D.Devices.sound tells c.loop-dev.devices) (so_far.crashes tells) (call.disks tells);
      reads = λ tells dev block. reads_as_before c.flush_device.result c.loop-dev.dev mid new (call.disks tells) dev block ∙ so_far.reads tells dev block;
      settled = λ tells.
          let within : c.loop-dev.dev < length (now mid) = omega (arith, c.requires, c.loop-dev-test.true, ap length so_far.goes_on.sizes, ap length (g.met.D.Devices.agree tells c.loop-dev.devices), disk_count (now mid)) in
          settles_more (now mid) (now new) c.loop-dev.dev (g.met.D.Devices.sound tells c.loop-dev.devices) within (c.in_ok-flush_device.ensures.call.disks tells).after (so_far.settled tells);
      rest = λ tells. rests_more (now mid) (now new) c.loop-dev.dev (c.in_ok-flush_device.ensures.call.disks tells).after (so_far.rest tells);
      asks = λ tells opens. hold_by_flush opens NoBlock old mid so_far.goes_on.later (so_far.asks tells opens) c.flush_device.result c.loop-dev.dev new (call.disks tells);
      goes_on = go_on_then old mid new so_far.goes_on (go_on_by_write D.tells c.loop-dev.dev c.flush_device.result (Is (now mid)) (Is (changed c.loop-dev.dev flushed (now mid))) mid new call c.flush_device.ensures.sizes);
      faults = c.in_ok-flush_device.ensures.call.faults ∙ so_far.faults;
    }

pub returns-in_err-flush_device-clause-asks : goal.returns-in_err-flush_device-clause-asks
returns-in_err-flush_device-clause-asks g c tells opens =
    let D = g.D.Devices in
    hold_by_flush opens NoBlock (D.state c.args.devices.now) (D.state c.loop-dev.devices) c.loop-dev.invariant.goes_on.later (c.loop-dev.invariant.asks tells opens)
    c.flush_device.result c.loop-dev.dev (D.state c.flush_device.new.devices) (c.flush_device.ensures.call.disks tells)

pub returns-in_err-flush_device-clause-goes_on : goal.returns-in_err-flush_device-clause-goes_on
returns-in_err-flush_device-clause-goes_on g c =
    let D = g.D.Devices in
    let mid = D.state c.loop-dev.devices in
    let new = D.state c.flush_device.new.devices in
    go_on_then (D.state c.args.devices.now) mid new c.loop-dev.invariant.goes_on
    (go_on_by_write D.tells c.loop-dev.dev c.flush_device.result (Is (now mid)) (Is (changed c.loop-dev.dev flushed (now mid))) mid new c.flush_device.ensures.call c.flush_device.ensures.sizes)
