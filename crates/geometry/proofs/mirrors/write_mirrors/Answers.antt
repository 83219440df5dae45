use Rattle.std.proofs.Common.{◌<◌, ◌∙◌, List, ℕ, get_or, arith, refl, subst, sym}
use Rattle.dev_model.specs.Disk.{sizes_of, changed, written}
use Rattle.dev_model.specs.Devices.{now, Is, MayBeWritten}
use Rattle.dev_model.specs.CrashLaws.{goes_on_write, started, left_itself}
use Rattle.dev_model.specs.Crashes.{IsCrashImageBut}
use Rattle.dev_model.specs.FrameLaws.{go_on_here, go_on_by_write, go_on_then}
use Rattle.dev_model.specs.HeldLaws.{hold_here, hold_by_write}
use Rattle.geometry.specs.Mirrors.{IsMirror, IsMirrorBlock}
use Rattle.dev_model.specs.WriteLaws.{elsewhere_more}
use Rattle.geometry.proofs.Mirroring.{written_more}
use Rattle.geometry.proofs.mirrors.write_mirrors.Goals as goal

pub loop-dev-init : goal.loop-dev-init
loop-dev-init g c =
    let touched = IsMirror c.args.mirrors c.args.block in
    let state = g.D.Devices.state c.args.devices.now in
    record {
      crashes = λ tells. started (λ _ _ image. IsCrashImageBut touched (now state) image) state (left_itself touched (now state));
      written = λ tells dev le. absurd (omega (arith, le));
      elsewhere = λ tells dev b away. refl;
      asks = λ tells opens. hold_here opens (IsMirrorBlock c.args.mirrors c.args.block c.args.bytes.now) state;
      goes_on = go_on_here state;
      faults = refl;
    }

pub loop-dev-preserved : goal.loop-dev-preserved
loop-dev-preserved g c =
    let D = g.D.Devices in
    let old = D.state c.args.devices.now in
    let mid = D.state c.loop-dev.devices in
    let new = D.state c.write_device.new.devices in
    let dev = c.loop-dev.dev in
    let block = c.args.block in
    let bytes = c.args.bytes.now in
    let result = c.write_device.result in
    let so_far = c.loop-dev.invariant in
    let call = c.write_device.ensures.call in
    record {
      crashes = λ tells. goes_on_write (IsMirror c.args.mirrors block) (now old) old mid (so_far.crashes tells) (g.met.D.Devices.sound tells c.loop-dev.devices)
          result dev block bytes new (c.loop-dev-test.true, refl) (call.disks tells);
      written = λ tells.
          let place : block < get_or mid.sizes dev 0 = subst (λ (sizes : List ℕ). block < get_or sizes dev 0) (sym so_far.goes_on.sizes) (c.requires.places dev c.loop-dev-test.true) in
          let within : block < get_or (sizes_of (now mid)) dev 0 = subst (λ (sizes : List ℕ). block < get_or sizes dev 0) (g.met.D.Devices.agree tells c.loop-dev.devices) place in
          written_more (now mid) (now new) dev block bytes within (c.in_ok-write_device.ensures.call.disks tells).after (so_far.written tells);
      elsewhere = λ tells. elsewhere_more result (IsMirror c.args.mirrors block) dev block bytes old mid new (c.loop-dev-test.true, refl) (so_far.elsewhere tells) (call.disks tells);
      asks = λ tells opens. hold_by_write opens (IsMirrorBlock c.args.mirrors block bytes) old mid so_far.goes_on.later (so_far.asks tells opens) result dev block bytes new ((c.loop-dev-test.true, refl), refl) (call.disks tells);
      goes_on = go_on_then old mid new so_far.goes_on (go_on_by_write D.tells dev result (MayBeWritten dev block bytes (now mid)) (Is (changed dev (written block bytes) (now mid))) mid new call c.write_device.ensures.sizes);
      faults = c.in_ok-write_device.ensures.call.faults ∙ so_far.faults;
    }

pub returns-in_err-write_device-clause-crashes : goal.returns-in_err-write_device-clause-crashes
returns-in_err-write_device-clause-crashes g c tells =
    let D = g.D.Devices in
    let old = D.state c.args.devices.now in
    let mid = D.state c.loop-dev.devices in
    goes_on_write (IsMirror c.args.mirrors c.args.block) (now old) old mid (c.loop-dev.invariant.crashes tells) (g.met.D.Devices.sound tells c.loop-dev.devices)
    c.write_device.result c.loop-dev.dev c.args.block c.args.bytes.now (D.state c.write_device.new.devices) (c.loop-dev-test.true, refl) (c.write_device.ensures.call.disks tells)

pub returns-in_err-write_device-clause-elsewhere : goal.returns-in_err-write_device-clause-elsewhere
returns-in_err-write_device-clause-elsewhere g c tells =
    let D = g.D.Devices in
    elsewhere_more c.write_device.result (IsMirror c.args.mirrors c.args.block) c.loop-dev.dev c.args.block c.args.bytes.now (D.state c.args.devices.now) (D.state c.loop-dev.devices) (D.state c.write_device.new.devices)
    (c.loop-dev-test.true, refl) (c.loop-dev.invariant.elsewhere tells) (c.write_device.ensures.call.disks tells)

pub returns-in_err-write_device-clause-asks : goal.returns-in_err-write_device-clause-asks
returns-in_err-write_device-clause-asks g c tells opens =
    let D = g.D.Devices in
    hold_by_write opens (IsMirrorBlock c.args.mirrors c.args.block c.args.bytes.now) (D.state c.args.devices.now) (D.state c.loop-dev.devices) c.loop-dev.invariant.goes_on.later (c.loop-dev.invariant.asks tells opens)
    c.write_device.result c.loop-dev.dev c.args.block c.args.bytes.now (D.state c.write_device.new.devices) ((c.loop-dev-test.true, refl), refl) (c.write_device.ensures.call.disks tells)

pub returns-in_err-write_device-clause-goes_on : goal.returns-in_err-write_device-clause-goes_on
returns-in_err-write_device-clause-goes_on g c =
    let D = g.D.Devices in
    let mid = D.state c.loop-dev.devices in
    let new = D.state c.write_device.new.devices in
    let dev = c.loop-dev.dev in
    let block = c.args.block in
    let bytes = c.args.bytes.now in
    go_on_then (D.state c.args.devices.now) mid new c.loop-dev.invariant.goes_on
    (go_on_by_write D.tells dev c.write_device.result (MayBeWritten dev block bytes (now mid)) (Is (changed dev (written block bytes) (now mid))) mid new c.write_device.ensures.call c.write_device.ensures.sizes)
