-- A block that the device lacks is none, and another one is written.
use Rattle.std.proofs.Common.{◌<◌, List, ℕ, get_or, arith, subst}
use Rattle.dev_model.specs.Disk.{sizes_of}
use Rattle.dev_model.specs.Devices.{now}
use Rattle.dev_model.specs.FrameLaws.{go_on_by_write}
use Rattle.vol_format.proofs.Written.{if_there_is, if_there_not, writes_all, writes_alike, writes_by_write, wrote_none}
use Rattle.vol_format.proofs.writing.write_if_there.Goals as goal

pub returns-then-blocks-place-clause-writes : goal.returns-then-blocks-place-clause-writes
returns-then-blocks-place-clause-writes g c tells =
    let size : ℕ = get_or (g.D.Devices.state c.args.devices.now).sizes c.args.dev 0 in
    writes_all _ _ _ _ (wrote_none _ _ (if_there_not c.args.dev size c.args.place c.args.bytes.now (omega arith)))

pub returns-clause-writes : goal.returns-clause-writes
returns-clause-writes g c tells =
    let D = g.D.Devices in
    let size : ℕ = get_or (D.state c.args.devices.now).sizes c.args.dev 0 in
    let within : c.args.place < size = omega arith in
    let there : c.args.place < get_or (sizes_of (now (D.state c.args.devices.now))) c.args.dev 0 = subst (λ (sizes : List ℕ). c.args.place < get_or sizes c.args.dev 0) (g.met.D.Devices.agree tells c.args.devices.now) within in
    writes_alike _ _ _ _ _ (if_there_is c.args.dev size c.args.place c.args.bytes.now within)
    (writes_by_write _ c.args.dev c.args.place c.args.bytes.now _ _ (g.met.D.Devices.sound tells c.args.devices.now) there (c.write_device.ensures.call.disks tells))

pub returns-clause-goes_on : goal.returns-clause-goes_on
returns-clause-goes_on g c = go_on_by_write _ c.args.dev _ _ _ _ _ c.write_device.ensures.call c.write_device.ensures.sizes
