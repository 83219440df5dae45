-- A block of a metadata device is written as it is prepared, and block 8 isn't.
use Rattle.std.proofs.Common.{◌<◌, List, ℕ, get_or, arith, subst}
use Rattle.dev_model.specs.Disk.{sizes_of}
use Rattle.dev_model.specs.Devices.{now}
use Rattle.geometry.specs.LayoutFacts.{has_places}
use Rattle.dev_model.specs.FrameLaws.{go_on_by_write}
use Rattle.vol_format.proofs.Written.{writes_all, writes_alike, writes_by_write, wrote_none, same_bytes_there, nothing_there}
use Rattle.vol_format.proofs.Preparing.{prepared_eight}
use Rattle.vol_format.proofs.writing.prepare_block.Goals as goal

pub returns-then-block-eq8-clause-writes : goal.returns-then-block-eq8-clause-writes
returns-then-block-eq8-clause-writes g c tells =
    writes_all _ _ _ _ (wrote_none _ _ (nothing_there c.args.dev c.args.block _ (prepared_eight c.args.layout.now c.args.fresh.now c.args.block c.if-block-eq8.true)))

pub write_device-requires-clause-place : goal.write_device-requires-clause-place
write_device-requires-clause-place g c =
    let has = has_places (g.D.Devices.state c.args.devices.now).sizes c.args.layout.now c.requires.fits in
    omega (arith, c.requires.last, has.least, has.room c.args.dev c.requires.device, has.longer c.args.dev c.requires.device)

pub returns-clause-writes : goal.returns-clause-writes
returns-clause-writes g c tells =
    let D = g.D.Devices in
    let has = has_places (D.state c.args.devices.now).sizes c.args.layout.now c.requires.fits in
    let place : c.args.block < get_or (D.state c.args.devices.now).sizes c.args.dev 0 = omega (arith, c.requires.last, has.least, has.room c.args.dev c.requires.device, has.longer c.args.dev c.requires.device) in
    let there : c.args.block < get_or (sizes_of (now (D.state c.args.devices.now))) c.args.dev 0 = subst (λ (sizes : List ℕ). c.args.block < get_or sizes c.args.dev 0) (g.met.D.Devices.agree tells c.args.devices.now) place in
    writes_alike _ _ _ _ _ (same_bytes_there c.args.dev c.args.block _ _ c.prepared_bytes-bytes.ensures.bytes)
    (writes_by_write _ c.args.dev c.args.block c.prepared_bytes-bytes.result.now _ _ (g.met.D.Devices.sound tells c.args.devices.now) there (c.write_device.ensures.call.disks tells))

pub returns-clause-goes_on : goal.returns-clause-goes_on
returns-clause-goes_on g c = go_on_by_write _ c.args.dev _ _ _ _ _ c.write_device.ensures.call c.write_device.ensures.sizes
