-- Both superblock copies of a device are written.
use Rattle.std.proofs.Common.{◌<◌, ◌∙◌, List, ℕ, Some, get_or, arith, subst, sym, ap}
use Rattle.dev_model.specs.Disk.{sizes_of}
use Rattle.dev_model.specs.Devices.{now}
use Rattle.geometry.specs.LayoutFacts.{area_is_place}
use Rattle.dev_model.specs.FrameLaws.{go_on_by_write, go_on_then}
use Rattle.vol_format.proofs.Written.{same_bytes_there, writes_alike, writes_by_write, failed_by, writes_then, wrote_by_ok}
use Rattle.vol_format.proofs.Sealing.{first_of_copies, two_copies}
use Rattle.vol_format.proofs.writing.seal_device.Goals as goal

pub write_device-requires-clause-place : goal.write_device-requires-clause-place
write_device-requires-clause-place g c = area_is_place (g.D.Devices.state c.args.devices.now).sizes c.args.layout.now c.requires.fits c.args.dev 0 c.requires.device (omega arith)

pub write_device-requires-2-clause-place : goal.write_device-requires-2-clause-place
write_device-requires-2-clause-place g c =
    subst (λ (sizes : List ℕ). 8 < get_or sizes c.args.dev 0) (sym c.write_device.ensures.sizes) (area_is_place (g.D.Devices.state c.args.devices.now).sizes c.args.layout.now c.requires.fits c.args.dev 8 c.requires.device (omega arith))

pub returns-in_err-write_device-clause-writes : goal.returns-in_err-write_device-clause-writes
returns-in_err-write_device-clause-writes g c tells =
    let D = g.D.Devices in
    let place : 0 < get_or (D.state c.args.devices.now).sizes c.args.dev 0 = area_is_place (D.state c.args.devices.now).sizes c.args.layout.now c.requires.fits c.args.dev 0 c.requires.device (omega arith) in
    let there : 0 < get_or (sizes_of (now (D.state c.args.devices.now))) c.args.dev 0 = subst (λ (sizes : List ℕ). 0 < get_or sizes c.args.dev 0) (g.met.D.Devices.agree tells c.args.devices.now) place in
    failed_by c.from_residual.result c.write_device.result _ _ _ _ c.from_residual.ensures.0 (first_of_copies c.args.layout.now c.args.dev)
    (writes_alike _ _ _ _ _ (same_bytes_there c.args.dev 0 _ _ (ap Some c.requires.first.encoded))
    (writes_by_write c.write_device.result c.args.dev 0 c.args.first.now _ _ (g.met.D.Devices.sound tells c.args.devices.now) there (c.write_device.ensures.call.disks tells)))

pub returns-clause-writes : goal.returns-clause-writes
returns-clause-writes g c tells =
    let D = g.D.Devices in
    let mid = c.write_device.new.devices in
    let place : 0 < get_or (D.state c.args.devices.now).sizes c.args.dev 0 = area_is_place (D.state c.args.devices.now).sizes c.args.layout.now c.requires.fits c.args.dev 0 c.requires.device (omega arith) in
    let there : 0 < get_or (sizes_of (now (D.state c.args.devices.now))) c.args.dev 0 = subst (λ (sizes : List ℕ). 0 < get_or sizes c.args.dev 0) (g.met.D.Devices.agree tells c.args.devices.now) place in
    let place_8 : 8 < get_or (D.state c.args.devices.now).sizes c.args.dev 0 = area_is_place (D.state c.args.devices.now).sizes c.args.layout.now c.requires.fits c.args.dev 8 c.requires.device (omega arith) in
    let there_8 : 8 < get_or (sizes_of (now (D.state mid))) c.args.dev 0 = subst (λ (sizes : List ℕ). 8 < get_or sizes c.args.dev 0) (sym c.write_device.ensures.sizes ∙ g.met.D.Devices.agree tells mid) place_8 in
    writes_then c.write_device-2.result _ _ _ _ (D.state mid) _ (two_copies c.args.layout.now c.args.dev)
    (wrote_by_ok c.write_device.result _ _ _ _ c.in_ok-write_device.was
    (writes_alike _ _ _ _ _ (same_bytes_there c.args.dev 0 _ _ (ap Some c.requires.first.encoded))
    (writes_by_write c.write_device.result c.args.dev 0 c.args.first.now _ _ (g.met.D.Devices.sound tells c.args.devices.now) there (c.write_device.ensures.call.disks tells))))
    (writes_alike _ _ _ _ _ (same_bytes_there c.args.dev 8 _ _ (ap Some c.requires.second.encoded))
    (writes_by_write c.write_device-2.result c.args.dev 8 c.args.second.now _ _ (g.met.D.Devices.sound tells mid) there_8 (c.write_device-2.ensures.call.disks tells)))

pub returns-in_err-write_device-clause-goes_on : goal.returns-in_err-write_device-clause-goes_on
returns-in_err-write_device-clause-goes_on g c = go_on_by_write _ c.args.dev _ _ _ _ _ c.write_device.ensures.call c.write_device.ensures.sizes

pub returns-clause-goes_on : goal.returns-clause-goes_on
returns-clause-goes_on g c = go_on_then _ _ _ (go_on_by_write _ c.args.dev _ _ _ _ _ c.write_device.ensures.call c.write_device.ensures.sizes) (go_on_by_write _ c.args.dev _ _ _ _ _ c.write_device-2.ensures.call c.write_device-2.ensures.sizes)
