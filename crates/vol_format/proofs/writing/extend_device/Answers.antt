-- A device that is long enough stays, and another one is extended.
use Rattle.std.proofs.Common.{◌<◌, ◌≤◌, List, ℕ, length, get_or, arith, subst, sym, ap}
use Rattle.dev_model.specs.Disk.{sizes_of}
use Rattle.dev_model.specs.Devices.{now}
use Rattle.vol_format.specs.Steps.{Writes, extension, on_device}
use Rattle.vol_format.proofs.Written.{writes_all, wrote_none, disk_count, as_ok, as_err}
use Rattle.vol_format.proofs.Extended.{nothing_to_extend, writes_by_extend}
use Rattle.vol_format.proofs.writing.extend_device.Goals as goal

pub returns-then-blocks-clause-writes : goal.returns-then-blocks-clause-writes
returns-then-blocks-clause-writes g c tells =
    writes_all _ _ _ _ (wrote_none _ _ (nothing_to_extend c.args.dev (get_or (g.D.Devices.state c.args.devices.now).sizes c.args.dev 0) c.args.blocks (omega arith)))

pub returns-in-Ok-clause-writes : goal.returns-in-Ok-clause-writes
returns-in-Ok-clause-writes g c tells =
    let D = g.D.Devices in
    let agree = g.met.D.Devices.agree tells c.args.devices.now in
    let old = D.state c.args.devices.now in
    let within : c.args.dev < length (now old) = omega (arith, c.requires.device, ap (λ (sizes : List ℕ). length sizes) agree, disk_count (now old)) in
    let longer : get_or (sizes_of (now old)) c.args.dev 0 ≤ c.args.blocks = omega (arith, c.if-blocks.false, c.blocks-2.ensures, ap (λ (sizes : List ℕ). get_or sizes c.args.dev 0) agree) in
    as_ok c.extend.result _ _ _ _ _ c.in-Ok.is
    (subst (λ (sizes : List ℕ). Writes c.extend.result (on_device c.args.dev (extension (get_or sizes c.args.dev 0) c.args.blocks)) old (D.state c.extend.new.self)) (sym agree)
    (writes_by_extend c.extend.result c.args.dev c.args.blocks old (D.state c.extend.new.self) (g.met.D.Devices.sound tells c.args.devices.now) within longer (c.extend.ensures.call.disks tells)))

pub returns-in-Err-clause-writes : goal.returns-in-Err-clause-writes
returns-in-Err-clause-writes g c tells =
    let D = g.D.Devices in
    let agree = g.met.D.Devices.agree tells c.args.devices.now in
    let old = D.state c.args.devices.now in
    let within : c.args.dev < length (now old) = omega (arith, c.requires.device, ap (λ (sizes : List ℕ). length sizes) agree, disk_count (now old)) in
    let longer : get_or (sizes_of (now old)) c.args.dev 0 ≤ c.args.blocks = omega (arith, c.if-blocks.false, c.blocks-2.ensures, ap (λ (sizes : List ℕ). get_or sizes c.args.dev 0) agree) in
    as_err c.extend.result _ _ _ _
    (subst (λ (sizes : List ℕ). Writes c.extend.result (on_device c.args.dev (extension (get_or sizes c.args.dev 0) c.args.blocks)) old (D.state c.extend.new.self)) (sym agree)
    (writes_by_extend c.extend.result c.args.dev c.args.blocks old (D.state c.extend.new.self) (g.met.D.Devices.sound tells c.args.devices.now) within longer (c.extend.ensures.call.disks tells)))
