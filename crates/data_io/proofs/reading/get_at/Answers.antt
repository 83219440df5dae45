use Rattle.std.proofs.Common.{◌<◌, length, subst, sym, arith}
use Rattle.dev_model.specs.Devices.{FaultCounts}
use Rattle.dev_model.specs.FrameLaws.{only_read_by}
use Rattle.geometry.specs.Faults.{DeviceFailed}
use Rattle.data_io.proofs.PassedPlaces.{device_within, risen_once}
use Rattle.data_io.proofs.reading.get_at.Goals as goal

pub returns-in-Err-clause-got : goal.returns-in-Err-clause-got
returns-in-Err-clause-got g c there =
    let D = g.D.Devices in
    let old = D.state c.args.devices.now in
    let place = c.args.place.now in
    let within : place.dev < length old.sizes = device_within old.sizes place.dev place.block there in
    let counted = g.met.D.Devices.counted c.args.devices.now in
    subst (λ (faults : FaultCounts). DeviceFailed place.dev old.faults faults) (sym c.in-Err.ensures.call.faults)
    (risen_once old.faults.calls place.dev (omega (arith, within, c.has_place.ensures.few, counted.calls)))

pub returns-in-Err-clause-read : goal.returns-in-Err-clause-read
returns-in-Err-clause-read g c =
    let D = g.D.Devices in
    only_read_by D.tells c.args.place.now.dev c.read.result (D.state c.args.devices.now) (D.state c.read.new.self) c.read.ensures.call c.read.ensures.sizes
