use Rattle.std.proofs.Common.{◌<◌, ℕ, List, length, sym, subst, arith}
use Rattle.dev_model.specs.Devices.{IsPlace}
use Rattle.geometry.specs.LayoutFacts.{area_is_place, has_places}
use Rattle.geometry.specs.Faults.{fault_device}
use Rattle.geometry.specs.FaultLaws.{handed_named, named_below}
use Rattle.geometry.proofs.sessions.read_session.Goals as goal

pub read_device-requires : goal.read_device-requires
read_device-requires g c =
    let sizes = (g.D.Devices.state c.args.devices.now).sizes in
    let has = has_places sizes c.args.layout.now c.requires in
    subst (λ (s : List ℕ). IsPlace s c.loop-dev.dev 5) (sym c.loop-dev.invariant.read.sizes) (area_is_place sizes c.args.layout.now c.requires c.loop-dev.dev 5 (omega (arith, has.mirrors)) (omega (arith, has.least)))

pub returns-in_err-named-clause-device : goal.returns-in_err-named-clause-device
returns-in_err-named-clause-device g c =
    let sizes = (g.D.Devices.state c.args.devices.now).sizes in
    let has = has_places sizes c.args.layout.now c.requires in
    handed_named c.from_residual.result c.in_err-named.field-0.0 (λ dev. dev < length sizes) c.from_residual.ensures.1
    (named_below (fault_device c.in_err-named.field-0.0) c.loop-dev.dev (length sizes) (omega (arith, c.loop-dev-test.true, has.mirrors)) c.in_err-named.ensures.device)
