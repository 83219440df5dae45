-- Metadata devices are prepared one after the other, and then all are flushed.
use Rattle.std.proofs.Common.{◌≡◌, ◌<◌, ◌≤◌, ◌∙◌, List, ℕ, length, arith, subst, ap, refl}
use Rattle.dev_model.specs.Devices.{now}
use Rattle.geometry.specs.LayoutFacts.{has_places}
use Rattle.vol_format.specs.Formatting.{prepared}
use Rattle.vol_format.specs.Steps.{Wrote, on_first}
use Rattle.dev_model.specs.FrameLaws.{go_on_here, go_on_then}
use Rattle.geometry.specs.Faults.{fault_device}
use Rattle.geometry.specs.FaultLaws.{handed_named, named_below}
use Rattle.vol_format.proofs.Written.{disk_count, fewer_devices, no_device, ok_wrote, one_device_more, one_of_first, step_by_flushes, step_failed, wrote_also, wrote_none}
use Rattle.vol_format.proofs.steps.prepare_devices.Goals as goal

pub loop-dev-init : goal.loop-dev-init
loop-dev-init g c =
    let D = g.D.Devices in
    let first = c.args.devices.now in
    record {
      wrote = λ tells. wrote_none _ _ (no_device (λ (dev : ℕ). prepared c.args.layout.now c.args.fresh.now));
      goes_on = go_on_here (g.D.Devices.state c.args.devices.now);
      faults = refl;
    }

pub loop-dev-preserved : goal.loop-dev-preserved
loop-dev-preserved g c =
    let D = g.D.Devices in
    let first = c.args.devices.now in
    let so_far = c.loop-dev.invariant in
    let dev = c.loop-dev.dev in
    record {
      wrote = λ tells. wrote_also _ _ _ _ _ _ (one_device_more dev (λ (dev : ℕ). prepared c.args.layout.now c.args.fresh.now)) (so_far.wrote tells) (ok_wrote _ _ _ _ (c.in_ok-prepare_device.ensures.writes tells));
      goes_on = go_on_then _ _ _ so_far.goes_on c.prepare_device.ensures.goes_on;
      faults = c.in_ok-prepare_device.ensures.cause ∙ so_far.faults;
    }

pub returns-in_err-prepare_device-clause-step : goal.returns-in_err-prepare_device-clause-step
returns-in_err-prepare_device-clause-step g c tells =
    let D = g.D.Devices in
    let first = c.args.devices.now in
    let so_far = c.loop-dev.invariant in
    let dev = c.loop-dev.dev in
    step_failed c.from_residual.result c.prepare_device.result _ _ _ _ _ _ c.from_residual.ensures.0
    (fewer_devices dev c.args.layout.now.metadata_replicas (λ (dev : ℕ). prepared c.args.layout.now c.args.fresh.now) (omega (arith, c.loop-dev-test.true)))
    (one_of_first dev c.args.layout.now.metadata_replicas (λ (dev : ℕ). prepared c.args.layout.now c.args.fresh.now) (omega (arith, c.loop-dev-test.true)))
    (so_far.wrote tells) (c.prepare_device.ensures.writes tells)

pub returns-clause-step : goal.returns-clause-step
returns-clause-step g c tells =
    let D = g.D.Devices in
    let first = c.args.devices.now in
    let new = D.state c.flush_devices.new.devices in
    let same : c.loop-dev.dev ≡ c.args.layout.now.metadata_replicas = omega (arith, c.loop-dev-test.false) in
    let few : length (now new) ≤ c.count-count.result = omega (arith, disk_count (now new), ap (λ (sizes : List ℕ). length sizes) (g.met.D.Devices.agree tells c.flush_devices.new.devices), ap (λ (sizes : List ℕ). length sizes) c.flush_devices.ensures.goes_on.sizes, ap (λ (sizes : List ℕ). length sizes) c.loop-dev.invariant.goes_on.sizes) in
    step_by_flushes c.flush_devices.result _ _ (D.state c.loop-dev.devices) new c.count-count.result
    (subst (λ n. Wrote (on_first n (λ (dev : ℕ). prepared c.args.layout.now c.args.fresh.now)) (D.state first) (D.state c.loop-dev.devices)) same (c.loop-dev.invariant.wrote tells))
    few (c.flush_devices.ensures.crashes tells) (c.flush_devices.ensures.reads tells) (c.flush_devices.ensures.settled tells) (c.flush_devices.ensures.rest tells) (c.flush_devices.ensures.asks tells)

pub prepare_device-requires-clause-device : goal.prepare_device-requires-clause-device
prepare_device-requires-clause-device g c = omega (arith, c.loop-dev-test.true, (has_places (g.D.Devices.state c.args.devices.now).sizes c.args.layout.now c.requires.fits).mirrors, ap (λ (sizes : List ℕ). length sizes) c.loop-dev.invariant.goes_on.sizes)

pub returns-in_err-prepare_device-clause-device : goal.returns-in_err-prepare_device-clause-device
returns-in_err-prepare_device-clause-device g c =
    let sizes = (g.D.Devices.state c.args.devices.now).sizes in
    let has = has_places sizes c.args.layout.now c.requires.fits in
    handed_named c.from_residual.result c.in_err-prepare_device.field-0.0 (λ dev. dev < length sizes) c.from_residual.ensures.1
    (named_below (fault_device c.in_err-prepare_device.field-0.0) c.loop-dev.dev (length sizes) (omega (arith, c.loop-dev-test.true, has.mirrors)) c.in_err-prepare_device.ensures.device)
