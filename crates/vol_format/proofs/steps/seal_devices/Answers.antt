-- Devices are sealed one after the other, and then flushed.
use Rattle.std.proofs.Common.{◌≡◌, ◌≤◌, ◌∙◌, List, ℕ, length, arith, subst, sym, ap, refl}
use Rattle.dev_model.specs.Devices.{now}
use Rattle.geometry.specs.LayoutFacts.{has_places}
use Rattle.vol_format.specs.Steps.{IsSuper, Wrote, on_first, super_copies}
use Rattle.dev_model.specs.FrameLaws.{go_on_here, go_on_then}
use Rattle.vol_format.proofs.Written.{disk_count, fewer_devices, no_device, ok_wrote, one_device_more, one_of_first, step_by_flushes, step_failed, wrote_also, wrote_none}
use Rattle.vol_format.proofs.steps.seal_devices.Goals as goal

pub loop-dev-init : goal.loop-dev-init
loop-dev-init g c =
    let D = g.D.Devices in
    let first = c.args.devices.now in
    record {
      wrote = λ tells. wrote_none _ _ (no_device (super_copies c.args.layout.now));
      goes_on = go_on_here (g.D.Devices.state c.args.devices.now);
      faults = refl;
    }

pub loop-dev-preserved : goal.loop-dev-preserved
loop-dev-preserved g c =
    let D = g.D.Devices in
    let first = c.args.devices.now in
    let so_far = c.loop-dev.invariant in
    let dev = c.loop-dev.dev in
    record {
      wrote = λ tells. wrote_also _ _ _ _ _ _ (one_device_more dev (super_copies c.args.layout.now)) (so_far.wrote tells) (ok_wrote _ _ _ _ (c.in_ok-seal_device.ensures.writes tells));
      goes_on = go_on_then _ _ _ so_far.goes_on c.seal_device.ensures.goes_on;
      faults = c.in_ok-seal_device.ensures.cause ∙ so_far.faults;
    }

pub returns-in_err-seal_device-clause-step : goal.returns-in_err-seal_device-clause-step
returns-in_err-seal_device-clause-step g c tells =
    let D = g.D.Devices in
    let first = c.args.devices.now in
    let so_far = c.loop-dev.invariant in
    let dev = c.loop-dev.dev in
    step_failed c.from_residual.result c.seal_device.result _ _ _ _ _ _ c.from_residual.ensures.0
    (fewer_devices dev (length c.args.layout.now.blocks) (super_copies c.args.layout.now) (omega (arith, c.loop-dev-test.true, (has_places (g.D.Devices.state c.args.devices.now).sizes c.args.layout.now c.requires.fits).devices)))
    (one_of_first dev (length c.args.layout.now.blocks) (super_copies c.args.layout.now) (omega (arith, c.loop-dev-test.true, (has_places (g.D.Devices.state c.args.devices.now).sizes c.args.layout.now c.requires.fits).devices)))
    (so_far.wrote tells) (c.seal_device.ensures.writes tells)

pub returns-clause-step : goal.returns-clause-step
returns-clause-step g c tells =
    let D = g.D.Devices in
    let first = c.args.devices.now in
    let new = D.state c.flush_devices.new.devices in
    let same : c.loop-dev.dev ≡ (length c.args.layout.now.blocks) = omega (arith, c.loop-dev-test.false, (has_places (g.D.Devices.state c.args.devices.now).sizes c.args.layout.now c.requires.fits).devices) in
    let few : length (now new) ≤ c.count-count.result = omega (arith, disk_count (now new), ap (λ (sizes : List ℕ). length sizes) (g.met.D.Devices.agree tells c.flush_devices.new.devices), ap (λ (sizes : List ℕ). length sizes) c.flush_devices.ensures.goes_on.sizes, ap (λ (sizes : List ℕ). length sizes) c.loop-dev.invariant.goes_on.sizes) in
    step_by_flushes c.flush_devices.result _ _ (D.state c.loop-dev.devices) new c.count-count.result
    (subst (λ n. Wrote (on_first n (super_copies c.args.layout.now)) (D.state first) (D.state c.loop-dev.devices)) same (c.loop-dev.invariant.wrote tells))
    few (c.flush_devices.ensures.crashes tells) (c.flush_devices.ensures.reads tells) (c.flush_devices.ensures.settled tells) (c.flush_devices.ensures.rest tells) (c.flush_devices.ensures.asks tells)

pub bounds-firsts-dev : goal.bounds-firsts-dev
bounds-firsts-dev g c = omega (arith, c.requires.firsts.count, (has_places (g.D.Devices.state c.args.devices.now).sizes c.args.layout.now c.requires.fits).devices)

pub bounds-seconds-dev : goal.bounds-seconds-dev
bounds-seconds-dev g c = omega (arith, c.requires.seconds.count, (has_places (g.D.Devices.state c.args.devices.now).sizes c.args.layout.now c.requires.fits).devices)

pub seal_device-requires-clause-first : goal.seal_device-requires-clause-first
seal_device-requires-clause-first g c =
    subst (λ (bytes : List ℕ). IsSuper c.args.layout.now c.loop-dev.dev 0 bytes) (sym (c.as_slice-first.ensures ∙ c.index-firsts-dev.is))
    (c.requires.firsts.each c.loop-dev.dev (omega (arith, c.requires.firsts.count, (has_places (g.D.Devices.state c.args.devices.now).sizes c.args.layout.now c.requires.fits).devices)) c.index-firsts-dev.result)

pub seal_device-requires-clause-second : goal.seal_device-requires-clause-second
seal_device-requires-clause-second g c =
    subst (λ (bytes : List ℕ). IsSuper c.args.layout.now c.loop-dev.dev 8 bytes) (sym (c.as_slice-second.ensures ∙ c.index-seconds-dev.is))
    (c.requires.seconds.each c.loop-dev.dev (omega (arith, c.requires.seconds.count, (has_places (g.D.Devices.state c.args.devices.now).sizes c.args.layout.now c.requires.fits).devices)) c.index-seconds-dev.result)
