-- A block is written on one device after the other, and then all are flushed.
use Rattle.std.proofs.Common.{◌≡◌, ◌≤◌, ◌∙◌, List, ℕ, length, get_or, arith, subst, ap, refl}
use Rattle.dev_model.specs.Devices.{now}
use Rattle.vol_format.specs.Steps.{Writes, Wrote, if_there, on_device, on_first}
use Rattle.dev_model.specs.FrameLaws.{go_on_here, go_on_then}
use Rattle.vol_format.proofs.Written.{disk_count, fewer_devices, no_device, ok_wrote, one_device_more, one_of_first, step_by_flushes, step_failed, wrote_also, wrote_none}
use Rattle.vol_format.proofs.steps.write_copies.Goals as goal

pub loop-dev-init : goal.loop-dev-init
loop-dev-init g c =
    let D = g.D.Devices in
    let first = c.args.devices.now in
    record {
      wrote = λ tells. wrote_none _ _ (no_device (λ (dev : ℕ). if_there (get_or (D.state first).sizes dev 0) (get_or c.args.places.now dev 0) c.args.bytes.now));
      goes_on = go_on_here (g.D.Devices.state c.args.devices.now);
      faults = refl;
    }

pub loop-dev-preserved : goal.loop-dev-preserved
loop-dev-preserved g c =
    let D = g.D.Devices in
    let first = c.args.devices.now in
    let so_far = c.loop-dev.invariant in
    let dev = c.loop-dev.dev in
    record {
      wrote = λ tells. wrote_also _ _ _ _ _ _ (one_device_more dev (λ (dev : ℕ). if_there (get_or (D.state first).sizes dev 0) (get_or c.args.places.now dev 0) c.args.bytes.now)) (so_far.wrote tells) (subst (λ (sizes : List ℕ). Wrote (on_device dev (if_there (get_or sizes dev 0) (get_or c.args.places.now dev 0) c.args.bytes.now)) (D.state c.loop-dev.devices) (D.state c.write_if_there.new.devices)) so_far.goes_on.sizes (ok_wrote _ _ _ _ (c.in_ok-write_if_there.ensures.writes tells)));
      goes_on = go_on_then _ _ _ so_far.goes_on c.write_if_there.ensures.goes_on;
      faults = c.in_ok-write_if_there.ensures.cause ∙ so_far.faults;
    }

pub returns-in_err-write_if_there-clause-step : goal.returns-in_err-write_if_there-clause-step
returns-in_err-write_if_there-clause-step g c tells =
    let D = g.D.Devices in
    let first = c.args.devices.now in
    let so_far = c.loop-dev.invariant in
    let dev = c.loop-dev.dev in
    step_failed c.from_residual.result c.write_if_there.result _ _ _ _ _ _ c.from_residual.ensures.0
    (fewer_devices dev (length c.args.places.now) (λ (dev : ℕ). if_there (get_or (D.state first).sizes dev 0) (get_or c.args.places.now dev 0) c.args.bytes.now) (omega (arith, c.loop-dev-test.true)))
    (one_of_first dev (length c.args.places.now) (λ (dev : ℕ). if_there (get_or (D.state first).sizes dev 0) (get_or c.args.places.now dev 0) c.args.bytes.now) (omega (arith, c.loop-dev-test.true)))
    (so_far.wrote tells) (subst (λ (sizes : List ℕ). Writes c.write_if_there.result (on_device dev (if_there (get_or sizes dev 0) (get_or c.args.places.now dev 0) c.args.bytes.now)) (D.state c.loop-dev.devices) (D.state c.write_if_there.new.devices)) so_far.goes_on.sizes (c.write_if_there.ensures.writes tells))

pub returns-clause-step : goal.returns-clause-step
returns-clause-step g c tells =
    let D = g.D.Devices in
    let first = c.args.devices.now in
    let new = D.state c.flush_devices.new.devices in
    let same : c.loop-dev.dev ≡ (length c.args.places.now) = omega (arith, c.loop-dev-test.false) in
    let few : length (now new) ≤ c.count-all.result = omega (arith, disk_count (now new), ap (λ (sizes : List ℕ). length sizes) (g.met.D.Devices.agree tells c.flush_devices.new.devices), ap (λ (sizes : List ℕ). length sizes) c.flush_devices.ensures.goes_on.sizes, ap (λ (sizes : List ℕ). length sizes) c.loop-dev.invariant.goes_on.sizes) in
    step_by_flushes c.flush_devices.result _ _ (D.state c.loop-dev.devices) new c.count-all.result
    (subst (λ n. Wrote (on_first n (λ (dev : ℕ). if_there (get_or (D.state first).sizes dev 0) (get_or c.args.places.now dev 0) c.args.bytes.now)) (D.state first) (D.state c.loop-dev.devices)) same (c.loop-dev.invariant.wrote tells))
    few (c.flush_devices.ensures.crashes tells) (c.flush_devices.ensures.reads tells) (c.flush_devices.ensures.settled tells) (c.flush_devices.ensures.rest tells) (c.flush_devices.ensures.asks tells)
