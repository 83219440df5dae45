-- Devices are extended one after the other, and then flushed.
use Rattle.std.proofs.Common.{◌≡◌, ◌<◌, ◌≤◌, ◌∙◌, List, ℕ, length, get_or, arith, subst, sym, ap, refl, ⊎_elim}
use Rattle.std.proofs.lemmas.Bool.{cases_lt}
use Rattle.dev_model.specs.Devices.{now}
use Rattle.vol_format.specs.Steps.{Writes, Wrote, extension, on_device, on_first}
use Rattle.vol_format.proofs.Written.{disk_count, fewer_devices, no_device, ok_wrote, one_device_more, one_of_first, step_by_flushes, step_failed, wrote_also, wrote_none}
use Rattle.vol_format.proofs.steps.extend_devices.Goals as goal

pub loop-dev-init : goal.loop-dev-init
loop-dev-init g c =
    let D = g.D.Devices in
    let first = c.args.devices.now in
    record {
      wrote = λ tells. wrote_none _ _ (no_device (λ (dev : ℕ). extension (get_or (D.state first).sizes dev 0) (get_or c.args.layout.now.blocks dev 0)));
      faults = refl;
      count = refl;
      others = λ other le. refl;
      room = λ other le. absurd (omega (arith, le));
      moment = omega arith;
    }

pub loop-dev-preserved : goal.loop-dev-preserved
loop-dev-preserved g c =
    let D = g.D.Devices in
    let first = c.args.devices.now in
    let so_far = c.loop-dev.invariant in
    let dev = c.loop-dev.dev in
    record {
      wrote = λ tells. wrote_also _ _ _ _ _ _ (one_device_more dev (λ (dev : ℕ). extension (get_or (D.state first).sizes dev 0) (get_or c.args.layout.now.blocks dev 0))) (so_far.wrote tells) (subst (λ (size : ℕ). Wrote (on_device dev (extension size (get_or c.args.layout.now.blocks dev 0))) (D.state c.loop-dev.devices) (D.state c.extend_device.new.devices)) (so_far.others dev (omega arith))
          (subst (λ (blocks : List ℕ). Wrote (on_device dev (extension (get_or ((D.state c.loop-dev.devices).sizes) dev 0) (get_or blocks dev 0))) (D.state c.loop-dev.devices) (D.state c.extend_device.new.devices)) c.as_slice-blocks.ensures (ok_wrote _ _ _ _ (c.in_ok-extend_device.ensures.writes tells))));
      faults = c.in_ok-extend_device.ensures.cause ∙ so_far.faults;
      count = c.extend_device.ensures.count ∙ so_far.count;
      others = λ other le. c.extend_device.ensures.others other (λ e. omega (arith, e, le)) ∙ so_far.others other (omega (arith, le));
      room = λ other le. ⊎_elim
          (λ (earlier : other < dev). subst (λ size. get_or c.args.layout.now.blocks other 0 ≤ size) (sym (c.extend_device.ensures.others other (λ e. omega (arith, e, earlier)))) (so_far.room other earlier))
          (λ (last : dev ≤ other).
          let same : dev ≡ other = omega (arith, le, last) in
          subst (λ n. get_or c.args.layout.now.blocks n 0 ≤ get_or (D.state c.extend_device.new.devices).sizes n 0) same
          (subst (λ (blocks : List ℕ). get_or blocks dev 0 ≤ get_or (D.state c.extend_device.new.devices).sizes dev 0) c.as_slice-blocks.ensures c.in_ok-extend_device.ensures.room))
          (cases_lt other dev);
      moment = omega (arith, so_far.moment, c.extend_device.ensures.moment);
    }

pub returns-in_err-extend_device-clause-step : goal.returns-in_err-extend_device-clause-step
returns-in_err-extend_device-clause-step g c tells =
    let D = g.D.Devices in
    let first = c.args.devices.now in
    let so_far = c.loop-dev.invariant in
    let dev = c.loop-dev.dev in
    step_failed c.from_residual.result c.extend_device.result _ _ _ _ _ _ c.from_residual.ensures.0
    (fewer_devices dev (length c.args.layout.now.blocks) (λ (dev : ℕ). extension (get_or (D.state first).sizes dev 0) (get_or c.args.layout.now.blocks dev 0)) (omega (arith, c.loop-dev-test.true)))
    (one_of_first dev (length c.args.layout.now.blocks) (λ (dev : ℕ). extension (get_or (D.state first).sizes dev 0) (get_or c.args.layout.now.blocks dev 0)) (omega (arith, c.loop-dev-test.true)))
    (so_far.wrote tells) (subst (λ (size : ℕ). Writes c.extend_device.result (on_device dev (extension size (get_or c.args.layout.now.blocks dev 0))) (D.state c.loop-dev.devices) (D.state c.extend_device.new.devices)) (so_far.others dev (omega arith))
    (subst (λ (blocks : List ℕ). Writes c.extend_device.result (on_device dev (extension (get_or ((D.state c.loop-dev.devices).sizes) dev 0) (get_or blocks dev 0))) (D.state c.loop-dev.devices) (D.state c.extend_device.new.devices)) c.as_slice-blocks.ensures (c.extend_device.ensures.writes tells)))

pub returns-clause-step : goal.returns-clause-step
returns-clause-step g c tells =
    let D = g.D.Devices in
    let first = c.args.devices.now in
    let new = D.state c.flush_devices.new.devices in
    let same : c.loop-dev.dev ≡ (length c.args.layout.now.blocks) = omega (arith, c.loop-dev-test.false) in
    let few : length (now new) ≤ c.count-count.result = omega (arith, disk_count (now new), ap (λ (sizes : List ℕ). length sizes) (g.met.D.Devices.agree tells c.flush_devices.new.devices), ap (λ (sizes : List ℕ). length sizes) c.flush_devices.ensures.goes_on.sizes, c.loop-dev.invariant.count) in
    step_by_flushes c.flush_devices.result _ _ (D.state c.loop-dev.devices) new c.count-count.result
    (subst (λ n. Wrote (on_first n (λ (dev : ℕ). extension (get_or (D.state first).sizes dev 0) (get_or c.args.layout.now.blocks dev 0))) (D.state first) (D.state c.loop-dev.devices)) same (c.loop-dev.invariant.wrote tells))
    few (c.flush_devices.ensures.crashes tells) (c.flush_devices.ensures.reads tells) (c.flush_devices.ensures.settled tells) (c.flush_devices.ensures.rest tells) (c.flush_devices.ensures.asks tells)
