-- So far the first devices were sealed.
use Rattle.std.proofs.Common.{◌≡◌}
use Rattle.dev_model.specs.Frames.{GoOn}
use Rattle.vol_format.specs.Steps.{Wrote, on_first, super_copies}
use Rattle.vol_format.proofs.steps.seal_devices.Given as goal

abbrev pub invariant-loop-dev : goal.invariant-loop-dev
invariant-loop-dev g l =
    let D = g.D.Devices in
    let first = l.fn.devices in
    record {
      wrote : D.tells → Wrote (on_first l.dev ((super_copies l.fn.layout))) (D.state first) (D.state l.devices);
      goes_on : GoOn (D.state first) (D.state l.devices);
      faults : (D.state l.devices).faults ≡ (D.state first).faults;
    }
