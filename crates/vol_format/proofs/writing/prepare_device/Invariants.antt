-- So far the first blocks were written.
use Rattle.std.proofs.Common.{◌≡◌, ◌≤◌}
use Rattle.vol_format.specs.Formatting.{prepared}
use Rattle.dev_model.specs.Frames.{GoOn}
use Rattle.vol_format.specs.Steps.{Wrote, in_first, on_device}
use Rattle.vol_format.proofs.writing.prepare_device.Given as goal

abbrev pub invariant-loop-block : goal.invariant-loop-block
invariant-loop-block g l =
    let D = g.D.Devices in
    let first = l.fn.devices in
    record {
      started : 1 ≤ l.block;
      wrote : D.tells → Wrote (on_device l.fn.dev (in_first l.block (prepared l.fn.layout l.fn.fresh))) (D.state first) (D.state l.devices);
      goes_on : GoOn (D.state first) (D.state l.devices);
      faults : (D.state l.devices).faults ≡ (D.state first).faults;
    }
