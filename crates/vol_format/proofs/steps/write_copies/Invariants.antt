-- So far the block was written on the first devices.
use Rattle.std.proofs.Common.{◌≡◌}
use Rattle.std.specs.Prelude.{slice_index}
use Rattle.dev_model.specs.Frames.{GoOn}
use Rattle.vol_format.specs.Steps.{Wrote, if_there, on_first}
use Rattle.vol_format.proofs.steps.write_copies.Given as goal

abbrev pub invariant-loop-dev : goal.invariant-loop-dev
invariant-loop-dev g l =
    let D = g.D.Devices in
    let first = l.fn.devices in
    record {
      wrote : D.tells → Wrote (on_first l.dev ((λ dev. if_there (slice_index (D.state first).sizes dev) (slice_index l.fn.places dev) l.fn.bytes))) (D.state first) (D.state l.devices);
      goes_on : GoOn (D.state first) (D.state l.devices);
      faults : (D.state l.devices).faults ≡ (D.state first).faults;
    }
