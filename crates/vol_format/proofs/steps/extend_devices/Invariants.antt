-- So far the first devices were extended.
use Rattle.std.proofs.Common.{◌≡◌, ◌<◌, ◌≤◌, ℕ, length}
use Rattle.std.specs.Prelude.{slice_index}
use Rattle.vol_format.specs.Steps.{Wrote, extension, on_first}
use Rattle.vol_format.proofs.steps.extend_devices.Given as goal

abbrev pub invariant-loop-dev : goal.invariant-loop-dev
invariant-loop-dev g l =
    let D = g.D.Devices in
    let first = l.fn.devices in
    record {
      wrote : D.tells → Wrote (on_first l.dev ((λ dev. extension (slice_index (D.state first).sizes dev) (slice_index l.fn.layout.blocks dev)))) (D.state first) (D.state l.devices);
      faults : (D.state l.devices).faults ≡ (D.state first).faults;
      count : length (D.state l.devices).sizes ≡ length (D.state first).sizes;
      others : (other : ℕ) → l.dev ≤ other → slice_index (D.state l.devices).sizes other ≡ slice_index (D.state first).sizes other;
      room : (other : ℕ) → other < l.dev → slice_index l.fn.layout.blocks other ≤ slice_index (D.state l.devices).sizes other;
      moment : (D.state first).moment ≤ (D.state l.devices).moment;
    }
