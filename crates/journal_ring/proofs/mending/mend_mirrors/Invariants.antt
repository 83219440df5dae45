use Rattle.std.proofs.Common.{◌≡◌, ◌<◌, ℕ, false, Some}
use Rattle.dev_model.specs.Disk.{as_read, block_at}
use Rattle.dev_model.specs.Devices.{now}
use Rattle.dev_model.specs.Frames.{AreOnlyRead, GoOn}
use Rattle.geometry.specs.Mirrors.{IsMirrorBlock}
use Rattle.journal_ring.specs.Mending.{Mends}
use Rattle.journal_ring.proofs.mending.mend_mirrors.Given as goal

abbrev pub invariant-loop-dev : goal.invariant-loop-dev
invariant-loop-dev g l =
    let D = g.D.Devices in
    let first = D.state l.fn.devices in
    let here = D.state l.devices in
    record {
      mends : D.tells → Mends (IsMirrorBlock l.fn.mirrors l.fn.block l.fn.bytes) first here;
      held : D.tells → (dev : ℕ) → dev < l.dev → block_at (as_read (now here)) dev l.fn.block ≡ Some l.fn.bytes;
      idle : l.has_written ≡ false → AreOnlyRead D.tells first here;
      goes_on : GoOn first here;
      faults : here.faults ≡ first.faults;
    }
