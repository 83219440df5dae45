use Rattle.std.proofs.Common.{◌≡◌, ◌<◌, ℕ, Bool, List, Some}
use Rattle.dev_model.specs.Disk.{as_read, block_at}
use Rattle.dev_model.specs.Devices.{now}
use Rattle.dev_model.specs.Crashes.{EachCrash, IsCrashImageBut, SameBut}
use Rattle.dev_model.specs.Frames.{GoOn}
use Rattle.dev_model.specs.HeldBlocks.{HoldOnly}
use Rattle.geometry.specs.Mirrors.{IsMirror, IsMirrorBlock}
use Rattle.geometry.proofs.mirrors.write_mirrors.Given as goal

abbrev pub invariant-loop-dev : goal.invariant-loop-dev
invariant-loop-dev g l =
    let D = g.D.Devices in
    let first = l.fn.devices in
    record {
      crashes : D.tells → EachCrash (λ _ _ image. IsCrashImageBut (IsMirror l.fn.mirrors l.fn.block) (now (D.state first)) image) (D.state first) (D.state l.devices);
      written : D.tells → (dev : ℕ) → dev < l.dev → block_at (as_read (now (D.state l.devices))) dev l.fn.block ≡ Some l.fn.bytes;
      elsewhere : D.tells → SameBut (IsMirror l.fn.mirrors l.fn.block) (as_read (now (D.state first))) (as_read (now (D.state l.devices)));
      asks : D.tells → (opens : List ℕ → Bool) → HoldOnly opens (IsMirrorBlock l.fn.mirrors l.fn.block l.fn.bytes) (D.state first) (D.state l.devices);
      goes_on : GoOn (D.state first) (D.state l.devices);
      faults : (D.state l.devices).faults ≡ (D.state first).faults;
    }
