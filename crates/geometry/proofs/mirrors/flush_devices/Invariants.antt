use Rattle.std.proofs.Common.{◌≡◌, ◌<◌, ℕ, Bool, List}
use Rattle.dev_model.specs.Disk.{IsCrashImage, as_read, block_at}
use Rattle.dev_model.specs.Devices.{now}
use Rattle.dev_model.specs.PlaceLaws.{IsSettled}
use Rattle.dev_model.specs.Crashes.{EachCrash}
use Rattle.dev_model.specs.Frames.{GoOn}
use Rattle.dev_model.specs.HeldBlocks.{HoldOnly}
use Rattle.geometry.specs.Mirrors.{AreAtRest, NoBlock}
use Rattle.geometry.proofs.mirrors.flush_devices.Given as goal

abbrev pub invariant-loop-dev : goal.invariant-loop-dev
invariant-loop-dev g l =
    let D = g.D.Devices in
    let first = l.fn.devices in
    record {
      crashes : D.tells → EachCrash (λ _ _ image. IsCrashImage (now (D.state first)) image) (D.state first) (D.state l.devices);
      reads : D.tells → (dev block : ℕ) → block_at (as_read (now (D.state l.devices))) dev block ≡ block_at (as_read (now (D.state first))) dev block;
      settled : D.tells → (dev : ℕ) → dev < l.dev → IsSettled (now (D.state l.devices)) dev;
      rest : D.tells → AreAtRest l.dev (now (D.state l.devices));
      asks : D.tells → (opens : List ℕ → Bool) → HoldOnly opens NoBlock (D.state first) (D.state l.devices);
      goes_on : GoOn (D.state first) (D.state l.devices);
      faults : (D.state l.devices).faults ≡ (D.state first).faults;
    }
