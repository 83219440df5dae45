-- So far one block was found for each device that was read.
use Rattle.std.proofs.Common.{◌≡◌, ◌<◌, ◌≤◌, ℕ, length}
use Rattle.std.specs.Prelude.{slice_index}
use Rattle.dev_model.specs.Devices.{now}
use Rattle.dev_model.specs.Disk.{as_read, blocks_of}
use Rattle.dev_model.specs.Frames.{AreOnlyRead}
use Rattle.vol_format.specs.Formatting.{spare_block}
use Rattle.vol_format.proofs.bytes.find_spares.Given as goal

abbrev pub invariant-loop-dev : goal.invariant-loop-dev
invariant-loop-dev g l =
    let D = g.D.Devices in
    let first = l.fn.devices in
    record {
      count : length l.spares.items ≡ l.dev;
      found : D.tells → (dev : ℕ) → dev < l.dev → slice_index l.spares.items dev ≡ spare_block (blocks_of (as_read (now (D.state first))) dev);
      range : (dev : ℕ) → slice_index l.spares.items dev ≤ 8;
      read : AreOnlyRead D.tells (D.state first) (D.state l.devices);
      faults : (D.state l.devices).faults ≡ (D.state first).faults;
    }
