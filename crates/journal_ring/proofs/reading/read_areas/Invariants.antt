use Rattle.std.proofs.Common.{◌≡◌, ◌<◌, ℕ, length}
use Rattle.dev_model.specs.Disk.{as_read}
use Rattle.dev_model.specs.Devices.{now}
use Rattle.dev_model.specs.Frames.{AreOnlyRead}
use Rattle.journal_ring.specs.Parts.{area_in, area_of}
use Rattle.journal_ring.proofs.reading.read_areas.Given as goal

abbrev pub invariant-loop-dev : goal.invariant-loop-dev
invariant-loop-dev g l =
    let D = g.D.Devices in
    let first = D.state l.fn.devices in
    record {
      areas : D.tells → (dev place : ℕ) → dev < l.dev → place < l.layout.journal → area_in l.areas dev place ≡ area_of (as_read (now first)) dev place;
      count : length l.areas ≡ l.dev;
      read : AreOnlyRead D.tells first (D.state l.devices);
      faults : (D.state l.devices).faults ≡ first.faults;
    }
