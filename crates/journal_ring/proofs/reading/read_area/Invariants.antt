use Rattle.std.proofs.Common.{◌≡◌, ◌<◌, ℕ, length}
use Rattle.std.specs.Prelude.{slice_get}
use Rattle.dev_model.specs.Disk.{as_read}
use Rattle.dev_model.specs.Devices.{now}
use Rattle.dev_model.specs.Frames.{AreOnlyRead}
use Rattle.journal_ring.specs.Parts.{area_of}
use Rattle.journal_ring.proofs.reading.read_area.Given as goal

abbrev pub invariant-loop-place : goal.invariant-loop-place
invariant-loop-place g l =
    let D = g.D.Devices in
    let first = D.state l.fn.devices in
    record {
      blocks : D.tells → (place : ℕ) → place < l.place → slice_get l.blocks place ≡ area_of (as_read (now first)) l.dev place;
      count : length l.blocks ≡ l.place;
      read : AreOnlyRead D.tells first (D.state l.devices);
      faults : (D.state l.devices).faults ≡ first.faults;
    }
