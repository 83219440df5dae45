use Rattle.std.proofs.Common.{◌≡◌, ◌<◌, ℕ, Bool, List, Some, length, get_or}
use Rattle.vol_types.specs.declared.pointers.Place.{Place}
use Rattle.dev_model.specs.Disk.{as_read}
use Rattle.dev_model.specs.Devices.{now}
use Rattle.dev_model.specs.Crashes.{EachCrash, IsCrashImageBut, SameBut}
use Rattle.dev_model.specs.Frames.{GoOn}
use Rattle.dev_model.specs.HeldBlocks.{HoldOnly}
use Rattle.data_io.specs.Reads.{block_of, places_of}
use Rattle.data_io.specs.Writes.{IsBlockAt, IsOneOf}
use Rattle.data_io.proofs.writing.put_block.Given as goal

abbrev pub invariant-loop-pointer : goal.invariant-loop-pointer
invariant-loop-pointer g l =
    let D = g.D.Devices in
    let first = l.fn.devices in
    let places = places_of l.fn.places in
    record {
      crashes : D.tells → EachCrash (λ _ _ image. IsCrashImageBut (IsOneOf places) (now (D.state first)) image) (D.state first) (D.state l.devices);
      written : D.tells → (k : ℕ) (d : Place) → k < l.pointer-index → k < length places → block_of (as_read (now (D.state l.devices))) (get_or places k d) ≡ Some l.fn.from;
      elsewhere : D.tells → SameBut (IsOneOf places) (as_read (now (D.state first))) (as_read (now (D.state l.devices)));
      asks : D.tells → (opens : List ℕ → Bool) → HoldOnly opens (IsBlockAt places l.fn.from) (D.state first) (D.state l.devices);
      goes_on : GoOn (D.state first) (D.state l.devices);
      faults : (D.state l.devices).faults ≡ (D.state first).faults;
    }
