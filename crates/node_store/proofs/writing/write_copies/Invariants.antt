use Rattle.std.proofs.Common.{◌≡◌, ◌<◌, ◌+◌, ℕ, Bool, List, Some, length, get_or}
use Rattle.vol_types.specs.declared.pointers.Place.{Place}
use Rattle.dev_model.specs.Disk.{as_read, block_at}
use Rattle.dev_model.specs.Devices.{now}
use Rattle.dev_model.specs.Crashes.{EachCrash, IsCrashImageBut, SameBut}
use Rattle.dev_model.specs.Frames.{GoOn}
use Rattle.dev_model.specs.HeldBlocks.{HoldOnly}
use Rattle.node_store.specs.Writes.{HasLengthsOf, IsCopyBlock, IsCopyOf}
use Rattle.vol_types.specs.Faults.{RoseBy}
use Rattle.node_store.proofs.writing.write_copies.Given as goal

abbrev pub invariant-loop-place : goal.invariant-loop-place
invariant-loop-place g l =
    let D = g.D.Devices in
    let first = l.fn.devices in
    record {
      crashes : D.tells → EachCrash (λ _ _ image. IsCrashImageBut (IsCopyOf l.fn.places l.fn.n) (now (D.state first)) image) (D.state first) (D.state l.devices);
      written : D.tells → (k : ℕ) (d : Place) → k < l.place-index → k < length l.fn.places → block_at (as_read (now (D.state l.devices))) (get_or l.fn.places k d).dev ((get_or l.fn.places k d).block + l.fn.n) ≡ Some l.fn.bytes;
      elsewhere : D.tells → SameBut (IsCopyOf l.fn.places l.fn.n) (as_read (now (D.state first))) (as_read (now (D.state l.devices)));
      asks : D.tells → (opens : List ℕ → Bool) → HoldOnly opens (IsCopyBlock l.fn.places l.fn.n l.fn.bytes) (D.state first) (D.state l.devices);
      lengths : D.tells → EachCrash (λ _ _ image. HasLengthsOf (now (D.state first)) image) (D.state first) (D.state l.devices);
      goes_on : GoOn (D.state first) (D.state l.devices);
      faults : (D.state l.devices).faults ≡ (D.state first).faults;
      time : 0 < l.place-index → RoseBy 1 (D.state first).moment (D.state l.devices).moment;
    }
