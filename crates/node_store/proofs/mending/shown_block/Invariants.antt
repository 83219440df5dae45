use Rattle.std.proofs.Common.{◌≡◌, ◌+◌, ◌<◌, ℕ, None, false, get_or, length}
use Rattle.std.specs.Prelude.{IfSome}
use Rattle.dev_model.specs.Disk.{as_read, block_at}
use Rattle.dev_model.specs.Devices.{now}
use Rattle.dev_model.specs.Frames.{AreOnlyRead}
use Rattle.geometry.specs.Faults.{DeviceFailed}
use Rattle.vol_types.specs.declared.pointers.Place.{Place}
use Rattle.node_store.specs.Mending.{IsDeviceOf, is_of_node}
use Rattle.node_store.proofs.mending.shown_block.Given as goal

abbrev pub invariant-loop-place : goal.invariant-loop-place
invariant-loop-place g l =
    let D = g.D.Devices in
    let first = D.state l.fn.devices in
    let here = D.state l.devices in
    record {
      none : D.tells → l.failed ≡ None → (k : ℕ) (d : Place) → k < l.place-index → k < length l.fn.places
          → is_of_node l.fn.layout.id l.fn.birth (block_at (as_read (now first)) (get_or l.fn.places k d).dev ((get_or l.fn.places k d).block + l.fn.n)) ≡ false;
      failed : IfSome l.failed (λ dev. IsDeviceOf l.fn.places dev × DeviceFailed dev first.faults here.faults);
      read : AreOnlyRead D.tells first here;
    }
