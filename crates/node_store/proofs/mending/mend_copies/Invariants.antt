use Rattle.std.proofs.Common.{◌≡◌, ◌≢◌, ◌⊎◌, ◌+◌, ◌<◌, ℕ, true, false, get_or, length}
use Rattle.std.specs.Prelude.{Contains}
use Rattle.dev_model.specs.Disk.{as_read, block_at}
use Rattle.dev_model.specs.Devices.{now}
use Rattle.dev_model.specs.Frames.{AreOnlyRead, GoOn}
use Rattle.geometry.specs.Faults.{DeviceFailed, SomeFailed}
use Rattle.vol_types.specs.declared.pointers.Place.{Place}
use Rattle.node_store.specs.Mending.{AreWritten, KeepsRest, WritesOnly, is_of_node}
use Rattle.node_store.specs.Writes.{HaveCopies, IsCopyBlock, IsCopyOf}
use Rattle.node_store.proofs.mending.mend_copies.Given as goal

abbrev pub invariant-loop-place : goal.invariant-loop-place
invariant-loop-place g l =
    let D = g.D.Devices in
    let first = D.state l.fn.devices in
    let here = D.state l.devices in
    let id = l.fn.layout.id in
    let source = l.fn.shown.dev in
    record {
      writes : D.tells → WritesOnly (λ d b. IsCopyOf l.fn.places l.fn.n d b × (d ≢ source) × ((is_of_node id l.fn.birth (block_at (as_read (now first)) d b) ≡ false) ⊎ DeviceFailed d first.faults here.faults)) (IsCopyBlock l.fn.places l.fn.n l.fn.shown.bytes) first here;
      idle : D.tells → ¬ SomeFailed first.faults here.faults → ((place : Place) → Contains l.fn.places place → is_of_node id l.fn.birth (block_at (as_read (now first)) place.dev (place.block + l.fn.n)) ≡ true) → AreOnlyRead D.tells first here;
      mended : D.tells → HaveCopies first.sizes l.fn.places l.fn.n
          → ((place : Place) → Contains l.fn.places place → place.dev ≡ source → is_of_node id l.fn.birth (block_at (as_read (now first)) place.dev (place.block + l.fn.n)) ≡ true)
          → (k : ℕ) (d : Place) → k < l.place-index → k < length l.fn.places
          → is_of_node id l.fn.birth (block_at (as_read (now here)) (get_or l.fn.places k d).dev ((get_or l.fn.places k d).block + l.fn.n)) ≡ true;
      written : D.tells → AreWritten (IsCopyBlock l.fn.places l.fn.n l.fn.shown.bytes) (as_read (now first)) (as_read (now here));
      rest : D.tells → KeepsRest first here;
      goes_on : GoOn first here;
      unfailed : here.faults.writes ≡ first.faults.writes;
    }
