use Rattle.std.proofs.Common.{◌≡◌, ◌+◌, ◌<◌, ℕ, true}
use Rattle.std.specs.Prelude.{Contains}
use Rattle.dev_model.specs.Crashes.{EachCrash, IsQuiet}
use Rattle.dev_model.specs.Disk.{as_read, block_at}
use Rattle.dev_model.specs.Devices.{now}
use Rattle.dev_model.specs.Frames.{AreOnlyRead, GoOn}
use Rattle.geometry.specs.Faults.{DeviceFailed, SomeFailed}
use Rattle.vol_types.specs.declared.pointers.Place.{Place}
use Rattle.node_store.specs.Answers.{AreAlike}
use Rattle.node_store.specs.Copies.{copies_at}
use Rattle.node_store.specs.Mending.{AreWritten, CanBeMended, IsToMend, IsWanted, KeepsRest, StayShown, WritesOnly, is_of_node}
use Rattle.node_store.proofs.mending.mend_blocks.Given as goal

abbrev pub invariant-loop-n : goal.invariant-loop-n
invariant-loop-n g l =
    let D = g.D.Devices in
    let first = D.state l.fn.devices in
    let here = D.state l.devices in
    let id = l.fn.layout.id in
    let image = as_read (now first) in
    record {
      writes : D.tells → WritesOnly (IsToMend id l.fn.birth l.fn.places l.n image (λ dev. DeviceFailed dev first.faults here.faults)) (IsWanted id l.fn.birth l.fn.places l.n image) first here;
      kept : D.tells → IsQuiet (now first) → EachCrash (λ _ _ left. StayShown id l.fn.birth l.fn.places l.fn.end image left) first here;
      idle : D.tells → ¬ SomeFailed first.faults here.faults → AreAlike l.fn.end (copies_at (block_at image) l.fn.places) → AreOnlyRead D.tells first here;
      mended : D.tells → CanBeMended l.fn.layout l.fn.birth l.fn.places l.fn.end first.sizes image → (n : ℕ) → n < l.n → (place : Place) → Contains l.fn.places place
          → is_of_node id l.fn.birth (block_at (as_read (now here)) place.dev (place.block + n)) ≡ true;
      written : D.tells → AreWritten (IsWanted id l.fn.birth l.fn.places l.n image) image (as_read (now here));
      rest : D.tells → KeepsRest first here;
      goes_on : GoOn first here;
      unfailed : here.faults.writes ≡ first.faults.writes;
    }
