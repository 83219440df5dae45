use Rattle.std.proofs.Common.{◌≡◌, length, map, drop}
use Rattle.dev_model.specs.Disk.{as_read}
use Rattle.dev_model.specs.Devices.{now}
use Rattle.dev_model.specs.Frames.{AreOnlyRead}
use Rattle.geometry.specs.Superblocks.{all_there, counting}
use Rattle.geometry.proofs.CopiesThere.{with_rest}
use Rattle.geometry.proofs.superblocks.read_copies.Given as goal

abbrev pub invariant-loop-dev : goal.invariant-loop-dev
invariant-loop-dev g l =
    let D = g.D.Devices in
    let first = l.fn.devices in
    let copies = map counting (as_read (now (D.state first))) in
    record {
      so_far : D.tells → with_rest l.copies.items (drop l.dev copies) ≡ all_there copies;
      each : length l.copies.items ≡ l.dev;
      read : AreOnlyRead D.tells (D.state first) (D.state l.devices);
      faults : (D.state l.devices).faults ≡ (D.state first).faults;
    }
