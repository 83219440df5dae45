use Rattle.std.proofs.Common.{◌≡◌}
use Rattle.dev_model.specs.Disk.{as_read}
use Rattle.dev_model.specs.Devices.{now}
use Rattle.dev_model.specs.Frames.{AreOnlyRead}
use Rattle.geometry.specs.Sessions.{greatest_session}
use Rattle.geometry.proofs.sessions.read_session.Given as goal

abbrev pub invariant-loop-dev : goal.invariant-loop-dev
invariant-loop-dev g l =
    let D = g.D.Devices in
    let first = l.fn.devices in
    record {
      so_far : D.tells → l.greatest ≡ greatest_session l.layout.id (as_read (now (D.state first))) l.dev;
      read : AreOnlyRead D.tells (D.state first) (D.state l.devices);
      faults : (D.state l.devices).faults ≡ (D.state first).faults;
    }
