use Rattle.std.proofs.Common.{◌≡◌, ◌≤◌, None, length}
use Rattle.std.specs.Prelude.{slice_index_or}
use Rattle.vol_types.specs.Faults.{RoseBy}
use Rattle.dev_model.specs.Devices.{now}
use Rattle.dev_model.specs.Disk.{as_read, block_at}
use Rattle.dev_model.specs.Frames.{AreOnlyRead}
use Rattle.node_store.specs.Answers.{AreCauses, IsSeenFrom}
use Rattle.node_store.specs.FailedReads.{IsFarthest, lacking, read_from, unread_device}
use Rattle.node_store.specs.Copies.{shown_below}
use Rattle.node_store.proofs.reading.see_copy.Given as goal

abbrev pub invariant-loop-n : goal.invariant-loop-n
invariant-loop-n g l =
    let D = g.D.Devices in
    let first = D.state l.fn.devices in
    record {
      shown : D.tells → IsSeenFrom (read_from l.unread) (shown_below (block_at (as_read (now first))) l.place l.n) l.copy;
      all : D.tells → l.unread ≡ None → l.copy ≡ shown_below (block_at (as_read (now first))) l.place l.n;
      few : D.tells → RoseBy (lacking (shown_below (block_at (as_read (now first))) l.place l.n) l.copy) (slice_index_or first.faults.calls l.place.dev 0) (slice_index_or (D.state l.devices).faults.calls l.place.dev 0);
      count : length l.copy ≡ l.n;
      from : read_from l.fn.before ≤ read_from l.unread;
      unread : IsFarthest l.fn.before l.unread l.copy l.place.dev;
      read : AreOnlyRead D.tells first (D.state l.devices);
      cause : AreCauses (unread_device l.fn.before) (unread_device l.unread) first.faults (D.state l.devices).faults;
    }
