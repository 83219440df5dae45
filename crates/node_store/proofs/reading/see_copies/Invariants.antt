use Rattle.std.proofs.Common.{◌≡◌, None, length, take}
use Rattle.std.specs.Prelude.{IfSome}
use Rattle.dev_model.specs.Devices.{now}
use Rattle.dev_model.specs.Disk.{as_read, block_at}
use Rattle.dev_model.specs.Frames.{AreOnlyRead}
use Rattle.node_store.specs.Answers.{AreCauses, AreSeenFrom, LackNoMore}
use Rattle.node_store.specs.FailedReads.{IsUnreadAt, read_from, unread_device}
use Rattle.node_store.specs.Copies.{copies_at}
use Rattle.node_store.proofs.reading.see_copies.Given as goal

abbrev pub invariant-loop-place : goal.invariant-loop-place
invariant-loop-place g l =
    let D = g.D.Devices in
    let first = D.state l.fn.devices in
    record {
      shown : D.tells → AreSeenFrom (read_from l.unread) (copies_at (block_at (as_read (now first))) (take l.place-index l.places)) l.copies;
      all : D.tells → l.unread ≡ None → l.copies ≡ copies_at (block_at (as_read (now first))) (take l.place-index l.places);
      read : AreOnlyRead D.tells first (D.state l.devices);
      cause : AreCauses None (unread_device l.unread) first.faults (D.state l.devices).faults;
      few : D.tells → LackNoMore first.faults (D.state l.devices).faults (take l.place-index l.places) (copies_at (block_at (as_read (now first))) (take l.place-index l.places)) l.copies;
      count : length l.copies ≡ l.place-index;
      unread : IfSome l.unread (IsUnreadAt l.places l.copies);
    }
