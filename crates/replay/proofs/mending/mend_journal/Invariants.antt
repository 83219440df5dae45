use Rattle.std.proofs.Common.{◌≡◌}
use Rattle.dev_model.specs.Crashes.{IsQuiet}
use Rattle.dev_model.specs.Devices.{now}
use Rattle.dev_model.specs.Frames.{GoOn}
use Rattle.image_view.specs.Found.{Found}
use Rattle.replay.specs.Mending.{ChangesJournal, IsInOrderOn, IsMendedTo}
use Rattle.replay.proofs.mending.mend_journal.Given as goal

abbrev pub invariant-loop-index : goal.invariant-loop-index
invariant-loop-index g l =
    let D = g.D.Devices in
    let first = D.state l.fn.devices in
    let here = D.state l.devices in
    record {
      mended : D.tells → (f : Found) → IsInOrderOn f (now first) → f.layout ≡ l.fn.layout → f.needed ≡ l.fn.needed → IsMendedTo f l.index first here;
      journal : D.tells → IsQuiet (now first) → ChangesJournal l.fn.layout first here;
      quiet : D.tells → IsQuiet (now first) → IsQuiet (now here);
      goes_on : GoOn first here;
      faults : here.faults ≡ first.faults;
    }
