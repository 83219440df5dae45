use Rattle.image_view.proofs.CrashNewest.{crash_newest}
use Rattle.image_view.specs.BaseLaws.{found-same}
use Rattle.image_view.specs.CrashEntries.{one_digest-one_entry}
use Rattle.image_view.proofs.laws.crashes_keep_what_was_found.Goals as goal

pub returns : goal.returns
returns c =
    let newest = crash_newest c.leading_entries_are_needed.ensures.again c.leading_entries_are_needed.ensures.whole c.whole_entries_stay.ensures in
    record {
      newest = newest;
      found = λ one other f disks is agree only none. found-same one other f is agree (newest one other f disks is agree only none);
      digests = one_digest-one_entry;
    }
