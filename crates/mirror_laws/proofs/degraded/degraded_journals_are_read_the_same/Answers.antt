use Rattle.journal_ring.specs.Parts.{area_of}
use Rattle.mirror_laws.proofs.DegradedJournal.{EntryLaws, entry_stands, made_before, newest_still, whole_there}
use Rattle.mirror_laws.proofs.degraded.degraded_journals_are_read_the_same.Goals as goal

pub returns : goal.returns
returns c =
    let laws : EntryLaws = record {
      again = c.leading_entries_are_needed.ensures.again;
      sealed = c.mended_entries_stay_whole.ensures.sealed;
      one = c.mended_entries_stay_whole.ensures.one;
    } in
    record {
      made = λ layout mirror one other entry blocks degraded. made_before layout mirror one other degraded entry blocks;
      whole = λ layout mirror one other entry low degraded stands. whole_there laws layout mirror (area_of other) entry low (entry_stands layout mirror one other degraded low entry stands);
      newest = λ f mirror one other low degraded. newest_still laws f mirror low one other degraded;
    }
