use Rattle.mirror_laws.proofs.DegradedJournal.{EntryLaws}
use Rattle.mirror_laws.proofs.DegradedMeaning.{content_still, found_still, meaning_still, order_still, stands_still}
use Rattle.mirror_laws.proofs.degraded.degraded_images_mean_the_same.Goals as goal

pub returns : goal.returns
returns c =
    let laws : EntryLaws = record {
      again = c.leading_entries_are_needed.ensures.again;
      sealed = c.mended_entries_stay_whole.ensures.sealed;
      one = c.mended_entries_stay_whole.ensures.one;
    } in
    record {
      found = found_still laws;
      in_order = λ f mirror one other low degraded. order_still laws f mirror one other degraded low;
      means = λ f mirror one other degraded is order stands. meaning_still laws f mirror one other degraded is order.others order.agree stands order;
      content = content_still;
      stands = stands_still laws;
    }
