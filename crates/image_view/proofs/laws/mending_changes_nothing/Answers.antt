use Rattle.image_view.proofs.MendedImages.{JournalLaws, all_whole, found_mended, in_order_mended, needed_apart}
use Rattle.image_view.proofs.laws.mending_changes_nothing.Goals as goal

pub returns : goal.returns
returns c =
    let laws : JournalLaws = record {
      again = c.leading_entries_are_needed.ensures.again;
      are_whole = c.leading_entries_are_needed.ensures.whole;
      made = c.whole_entries_are_made_of_blocks.ensures;
      sealed = c.mended_entries_stay_whole.ensures.sealed;
      same = c.mended_entries_stay_whole.ensures.one;
      stays = c.mended_entries_stay_whole.ensures.stays;
      others = c.mended_entries_stay_whole.ensures.others;
      opens = c.sealed_blocks_open.ensures.head;
    } in
    record { found = found_mended laws; in_order = in_order_mended laws; whole = all_whole laws; apart = needed_apart laws }
