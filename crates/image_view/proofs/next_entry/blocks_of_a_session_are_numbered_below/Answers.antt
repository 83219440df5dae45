use Rattle.image_view.proofs.NeededEntries.{ReadLaws, some_places}
use Rattle.image_view.proofs.NextBlocks.{BlockLaws}
use Rattle.image_view.proofs.NextNewest.{NewestLaws}
use Rattle.image_view.proofs.NextStands.{numbers_stay, written_old_or_next}
use Rattle.image_view.proofs.SessionNumbers.{numbers_begin, numbers_mended}
use Rattle.image_view.proofs.next_entry.blocks_of_a_session_are_numbered_below.Goals as goal

pub returns : goal.returns
returns c =
    let read : ReadLaws = record {
      counts = c.one_entry_counts.ensures.counting;
      are_whole = c.leading_entries_are_needed.ensures.whole;
      sealed = c.opened_blocks_are_sealed.ensures;
      exact = c.entries_are_exact.ensures;
    } in
    let newest_laws : NewestLaws = record {
      read = read;
      again = c.leading_entries_are_needed.ensures.again;
      stay = c.whole_entries_stay.ensures;
      greatest = c.leading_entries_are_needed.ensures.newest;
      from = c.leading_entries_are_needed.ensures.needed;
    } in
    let laws : BlockLaws = record {
      newest = newest_laws;
      head = c.sealed_blocks_open.ensures.head;
      payload = c.sealed_blocks_open.ensures.payload;
      made_sealed = c.mended_entries_stay_whole.ensures.sealed;
      one_sealed = c.mended_entries_stay_whole.ensures.one;
      so_long = c.entry_lengths.ensures;
    } in
    record {
      begins = numbers_begin;
      mended = numbers_mended laws;
      written = λ one other f passed next blocks is is_next written below.
          numbers_stay laws f (some_places read one f is) passed next is_next blocks written.sealed one other (written_old_or_next f.layout next blocks one other written) below;
    }
