use Rattle.image_view.proofs.NeededEntries.{ReadLaws, some_places}
use Rattle.image_view.proofs.NextBase.{base_stays}
use Rattle.image_view.proofs.NextBlocks.{BlockLaws, held_or_next}
use Rattle.image_view.proofs.NextCrashes.{either_found, either_in_order, either_newest}
use Rattle.image_view.proofs.NextNewest.{NewestLaws}
use Rattle.image_view.proofs.next_entry.crashes_leave_the_next_entry_or_not.Goals as goal

pub returns : goal.returns
returns c =
    let read : ReadLaws = record {
      counts = c.one_entry_counts.ensures.counting;
      are_whole = c.leading_entries_are_needed.ensures.whole;
      sealed = c.opened_blocks_are_sealed.ensures;
      exact = c.entries_are_exact.ensures;
    } in
    let newest_laws : NewestLaws = record {
      read = read;
      again = c.leading_entries_are_needed.ensures.again;
      stay = c.whole_entries_stay.ensures;
      greatest = c.leading_entries_are_needed.ensures.newest;
      from = c.leading_entries_are_needed.ensures.needed;
    } in
    let laws : BlockLaws = record {
      newest = newest_laws;
      head = c.sealed_blocks_open.ensures.head;
      payload = c.sealed_blocks_open.ensures.payload;
      made_sealed = c.mended_entries_stay_whole.ensures.sealed;
      one_sealed = c.mended_entries_stay_whole.ensures.one;
      so_long = c.entry_lengths.ensures;
    } in
    record {
      base = λ one other f passed next count is order placed is_next few lengths elsewhere. base_stays laws one f is order passed next is_next other lengths count few elsewhere placed;
      held = λ one other f disks passed next blocks is order is_next sealed hold told. held_or_next laws f passed next is_next blocks sealed one order (some_places read one f is) told disks hold other;
      newest = either_newest newest_laws;
      found = either_found newest_laws;
      in_order = either_in_order laws;
    }
