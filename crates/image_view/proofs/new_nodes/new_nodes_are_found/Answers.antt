use Rattle.image_view.proofs.NeededEntries.{ReadLaws, some_places}
use Rattle.image_view.proofs.NextBlocks.{BlockLaws}
use Rattle.image_view.proofs.NextFound.{new_found}
use Rattle.image_view.proofs.NextInOrder.{in_order_new, newest_written}
use Rattle.image_view.proofs.NextNewest.{NewestLaws}
use Rattle.image_view.proofs.NextStands.{each_passes, written_old_or_next}
use Rattle.image_view.proofs.new_nodes.new_nodes_are_found.Goals as goal

pub returns : goal.returns
returns c =
    let read : ReadLaws = record {
      counts = c.one_entry_counts.ensures.counting;
      are_whole = c.leading_entries_are_needed.ensures.whole;
      sealed = c.opened_blocks_are_sealed.ensures;
      exact = c.entries_are_exact.ensures;
    } in
    let newest_laws : NewestLaws = record {
      read = read;
      again = c.leading_entries_are_needed.ensures.again;
      stay = c.whole_entries_stay.ensures;
      greatest = c.leading_entries_are_needed.ensures.newest;
      from = c.leading_entries_are_needed.ensures.needed;
    } in
    let laws : BlockLaws = record {
      newest = newest_laws;
      head = c.sealed_blocks_open.ensures.head;
      payload = c.sealed_blocks_open.ensures.payload;
      made_sealed = c.mended_entries_stay_whole.ensures.sealed;
      one_sealed = c.mended_entries_stay_whole.ensures.one;
      so_long = c.entry_lengths.ensures;
    } in
    let stand = c.written_entries_are_whole.ensures in
    record {
      agreeing = λ one other f passed next trees is agree nodes means new. new_found one other f passed next trees is agree nodes.nodes means new;
      found = λ one other f passed next blocks trees is order is_next agree nodes written told means.
          new_found one other f passed next trees is agree nodes.nodes means
          (newest_written laws stand one other f passed next blocks trees is is_next agree written
          (each_passes laws f (some_places read one f is) passed next is_next blocks written.sealed one other (written_old_or_next f.layout next blocks one other written) order told));
      in_order = λ one other f passed next blocks trees is order is_next agree nodes are written told.
          in_order_new laws one f is order passed next is_next blocks written.sealed other agree (written_old_or_next f.layout next blocks one other written) told trees nodes.nodes are;
    }
