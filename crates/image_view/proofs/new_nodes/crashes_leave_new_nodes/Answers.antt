use Rattle.image_view.proofs.NeededEntries.{ReadLaws}
use Rattle.image_view.proofs.NewInOrder.{each_agrees, each_in_order}
use Rattle.image_view.proofs.NextBase.{nodes_stay}
use Rattle.image_view.proofs.NextBlocks.{BlockLaws}
use Rattle.image_view.proofs.NextCrashes.{either_found_new, either_in_order_new}
use Rattle.image_view.proofs.NextFound.{agree_still}
use Rattle.image_view.proofs.NextInOrder.{in_order_still}
use Rattle.image_view.proofs.NextNewest.{NewestLaws}
use Rattle.image_view.specs.NextEntries.{with_entry}
use Rattle.image_view.proofs.new_nodes.crashes_leave_new_nodes.Goals as goal

pub returns : goal.returns
returns c =
    let read : ReadLaws = record {
      counts = c.one_entry_counts.ensures.counting;
      are_whole = c.leading_entries_are_needed.ensures.whole;
      sealed = c.opened_blocks_are_sealed.ensures;
      exact = c.entries_are_exact.ensures;
    } in
    let newest_laws : NewestLaws = record {
      read = read;
      again = c.leading_entries_are_needed.ensures.again;
      stay = c.whole_entries_stay.ensures;
      greatest = c.leading_entries_are_needed.ensures.newest;
      from = c.leading_entries_are_needed.ensures.needed;
    } in
    let laws : BlockLaws = record {
      newest = newest_laws;
      head = c.sealed_blocks_open.ensures.head;
      payload = c.sealed_blocks_open.ensures.payload;
      made_sealed = c.mended_entries_stay_whole.ensures.sealed;
      one_sealed = c.mended_entries_stay_whole.ensures.one;
      so_long = c.entry_lengths.ensures;
    } in
    record {
      nodes = λ one other f passed next trees count is order is_next placed few lengths elsewhere. nodes_stay laws one f is order passed next is_next other lengths count few elsewhere (with_entry passed next trees f) placed;
      found = λ one other f disks passed next trees is is_next agree nodes only none read. either_found_new newest_laws one other f disks passed next trees is is_next agree nodes.nodes only none read;
      in_order = λ one other f disks passed next blocks trees is order is_next sealed below hold agree nodes are only read.
          either_in_order_new laws one other f disks passed next blocks trees is order is_next sealed below hold agree nodes.nodes are only read;
      old_nodes = λ one other f passed next trees agree nodes. record {
        lengths = agree.lengths;
        first_copies = agree.first_copies;
        second_copies = agree.second_copies;
        nodes = agree_still one other f trees agree nodes;
      };
      old_order = in_order_still;
      each_agrees = each_agrees;
      each_order = each_in_order;
    }
