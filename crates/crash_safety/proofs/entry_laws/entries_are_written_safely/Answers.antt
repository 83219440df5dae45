use Rattle.std.proofs.Common.{get_or, ◌+◌, ap, ◌∙◌}
use Rattle.journal_ring.specs.Parts.{area_of}
use Rattle.crash_safety.proofs.Beside.{beside_on}
use Rattle.crash_safety.proofs.Meanings.{ImageLaws}
use Rattle.crash_safety.proofs.NodesLeft.{nodes_settled}
use Rattle.crash_safety.proofs.Steps.{begun, flushed_on, means_now, read_on, rebased, sealed, settled_on, whole_now, written_on}
use Rattle.crash_safety.proofs.entry_laws.entries_are_written_safely.Goals as goal

pub returns : goal.returns
returns c =
    let laws : ImageLaws = record {
      base = c.crashes_leave_the_next_entry_or_not.ensures.base;
      nodes = c.crashes_leave_new_nodes.ensures.nodes;
      crashed = c.crashes_leave_new_nodes.ensures.in_order;
      written = c.new_nodes_are_found.ensures.found;
      in_order = c.new_nodes_are_found.ensures.in_order;
      numbers = c.blocks_of_a_session_are_numbered_below.ensures.written;
      same_newest = c.same_areas_hold_one_journal.ensures.newest;
      same_needed = c.same_areas_hold_one_journal.ensures.needed;
      same_made = c.same_areas_hold_one_journal.ensures.made;
      ends = λ image f finds index low.
          let entry = get_or f.needed index f.last in
          let whole = c.mending_changes_nothing.ensures.whole image f finds index low in
          let made = c.whole_entries_are_made_of_blocks.ensures f.layout (area_of image) whole.0 entry whole.1 in
          made.1.end ∙ ap (λ n. entry.number + n) (c.mended_entries_stay_whole.ensures.sealed f.layout (area_of image) entry made.0 made.1).count;
      flight = record {
        parts = record {
          entries = record {
            again = c.leading_entries_are_needed.ensures.again;
            sealed = c.mended_entries_stay_whole.ensures.sealed;
            one = c.mended_entries_stay_whole.ensures.one;
          };
          opens = record { head = c.sealed_blocks_open.ensures.head; payload = c.sealed_blocks_open.ensures.payload };
          exact = c.entries_are_exact.ensures;
          so_long = c.entry_lengths.ensures;
          own_places = c.parts_have_own_places.ensures;
        };
        whole = c.leading_entries_are_needed.ensures.whole;
        crashed = c.crashes_leave_new_nodes.ensures.in_order;
      };
      own_places = c.parts_have_own_places.ensures;
    } in
    record {
      begins = begun laws;
      again = rebased laws;
      settled = nodes_settled;
      seals = sealed;
      writes = λ f image w asked written bases durable first old new ring failed safe again low ring_is writes. written_on laws f image w asked written bases durable first old new safe again low ring ring_is failed writes;
      flushes = flushed_on laws;
      reads = read_on laws;
      elsewhere = beside_on laws;
      settles = settled_on laws;
      means = means_now laws;
      whole = whole_now laws;
    }
