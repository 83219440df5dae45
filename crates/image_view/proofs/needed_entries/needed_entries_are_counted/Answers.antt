use Rattle.image_view.proofs.NeededEntries.{ReadLaws, are_needed}
use Rattle.image_view.proofs.needed_entries.needed_entries_are_counted.Goals as goal

pub returns : goal.returns
returns c =
    let laws : ReadLaws = record {
      counts = c.one_entry_counts.ensures.counting;
      are_whole = c.leading_entries_are_needed.ensures.whole;
      sealed = c.opened_blocks_are_sealed.ensures;
      exact = c.entries_are_exact.ensures;
    } in
    record {
      oldest = λ image f is. (are_needed laws image f is).oldest;
      count = λ image f is. (are_needed laws image f is).count;
    }
