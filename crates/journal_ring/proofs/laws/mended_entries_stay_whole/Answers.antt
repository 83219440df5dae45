use Rattle.journal_ring.specs.EntryLaws.{stays_whole}
use Rattle.journal_ring.proofs.Mended.{mended_whole, places_stay}
use Rattle.journal_ring.proofs.Sealed.{made_sealed, one_sealed}
use Rattle.journal_ring.proofs.laws.mended_entries_stay_whole.Goals as goal

pub returns : goal.returns
returns c =
    let sealed = c.opened_blocks_are_sealed.ensures in
    let exact = c.entries_are_exact.ensures in
    let so_long = c.entry_lengths.ensures in
    record {
      sealed = made_sealed sealed exact so_long;
      one = one_sealed;
      stays = λ layout one other dev found blocks is are mended.
          mended_whole (record { head = c.sealed_blocks_open.ensures.head; payload = c.sealed_blocks_open.ensures.payload }) sealed exact so_long layout one other dev found is blocks are mended;
      places = places_stay;
      others = λ layout one other dev found another blocks is some ends are_apart mended. stays_whole layout one other dev another is (places_stay layout one other found another blocks some ends are_apart mended);
    }
