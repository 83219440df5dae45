use Rattle.journal_ring.specs.EntryLaws.{stays_whole}
use Rattle.journal_ring.proofs.laws.whole_entries_stay.Goals as goal

pub returns : goal.returns
returns c = stays_whole
