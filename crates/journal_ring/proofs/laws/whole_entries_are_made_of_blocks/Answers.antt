use Rattle.journal_ring.specs.MadeOf.{made_of}
use Rattle.journal_ring.proofs.laws.whole_entries_are_made_of_blocks.Goals as goal

pub returns : goal.returns
returns c = made_of
