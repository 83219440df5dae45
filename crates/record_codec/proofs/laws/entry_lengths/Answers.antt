use Rattle.record_codec.proofs.EntryLaws.{length-entry}
use Rattle.record_codec.proofs.laws.entry_lengths.Goals as goal

pub returns : goal.returns
returns c = length-entry
