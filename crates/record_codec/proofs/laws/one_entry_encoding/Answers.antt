use Rattle.record_codec.proofs.EntryLaws.{entries_meet}
use Rattle.record_codec.proofs.laws.one_entry_encoding.Goals as goal

pub returns : goal.returns
returns c = entries_meet
