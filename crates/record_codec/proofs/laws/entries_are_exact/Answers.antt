use Rattle.record_codec.proofs.EntryLaws.{entry-exact}
use Rattle.record_codec.proofs.laws.entries_are_exact.Goals as goal

pub returns : goal.returns
returns c = entry-exact
