use Rattle.journal_writer.proofs.Lengths.{entry_fits}
use Rattle.journal_writer.proofs.laws.entries_fit.Goals as goal

pub returns : goal.returns
returns c = entry_fits
