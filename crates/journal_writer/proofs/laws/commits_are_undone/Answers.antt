use Rattle.journal_writer.specs.ChangeLaws.{taken_back-made, undone-leads, values_before-in_range, values_before-length}
use Rattle.journal_writer.proofs.laws.commits_are_undone.Goals as goal

pub returns : goal.returns
returns c = record { one = taken_back-made; all = undone-leads; in_range = values_before-in_range; pairs = values_before-length }
