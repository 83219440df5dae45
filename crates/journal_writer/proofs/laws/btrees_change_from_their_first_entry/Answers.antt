use Rattle.journal_writer.specs.FirstLaws.{first_append, first-behind, first-none, first-oldest, first-there, undone-unchanged, waiting-behind, waiting-changes}
use Rattle.journal_writer.proofs.laws.btrees_change_from_their_first_entry.Goals as goal

pub returns : goal.returns
returns c = record {
  oldest = first-oldest;
  there = first-there;
  none = first-none;
  later = first-behind;
  appended = first_append;
  unchanged = undone-unchanged;
  in_turn = waiting-behind;
  changes = waiting-changes;
}
