use Rattle.journal_ring.proofs.Newest.{leading_again, leading_are_needed, leading_counts, leading_is_newest, needed_are_whole}
use Rattle.journal_ring.proofs.laws.leading_entries_are_needed.Goals as goal

pub returns : goal.returns
returns c = record {
  counts = λ layout area one some. leading_counts layout area some one;
  newest = λ layout area last some. leading_is_newest layout area some last;
  needed = λ layout area last entries some. leading_are_needed layout area some last entries;
  again = λ layout one other last needed some. leading_again layout one other some last needed;
  whole = λ layout area last needed some. needed_are_whole layout area some last needed;
}
