use Rattle.std.proofs.Common.{refl}
use Rattle.journal_ring.proofs.Best.{counting_counts, one_counts, some_counts}
use Rattle.journal_ring.proofs.laws.one_entry_counts.Goals as goal

pub returns : goal.returns
returns c = record {
  one = one_counts;
  counting = λ layout area sequence found some is. counting_counts layout area sequence some found is;
  some = λ layout area dev found some is. some_counts layout area found.entry.sequence some dev found is refl;
}
