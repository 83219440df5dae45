use Rattle.journal_ring.proofs.Same.{journal_same, made_same, needed_same, newest_same}
use Rattle.journal_ring.proofs.laws.same_areas_hold_one_journal.Goals as goal

pub returns : goal.returns
returns c = record {
  newest = newest_same;
  needed = λ layout one other last same. needed_same layout one other same last;
  journal = journal_same;
  made = λ layout one other found blocks some same. made_same layout one other same some found blocks;
}
