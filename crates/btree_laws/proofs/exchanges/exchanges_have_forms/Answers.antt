use Rattle.btree_laws.proofs.Ranges.{covers_range, joining, rewriting, splitting, stood_outside}
use Rattle.btree_laws.proofs.exchanges.exchanges_have_forms.Goals as goal

pub returns : goal.returns
returns c = record {
  rewriting = rewriting;
  splitting = splitting;
  joining = joining;
  outside = λ old new first last at node row fresh exchange there away. stood_outside first last old new row fresh exchange at node there away;
  range = covers_range;
}
