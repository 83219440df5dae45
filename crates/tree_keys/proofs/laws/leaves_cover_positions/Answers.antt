use Rattle.tree_keys.specs.LeafLaws.{end_of-end, leaf_entries-covered, leaf_test}
use Rattle.tree_keys.specs.OrderLaws.{le_greatest}
use Rattle.tree_keys.proofs.laws.leaves_cover_positions.Goals as goal

pub returns : goal.returns
returns c = record {
  one = λ pos ends are fits. end_of-end pos ends (le_greatest pos fits) are.whole;
  range = leaf_test;
  entries = leaf_entries-covered;
}
