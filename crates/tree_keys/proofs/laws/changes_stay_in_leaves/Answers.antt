use Rattle.tree_keys.specs.LeafLaws.{leaf_entries-put_at, leaf_entries-untouched}
use Rattle.tree_keys.proofs.laws.changes_stay_in_leaves.Goals as goal

pub returns : goal.returns
returns c = record { here = leaf_entries-put_at; elsewhere = leaf_entries-untouched }
