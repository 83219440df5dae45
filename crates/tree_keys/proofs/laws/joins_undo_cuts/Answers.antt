use Rattle.tree_keys.specs.JoinAtLaws.{IsCut-joined, cut-joined, joined-cut, leaf_entries-apart, leaf_entries-joined}
use Rattle.tree_keys.proofs.laws.joins_undo_cuts.Goals as goal

pub returns : goal.returns
returns c = record { undone = joined-cut; again = cut-joined; keys = IsCut-joined; both = leaf_entries-joined; others = leaf_entries-apart }
