use Rattle.tree_keys.specs.CutLaws.{IsCut-cut, leaf_entries-first, leaf_entries-other, leaf_entries-second}
use Rattle.tree_keys.proofs.laws.cuts_part_leaves.Goals as goal

pub returns : goal.returns
returns c = record { keys = IsCut-cut; first = leaf_entries-first; second = leaf_entries-second; others = leaf_entries-other }
