use Rattle.key_steps.proofs.Meanings.{one_tree, shown_is_tree}
use Rattle.key_steps.proofs.shown.shown_keys_mean_trees.Goals as goal

pub returns : goal.returns
returns c = record { tree = shown_is_tree; one = one_tree }
