use Rattle.tree_changes.proofs.Added.{directory_formed, file_formed, name_formed}
use Rattle.tree_changes.proofs.Moving.{moved_formed}
use Rattle.tree_changes.proofs.Taken.{bytes_formed, removed_formed, unlinked_formed}
use Rattle.tree_changes.proofs.trees.changed_trees_are_well_formed.Goals as goal

pub returns : goal.returns
returns c = record {
  file = λ place tree well free new. file_formed place tree well free new;
  directory = λ place tree well free new. directory_formed place tree well free new;
  name = λ place tree well free none. name_formed place tree well free none;
  unlinked = λ place tree well at none. unlinked_formed place tree well at none;
  removed = λ place tree well at empty. removed_formed place tree well at empty;
  moved = λ old new tree well may. moved_formed old new tree well may;
  bytes = bytes_formed;
}
