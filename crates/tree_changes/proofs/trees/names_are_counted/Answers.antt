use Rattle.tree_changes.proofs.Counting.{directory_counts, moved_counts, put_counts, removed_counts, unlinked_counts}
use Rattle.tree_changes.proofs.trees.names_are_counted.Goals as goal

pub returns : goal.returns
returns c = record {
  file = put_counts;
  directory = directory_counts;
  name = put_counts;
  unlinked = unlinked_counts;
  removed = λ place tree well. removed_counts place tree well.directories;
  moved = moved_counts;
}
