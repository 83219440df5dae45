use Rattle.tree_changes.proofs.Passing.{linked_passed, made_passed, moved_passed, removed_passed, unlinked_passed}
use Rattle.tree_changes.proofs.trees.refusals_that_are_passed.Goals as goal

pub returns : goal.returns
returns c = record { made = made_passed; linked = linked_passed; unlinked = unlinked_passed; removed = removed_passed; moved = moved_passed }
