use Rattle.btree_map.specs.Trees.{cut_in}
use Rattle.dirty_nodes.proofs.Splitting.{IsLeafAfter}
use Rattle.dirty_nodes.proofs.splits.leaf_after.Given as goal

abbrev pub invariant-loop-update : goal.invariant-loop-update
invariant-loop-update l = IsLeafAfter (cut_in l.map l.btree) l.btree l.updates l.end l.update-index l.leaf
