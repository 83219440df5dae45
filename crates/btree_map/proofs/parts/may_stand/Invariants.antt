use Rattle.btree_map.proofs.Meeting.{AreTried}
use Rattle.btree_map.proofs.parts.may_stand.Given as goal

abbrev pub invariant-loop-value : goal.invariant-loop-value
invariant-loop-value l = AreTried l.btree l.keys.entries l.value-iterator
