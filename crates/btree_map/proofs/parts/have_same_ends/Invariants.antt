use Rattle.btree_map.proofs.Meeting.{IsMeeting}
use Rattle.btree_map.proofs.parts.have_same_ends.Given as goal

abbrev pub invariant-loop-greatest : goal.invariant-loop-greatest
invariant-loop-greatest l = IsMeeting l.keys.ends l.ends l.leaves l.greatest-iterator
